pub mod Letters
pub mod Causes
pub mod Faults
pub mod Days
pub mod Texts
