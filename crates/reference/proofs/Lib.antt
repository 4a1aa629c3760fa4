pub mod Ranked
pub mod Read
pub mod Table
