pub mod Counted
pub mod Lists
pub mod Cells
