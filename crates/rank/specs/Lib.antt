pub mod Ranks
pub mod Orders
pub mod Narrow
pub mod Before
pub mod Laws
