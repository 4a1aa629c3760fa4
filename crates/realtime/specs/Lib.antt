pub mod Sources
pub mod Feeds
pub mod Bounds
pub mod Laws
