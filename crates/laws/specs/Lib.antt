pub mod Every
pub mod Standing
pub mod Money
pub mod Awarding
pub mod Positions
pub mod Booking
pub mod Ranking
