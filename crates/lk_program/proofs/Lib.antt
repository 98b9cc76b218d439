pub mod ClashSpots
pub mod Places
pub mod Typed
