pub mod LastPlaces
pub mod TurnedLists
