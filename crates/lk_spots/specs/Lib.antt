pub mod Laws
pub mod NodePlaces
pub mod Places
pub mod StatementPlaces
pub mod TypedPlaces
