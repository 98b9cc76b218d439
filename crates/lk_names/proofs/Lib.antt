pub mod Environments
pub mod Givens
pub mod KnownScopes
pub mod LatestNames
pub mod TellingRules
