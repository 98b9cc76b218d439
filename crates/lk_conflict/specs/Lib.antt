pub mod Bases
pub mod Facts
pub mod Kinds
pub mod Listing
pub mod Places
pub mod Settings
