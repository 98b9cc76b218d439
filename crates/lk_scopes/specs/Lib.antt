pub mod Latest
pub mod Places
