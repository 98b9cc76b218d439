pub mod FirstPlain
pub mod Rows
pub mod Scopes
pub mod Begun
