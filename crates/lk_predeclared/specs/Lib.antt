pub mod Plain
pub mod Functions
pub mod Scope
pub mod Words
pub mod Beginning
