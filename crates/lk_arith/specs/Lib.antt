pub mod Conversions
pub mod Kinds
pub mod Operators
pub mod Steps
