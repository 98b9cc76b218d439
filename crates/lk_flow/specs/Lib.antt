pub mod Actions
pub mod Closing
pub mod Conversions
pub mod Counting
pub mod Finding
pub mod Growing
pub mod Rows
