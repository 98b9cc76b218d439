pub mod Adding
pub mod Closing
pub mod Ids
pub mod Marks
pub mod Rows
pub mod Spread
pub mod Words
