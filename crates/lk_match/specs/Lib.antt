pub mod Passages
pub mod Levels
pub mod Summaries
