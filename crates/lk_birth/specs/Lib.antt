pub mod Births
pub mod Starts
pub mod Begins
