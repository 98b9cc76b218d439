pub mod Orders
pub mod Paths
pub mod Sorting
