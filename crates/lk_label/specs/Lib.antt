pub mod Gathering
pub mod Holding
pub mod Inner
pub mod Listing
pub mod Naming
pub mod Parts
pub mod Walking
