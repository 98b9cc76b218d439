pub mod Causes
pub mod Hashes
pub mod Paths
pub mod Pointers
pub mod Values
