pub mod Converting
pub mod Dividing
pub mod Multiplying
pub mod Ranges
