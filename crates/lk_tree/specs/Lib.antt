pub mod Depth
pub mod Numbers
