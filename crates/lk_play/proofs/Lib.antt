pub mod Cuts
pub mod Racing
pub mod Taking
pub mod Turns
