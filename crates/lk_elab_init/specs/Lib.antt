pub mod Cells
pub mod Giving
pub mod Places
pub mod Reaching
pub mod Settled
pub mod Source
pub mod Steps
pub mod Words
