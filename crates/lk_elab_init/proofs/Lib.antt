pub mod AbsentCells
pub mod AddressesByForm
pub mod Addressing
pub mod Giving
pub mod Members
pub mod Putting
pub mod Reaching
pub mod Standing
