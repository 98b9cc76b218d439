pub mod Cells
pub mod Computing
pub mod Converting
pub mod Frames
pub mod Moves
pub mod Operands
pub mod Parts
pub mod Places
