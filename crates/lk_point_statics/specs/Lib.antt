pub mod Asking
pub mod Backwards
pub mod Behind
pub mod Leading
pub mod Near
pub mod PointStatics
pub mod Writing
