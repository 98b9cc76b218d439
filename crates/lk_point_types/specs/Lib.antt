pub mod Conversions
pub mod Each
pub mod Filled
pub mod Parameters
pub mod PointTypes
