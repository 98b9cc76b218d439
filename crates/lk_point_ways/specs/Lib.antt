pub mod Kept
pub mod PointWays
