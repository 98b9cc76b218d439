pub mod Arrows
pub mod Crossings
pub mod Flowing
pub mod Inflows
