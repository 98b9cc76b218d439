pub mod Flows
pub mod Lays
pub mod Reaches
