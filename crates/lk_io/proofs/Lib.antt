pub mod FileMaps
pub mod Reading
pub mod Writing
