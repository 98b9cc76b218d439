pub mod Levels
pub mod Left
pub mod Complete
pub mod Sound
pub mod Exactly
