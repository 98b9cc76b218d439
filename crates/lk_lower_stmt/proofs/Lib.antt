pub mod Deeds
pub mod Loops
pub mod Objects
pub mod Rules
pub mod Unlabelled
