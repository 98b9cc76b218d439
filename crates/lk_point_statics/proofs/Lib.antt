pub mod Beginning
pub mod Behind
pub mod Giving
pub mod Inverting
pub mod Moving
pub mod Near
pub mod Steps
