pub mod Changes
pub mod Contexts
pub mod Laws
pub mod Right
pub mod Sound
