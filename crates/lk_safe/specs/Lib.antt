pub mod Owners
pub mod Safe
pub mod Soundness
pub mod Steps
