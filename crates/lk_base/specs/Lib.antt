pub mod Code
pub mod Files
pub mod Lending
pub mod Status
pub mod Steps
pub mod formers
