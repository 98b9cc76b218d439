pub mod Lending
pub mod Numbers
