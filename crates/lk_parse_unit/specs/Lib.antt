pub mod Leads
pub mod Predeclared
pub mod Tree
pub mod Parsing
pub mod Reading
pub mod Nests
