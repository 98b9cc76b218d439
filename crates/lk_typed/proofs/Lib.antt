pub mod Elements
pub mod FirstTypes
pub mod LeastCodes
pub mod Meanings
pub mod Means
pub mod SameTrees
pub mod Verdicts
pub mod Redeclarable
