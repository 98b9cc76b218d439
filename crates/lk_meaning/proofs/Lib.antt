pub mod CellLemmas
pub mod Doing
pub mod LawLemmas
pub mod Lengths
pub mod Lists
pub mod Located
pub mod Reading
pub mod Told
