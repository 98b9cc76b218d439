pub mod LinkLemmas
pub mod ListLemmas
pub mod OverLemmas
pub mod SetLemmas
