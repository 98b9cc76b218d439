pub mod LevelLemmas
pub mod KeyLemmas
pub mod SummaryLemmas
