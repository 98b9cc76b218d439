pub mod AgainLemmas
pub mod FoundLemmas
pub mod GraphLemmas
pub mod OrderLemmas
pub mod PassingLemmas
pub mod SearchLemmas
pub mod SingleLemmas
pub mod StepLemmas
