pub mod CrossingLemmas
pub mod FlowLemmas
pub mod InflowLemmas
pub mod TakeLemmas
