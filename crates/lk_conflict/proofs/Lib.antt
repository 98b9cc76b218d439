pub mod BasisLemmas
pub mod EntryLemmas
pub mod KindLemmas
pub mod PlaceLemmas
pub mod RaceLemmas
