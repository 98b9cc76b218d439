pub mod EdgeEnds
pub mod HeldLemmas
pub mod LawLemmas
pub mod MoreRaces
pub mod OneAnalysis
pub mod Sorted
pub mod Walking
pub mod AlikeTypes
pub mod AlikeEdges
mod OwnSite
pub mod NodesThere
pub mod OneContent
pub mod VoidNodes
pub mod RowEnds
pub mod Inside
pub mod OneCode
