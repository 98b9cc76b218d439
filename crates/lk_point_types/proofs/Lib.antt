pub mod Alike
pub mod Converting
pub mod Filling
pub mod Found
pub mod GivenLemmas
pub mod MemberLemmas
pub mod WholeLemmas
