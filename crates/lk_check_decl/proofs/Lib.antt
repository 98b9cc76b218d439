pub mod Told
pub mod Sizes
mod Made
mod MemberSizes
mod Sets
mod MainLemmas
mod FieldLemmas
mod GivenSizes
mod Composites
mod CompositeTypes
