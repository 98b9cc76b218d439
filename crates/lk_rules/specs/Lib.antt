pub mod FirstFaults
pub mod Keeping
pub mod Laws
pub mod LayerLaws
pub mod NodeLaws
pub mod Statements
