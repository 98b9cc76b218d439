pub mod CodeLaws
pub mod FlowLaws
pub mod Laws
pub mod PathLaws
pub mod RowLaws
