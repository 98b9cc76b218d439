pub mod Links
pub mod Making
pub mod Only
