pub mod Program
pub mod Trees
