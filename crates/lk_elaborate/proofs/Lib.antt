mod BodyLocals
mod BodyPut
mod Carried
mod Casing
pub mod Cells
mod Declaring
mod Defining
pub mod Externals
mod FunctionTypes
mod InDefinitions
mod InTurn
pub mod Inside
pub mod LocalInits
mod LocalsOf
mod Making
pub mod MakingStatics
pub mod Outside
mod ParametersMore
mod ParametersPut
pub mod PuttingDeclared
pub mod PuttingStatements
pub mod PuttingThose
pub mod Quiet
mod Shaping
pub mod Telling
pub mod ToldSource
mod WholeUnit
