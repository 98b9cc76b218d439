mod Assigned
mod CallForms
mod CalledWays
mod CalledWords
mod Casting
mod Decided
mod FormsAt
pub mod Gathered
mod Giving
mod Keeping
mod LibraryRows
mod Named
mod Operating
mod Passing
mod Promoting
pub mod PuttingLocals
mod Roles
mod Sizing
mod Ruled
pub mod Used
mod Within
