mod Labelling
mod Listing
pub mod Putting
mod Telling
