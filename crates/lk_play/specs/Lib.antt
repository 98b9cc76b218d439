pub mod Calls
pub mod Lines
pub mod Played
pub mod Plays
pub mod Races
pub mod Schedules
