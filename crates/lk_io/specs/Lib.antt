pub mod Calls
pub mod Counts
pub mod MemShelf
pub mod MemSink
pub mod Shelf
pub mod Sink
pub mod NeverFails
