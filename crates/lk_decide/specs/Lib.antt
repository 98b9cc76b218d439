pub mod Accesses
pub mod Frames
pub mod Locks
pub mod Operators
pub mod Roots
pub mod Threads
pub mod Undefined
pub mod Waiting
