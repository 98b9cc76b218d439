pub mod Analysis
pub mod Answer
pub mod Outcome
pub mod Results
pub mod Run
pub mod Seen
pub mod Texts
pub mod Words
