pub mod AnswerLemmas
pub mod MainSpot
pub mod NoCircles
pub mod OneOutcome
pub mod RunLemmas
pub mod SafeReports
pub mod Suspects
pub mod VerdictsThere
