pub mod AnswerLemmas
pub mod MainSpot
pub mod OneOutcome
pub mod RunLemmas
mod SuspectsThere
pub mod VerdictsThere
mod WordLemmas
