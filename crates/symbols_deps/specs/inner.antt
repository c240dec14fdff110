-- Definitions that only inner functions and proofs use. Nothing in this directory has to be trusted.
pub mod References
pub mod TableParts
pub mod KnownFacts
pub mod Visits
