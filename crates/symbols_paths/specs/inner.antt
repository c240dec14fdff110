-- For inner functions and proofs alone: nothing in this directory has to be trusted.
pub mod ReplacedDefinitions
pub mod Views
pub mod PathBuilders
pub mod Needed
pub mod SearchSteps
pub mod DepAnswers
pub mod StillToCome
pub mod SearchWork
pub mod VisitedSymbols
pub mod SearchInvariants
