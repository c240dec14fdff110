-- Definitions for inner functions and proofs only: nothing in this directory has to be trusted.
pub mod AnswerViews
pub mod QueryFaults
pub mod Given
pub mod SpecifierLists
