-- For inner functions and proofs alone: nothing in this directory has to be trusted.
pub mod Reading
pub mod JsonData
pub mod Objects
pub mod Streams
pub mod Pieces
pub mod Outcomes
pub mod ListTexts
