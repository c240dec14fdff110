-- For inner functions and proofs alone: nothing in this directory has to be trusted.
pub mod JsonWriting
pub mod Sessions
pub mod TailItems
