-- Definitions for inner functions and proofs only: nothing in this directory has to be trusted.
pub mod Collecting
pub mod NameFilter
pub mod OneName
pub mod PublicNames
