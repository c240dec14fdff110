-- Definitions that only inner functions and proofs use. Nothing in this directory has to be trusted.
pub mod Tables
pub mod Depths
pub mod CheckSteps
pub mod PutSteps
