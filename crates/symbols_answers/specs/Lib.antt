pub mod Inputs
pub mod Seen
pub mod Questions
pub mod Answers
pub mod laws
