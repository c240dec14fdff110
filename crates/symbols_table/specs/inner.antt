-- Definitions that only inner functions and proofs use. Nothing in this directory has to be trusted.
pub mod Patterns
pub mod MemberViews
pub mod VariablesViews
pub mod NamespaceViews
pub mod Symbols
pub mod NamePaths
pub mod LocalNames
pub mod SymbolSets
pub mod Tables
pub mod ModuleBuilderSteps
pub mod Levels
