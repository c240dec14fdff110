pub mod Annotations
pub mod EdgeRules
pub mod EdgeTable
pub mod DepPaths
pub mod Dependencies
pub mod DeclDependencies
pub mod inner
