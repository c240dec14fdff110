pub mod ChangedModule
pub mod ClosedPart
