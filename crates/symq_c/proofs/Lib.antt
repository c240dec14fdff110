pub mod AsBox
pub mod LineAnswers
pub mod ModuleLists
pub mod ModuleRefusals
pub mod Refusals
pub mod SameGraphs
