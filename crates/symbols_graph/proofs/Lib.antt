pub mod FieldLists
pub mod NodeLemmas
pub mod Giving
pub mod FaultOrder
pub mod DepthLemmas
pub mod NodeSteps
pub mod Faultless
mod RepeatLemmas
mod ChainLemmas
mod TreeRefusal
mod GraphFaultOrder
mod FilledMaps
mod ModuleMaps
mod ResolutionMaps
mod GraphLookups
mod DistinctEntries
mod PutModules
mod PutFaults
mod OpenedAnew
