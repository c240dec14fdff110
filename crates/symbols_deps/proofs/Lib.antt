pub mod KnownLemmas
pub mod PathLists
pub mod PathOrders
pub mod StepLemmas
pub mod WholeLists
pub mod VisitLists
pub mod DependencyLists
pub use Rattle.symbols_deps.proofs.KnownLemmas.{unnamed_none}
