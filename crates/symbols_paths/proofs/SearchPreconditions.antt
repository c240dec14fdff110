-- The precondition of a search, and what holds after it, in a root that has grown.
use Rattle.std.proofs.Common.{ℕ, List, Result, Err, ◌∙◌}
use Rattle.symbols_table.specs.declared.info.fault.SymbolsFault.{SymbolsFault}
use Rattle.symbols_root.specs.Roots.{RootView}
use Rattle.symbols_root.specs.Growing.{HasGrown}
use Rattle.symbols_root.specs.Calls.{HasGrownAndFailsOnlyFor}
use Rattle.symbols_root.specs.laws.Calls.{fails_only_for_after_growth}
use Rattle.symbols_root.specs.laws.Growing.{has_grown_trans}
use Rattle.symbols_paths.specs.NeededModules.{IsFaultOfStoringOneOf}
use Rattle.symbols_paths.specs.laws.Storing.{fault_of_storing_one_of_more}

-- `HasGrownAndFailsOnlyFor` of a call, after the root has grown, also holds from before it grew, for what is needed from there
pub keeps_wider : {A : Type 0} {a b c : RootView} {P Q : List ℕ → Type 0} (result : Result A SymbolsFault) → HasGrown a b → ((v : List ℕ) → Q v → P v)
    → HasGrownAndFailsOnlyFor b c (IsFaultOfStoringOneOf c Q) result → HasGrownAndFailsOnlyFor a c (IsFaultOfStoringOneOf c P) result
keeps_wider result first wider then = fails_only_for_after_growth result first (λ fault refused. fault_of_storing_one_of_more refused wider) then

-- the same for a fault that is passed on
pub fault_wider : {A B : Type 0} {a b c : RootView} {P Q : List ℕ → Type 0} {fault : SymbolsFault} → HasGrown a b → ((v : List ℕ) → Q v → P v)
    → HasGrownAndFailsOnlyFor {A = A} b c (IsFaultOfStoringOneOf c Q) (Err fault) → HasGrownAndFailsOnlyFor {A = B} a c (IsFaultOfStoringOneOf c P) (Err fault)
fault_wider first wider then = record {
  grown = has_grown_trans first then.grown;
  refused = fault_of_storing_one_of_more then.refused wider;
  enough = λ wide. then.enough (first.limits ∙ wide);
}
