-- Lists of specifiers, and what they are for: definitions for inner functions and proofs.
use Rattle.std.specs.Prelude.{ℕ, List, map, Result}
use Rattle.std.specs.Borrow.{Bor}
use Rattle.symbols_table.specs.declared.info.fault.SymbolsFault.{SymbolsFault}
use Rattle.symbols_root.specs.Roots.{RootView}
use Rattle.symbols_root.specs.Calls.{HasGrownAndFailsOnlyFor}
use Rattle.symbols_paths.specs.NeededModules.{IsFaultOfStoringOneOf, AreNewlyStoredAmong}
use Rattle.symbols_answers.specs.Questions.{QueryView}
use Rattle.symbols_queries.specs.Queries.{IsNeededForInputs}

-- the specifiers in a set
abbrev pub specifiers_of_keys : List (Bor (List ℕ)) → List (List ℕ)
specifiers_of_keys keys = map (λ (key : Bor (List ℕ)). key.now) keys

-- after a call for the inputs of a query: stored modules stay, newly stored are only such as it needs, and a fault is that of storing one of
-- them
pub record HasGrownAndInputsFailOnlyStoring {A : Type 0} (old new : RootView) (query : QueryView) (result : Result A SymbolsFault) : Type 0 where
  pub keeps : HasGrownAndFailsOnlyFor old new (IsFaultOfStoringOneOf new (IsNeededForInputs old.graph query)) result
  pub stores : AreNewlyStoredAmong old new (IsNeededForInputs old.graph query)
