-- Laws on calls of a root after earlier calls. They are proved.
use Rattle.std.proofs.Common.{◌≡◌, Result, Ok, Err, sym, subst, ◌∙◌}
use Rattle.std.specs.Result.{IsErrAnd}
use Rattle.symbols_table.specs.declared.info.fault.SymbolsFault.{SymbolsFault}
use Rattle.symbols_table.specs.declared.info.fault.SymbolsFault.TheVariants.{OutOfMemory}
use Rattle.symbols_root.specs.Roots.{RootView}
use Rattle.symbols_root.specs.Growing.{HasGrown}
use Rattle.symbols_root.specs.Calls.{HasGrownAndFailsOnlyFor}
use Rattle.symbols_root.specs.laws.Growing.{has_grown_trans}

-- `HasGrownAndFailsOnlyFor` also holds from an earlier root on, and for more reasons
pub fails_only_for_after_growth : {A : Type 0} {a b c : RootView} {P Q : SymbolsFault → Type 0} (result : Result A SymbolsFault) → HasGrown a b
    → ((fault : SymbolsFault) → P fault → Q fault) → HasGrownAndFailsOnlyFor b c P result → HasGrownAndFailsOnlyFor a c Q result
fails_only_for_after_growth (Ok x) first further then = record { grown = has_grown_trans first then.grown; refused = tt; enough = λ wide. tt }
fails_only_for_after_growth (Err fault) first further then =
    record { grown = has_grown_trans first then.grown; refused = further fault then.refused; enough = λ wide. then.enough (first.limits ∙ wide) }

-- a call that fails only with `OutOfMemory` has `HasGrownAndFailsOnlyFor`, if that is a reason
pub fails_only_for_out_of_memory : {A : Type 0} {a b : RootView} {P : SymbolsFault → Type 0} (result : Result A SymbolsFault) → HasGrown a b
    → IsErrAnd result (λ fault. fault ≡ OutOfMemory) → P OutOfMemory → HasGrownAndFailsOnlyFor a b P result
fails_only_for_out_of_memory (Ok x) grown is memory_case = record { grown = grown; refused = tt; enough = λ wide. tt }
fails_only_for_out_of_memory {P = P} (Err fault) grown is memory_case = record { grown = grown; refused = subst P (sym is) memory_case; enough = λ wide. is }
