-- Facts about the result of a call, or its fault.
use Rattle.std.proofs.Common.{◌≡◌, Result, Ok, Err, IfOk, IfErr, sym, subst}
use Rattle.std.specs.Result.{IsErrAnd}
use Rattle.symbols_table.specs.declared.info.fault.SymbolsFault.{SymbolsFault}
use Rattle.symbols_table.specs.declared.info.fault.SymbolsFault.TheVariants.{OutOfMemory}

-- two facts about a result give a third
pub on_both : {A E : Type 0} {P Q R : A → Type 0} (r : Result A E) → ((x : A) → P x → Q x → R x) → IfOk r P → IfOk r Q → IfOk r R
on_both (Ok x) f g h = f x g h
on_both (Err e) f g h = tt

-- a fact about the only possible fault, a failed allocation
pub on_memory : {A : Type 0} (P : SymbolsFault → Type 0) (r : Result A SymbolsFault) → IsErrAnd r (λ fault. fault ≡ OutOfMemory) → P OutOfMemory → IfErr r P
on_memory P (Ok x) is collected_there = tt
on_memory P (Err fault) is collected_there = subst P (sym is) collected_there
