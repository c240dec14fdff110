-- The graph of the file that the arguments name, or why there is none.
use Rattle.std.proofs.Common.{◌≡◌, ◌∙◌, ℕ, List, Some, sym, ap}
use Rattle.std.specs.Prelude.{Result, Ok, Err, Vec, MatchResult}
use Rattle.std.specs.Global.{Global}
use Rattle.symbols_root.specs.declared.rules.Rules.{Rules}
use Rattle.symq_reader.specs.declared.faults.FormatFault.{FormatFault}
use Rattle.symq_reader.specs.declared.faults.FormatFault.TheVariants as format
use Rattle.symq_core.specs.declared.exit_error.ExitError.TheVariants as exit
use Rattle.symq_reader.specs.GraphText.{IsReadOutcome, read_outcome_of_bytes}
use Rattle.symq_core.specs.Arguments.{FileReadOutcomes, rules_and_path_of_args, IsArgsFault}

abbrev value_or : {A D : Type 0} → A → Result A D → A
value_or default (Ok x) = x
value_or default (Err e) = default

-- if the mapped result is `Ok`, so was the result
pub ok_before : {A E D : Type 0} (r : Result A E) (mapped : Result A D) (x : A) → mapped ≡ Ok x → MatchResult r (λ y. mapped ≡ Ok y) (λ e. ⊥) → r ≡ Ok x
ok_before (Ok y) mapped x was is = ap (λ z. Ok z) (ap (value_or y) (sym is ∙ was))
ok_before (Err e) mapped x was is = absurd is

-- the bytes of the file are no graph, or an allocation failed
pub no_graph : (reads : FileReadOutcomes) (args : List (List ℕ)) (rules : Rules) (path : List ℕ) (bytes : Vec ℕ Global)
    → rules_and_path_of_args args ≡ Some (rules, path) → reads path (Ok bytes) → (fault : FormatFault)
    → IsReadOutcome (Err fault) (read_outcome_of_bytes bytes.items) → IsArgsFault reads args (exit.Format fault)
no_graph reads args rules path bytes named read format.OutOfMemory is = tt
no_graph reads args rules path bytes named read format.NotJson is =
    record { rules = rules; path = path; named = named; bytes = bytes; read = read; no_graph = is }
no_graph reads args rules path bytes named read format.BadForm is =
    record { rules = rules; path = path; named = named; bytes = bytes; read = read; no_graph = is }
