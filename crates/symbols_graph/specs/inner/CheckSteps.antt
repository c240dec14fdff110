-- The contracts of the steps of a graph's check, and the contents of the filled maps.
use Rattle.std.specs.Prelude.{◌≡◌, ◌≢◌, ℕ, ◌<◌, Bool, true, List, Option, Some, None, String, slice_get, take, option_and_then, string_bytes}
use Rattle.std.specs.Global.{Global}
use Rattle.std.specs.List.{list_any}
use Rattle.std.specs.Option.{option_map}
use Rattle.indexmap.specs.IndexMap.{get_by_text}
use Rattle.symbols_ast.specs.declared.graph.faults.GraphFault.{GraphFault}
use Rattle.symbols_ast.specs.declared.graph.faults.GraphFault.TheVariants as fault
use Rattle.symbols_ast.specs.Graph.{GraphView}
use Rattle.symbols_graph.specs.Repeats.{IsRepeatedEntryAt}
use Rattle.symbols_graph.specs.GraphFaults.{IsFaultAt, graph_fault_rank}
use Rattle.symbols_graph.specs.Tables.{StringMap}

-- The result is the first entry for which P holds, or `None` if it holds for no entry.
abbrev pub IsFirstWhere : {A : Type 0} → (ℕ → A → Type 0) → Option A → Type 0
IsFirstWhere {A} P None = (i : ℕ) (x : A) → P i x → ⊥
IsFirstWhere {A} P (Some x) = (i : ℕ) × P i x × ((j : ℕ) (y : A) → j < i → P j y → ⊥)

-- No entry is repeated.
abbrev pub HasNoRepeat : {A : Type 0} → List A → Type 0
HasNoRepeat {A} xs = (i : ℕ) (x : A) → IsRepeatedEntryAt xs i x → ⊥

-- Entry i is x, and an earlier entry is equal to x by eq.
abbrev pub IsRepeatBy : {A : Type 0} → (A → A → Bool) → List A → ℕ → A → Type 0
IsRepeatBy eq xs i x = (slice_get xs i ≡ Some x) × (list_any (λ y. eq y x) (take i xs) ≡ true)

-- The graph has no fault of this rank.
abbrev pub HasNoGraphFaultOfRank : GraphView → ℕ → Type 0
HasNoGraphFaultOfRank graph at = (i : ℕ) (f : GraphFault) → graph_fault_rank f ≡ at → IsFaultAt graph i f → ⊥

-- The graph has the fault, which is of this rank, and no fault of this rank at an earlier entry; or an allocation failed.
abbrev pub IsFirstGraphFaultOfRank : GraphView → ℕ → GraphFault → Type 0
IsFirstGraphFaultOfRank graph at g = g ≢ fault.OutOfMemory
    → (graph_fault_rank g ≡ at) × ((j : ℕ) × IsFaultAt graph j g × ((i : ℕ) (f : GraphFault) → graph_fault_rank f ≡ at → i < j → IsFaultAt graph i f → ⊥))

-- The specifier that the maps have for a referrer and a specifier text.
abbrev pub resolved_specifier_in_maps : StringMap (StringMap (String Global)) → List ℕ → List ℕ → Option (List ℕ)
resolved_specifier_in_maps tables referrer specifier_text =
    option_map string_bytes (option_and_then (λ table. get_by_text table specifier_text) (get_by_text tables referrer))
