-- The exports of a module, and the unresolved statements of the modules that it reaches.
use Rattle.std.specs.Prelude.{◌≡◌, ℕ, ◌<◌, ◌⊎◌, ◌↔◌, List, [], ◌∷◌, ◌++◌, length, take, None, Contains, AllPairs, slice_get, Some}
use Rattle.symbols_ast.specs.declared.ids.SymbolId.{SymbolId}
use Rattle.symbols_table.specs.Events.{default_export_name}
use Rattle.symbols_exports.specs.Chains.{StarTargets, star_target_at, IsSimpleChain, IsChainBefore, IsChainBeforeOrEqual, IsLeastChain, IsReachedByStars}

-- for each module its local exports: names with their symbols
abbrev pub ExplicitExports : Type 0
ExplicitExports = List ℕ → List (List ℕ × SymbolId)

-- an export: its name, its chain, the module at the end of the chain, and its symbol there
pub record ExportEntry : Type 0 where
  pub name : List ℕ
  pub chain : List ℕ
  pub exporter : List ℕ
  pub symbol : SymbolId

-- a candidate: a simple chain ends at a module that exports the name locally. For `default` the chain is empty: no `export *` re-exports it
pub record IsExportCandidate (statements : StarTargets) (explicit : ExplicitExports) (start : List ℕ) (entry : ExportEntry) : Type 0 where
  pub ends_at : IsSimpleChain statements start entry.chain entry.exporter
  pub exporter_exports_name_explicitly : Contains (explicit entry.exporter) (entry.name, entry.symbol)
  pub default_has_empty_chain : entry.name ≡ default_export_name → entry.chain ≡ []

-- an export: the candidate with the least chain among those of its name
pub record IsExport (statements : StarTargets) (explicit : ExplicitExports) (start : List ℕ) (entry : ExportEntry) : Type 0 where
  pub candidate : IsExportCandidate statements explicit start entry
  pub least : (other : ExportEntry) → IsExportCandidate statements explicit start other → other.name ≡ entry.name → IsChainBeforeOrEqual entry.chain other.chain

-- x occurs in the list before an occurrence of y
abbrev pub IsListedBefore : {A : Type 0} → List A → A → A → Type 0
IsListedBefore xs x y = (j : ℕ) × (slice_get xs j ≡ Some y) × Contains (take j xs) x

-- in chain order, and for the same chain in the order of the exporter's local exports
abbrev pub IsExportEntryBefore : ExplicitExports → ExportEntry → ExportEntry → Type 0
IsExportEntryBefore explicit x y =
    IsChainBefore x.chain y.chain ⊎ ((x.chain ≡ y.chain) × IsListedBefore (explicit x.exporter) (x.name, x.symbol) (y.name, y.symbol))

-- the exports of a module, in order
pub record AreExports (statements : StarTargets) (explicit : ExplicitExports) (start : List ℕ) (entries : List ExportEntry) : Type 0 where
  pub all : (entry : ExportEntry) → Contains entries entry ↔ IsExport statements explicit start entry
  pub ordered : AllPairs (IsExportEntryBefore explicit) entries

-- a statement by its module and its index there
abbrev pub StarPosition : Type 0
StarPosition = List ℕ × ℕ

-- a statement of a reachable module that resolves to no module
abbrev pub IsUnresolvedStar : StarTargets → List ℕ → StarPosition → Type 0
IsUnresolvedStar statements start at = IsReachedByStars statements start at.0 × (at.1 < length (statements at.0)) × (star_target_at statements at.0 at.1 ≡ None)

-- in the order of the least chains to their modules, each followed by the index
abbrev pub IsStarStatementBefore : StarTargets → List ℕ → StarPosition → StarPosition → Type 0
IsStarStatementBefore statements start x y =
    (c d : List ℕ) → IsLeastChain statements start c x.0 → IsLeastChain statements start d y.0 → IsChainBefore (c ++ x.1 ∷ []) (d ++ y.1 ∷ [])

-- the unresolved statements of the reachable modules, in order
pub record AreUnresolvedStars (statements : StarTargets) (start : List ℕ) (found : List StarPosition) : Type 0 where
  pub all : (at : StarPosition) → Contains found at ↔ IsUnresolvedStar statements start at
  pub ordered : AllPairs (IsStarStatementBefore statements start) found
