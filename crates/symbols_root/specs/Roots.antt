-- The view of a root, the tables that it stores, and when it refuses to store a module.
use Rattle.std.specs.Prelude.{◌≡◌, ℕ, ◌<◌, ◌≤◌, ◌-◌, ◌^◌, ◌++◌, [], ◌∷◌, false, if◌then◌else◌, List}
use Rattle.std.specs.Prelude.{length, fold, Option, Some, None, slice_get, slice_index_or, string_bytes}
use Rattle.symbols_ast.specs.declared.ids.ModuleId.{ModuleId}
use Rattle.symbols_ast.specs.Graph.{GraphView, ModuleView}
use Rattle.symbols_table.specs.declared.info.fault.SymbolsFault.{SymbolsFault}
use Rattle.symbols_table.specs.declared.info.fault.SymbolsFault.TheVariants as fault
use Rattle.symbols_table.specs.Analysis.{IsAnalyzedTable, HasTooManySymbols, symbol_count, table_changes_from_tree_or_json}
use Rattle.symbols_table.specs.Modules.{AnalyzableSource, SymbolTable, analyzable_source}
use Rattle.symbols_root.specs.declared.limits.Limits.{Limits}
use Rattle.symbols_root.specs.declared.rules.Rules.{Rules}
use Rattle.symbols_root.specs.Specifiers.{module_with_specifier, contains_specifier}

-- a root in contracts: its graph, its rules, its limits, and the own specifiers of the stored modules in order of storing. The number of a
-- module is its index among them, and its table is that of the graph's module
pub record RootView : Type 0 where
  pub graph : GraphView
  pub rules : Rules
  pub limits : Limits
  pub stored : List (List ℕ)

-- a root with no module stored
abbrev pub empty_root : GraphView → Rules → Limits → RootView
empty_root graph rules limits = record { graph = graph; rules = rules; limits = limits; stored = [] }

-- the widest limits: 2 ^ 32 - 1 modules, and 2 ^ 32 - 1 symbols in a module
abbrev pub widest_limits : Limits
widest_limits = record { modules = 2 ^ 32 - 1; symbols = 2 ^ 32 - 1 }

-- the root with the module of this specifier, if one is needed: it is stored last, unless it is stored already
abbrev pub root_with_stored_module : RootView → Option (List ℕ) → RootView
root_with_stored_module root None = root
root_with_stored_module root (Some specifier) = record root {
  stored = if contains_specifier root.stored specifier then root.stored else root.stored ++ specifier
      ∷ [];
}

-- the root with each of these modules stored in turn, unless it is stored already
abbrev pub root_with_stored_modules : RootView → List (List ℕ) → RootView
root_with_stored_modules root specifiers = fold (λ r specifier. root_with_stored_module r (Some specifier)) root specifiers

-- the specifier of a stored module; none if no module has this number
abbrev pub maybe_specifier : RootView → ModuleId → Option (List ℕ)
maybe_specifier root module_id = slice_get root.stored module_id.0

-- the specifier of the module of this number; empty if none is stored
abbrev pub specifier_in : RootView → ModuleId → List ℕ
specifier_in root module_id = slice_index_or root.stored module_id.0 []

-- the table is the complete table of the graph's module of this specifier, with this module number
pub record IsTableOfModule (graph : GraphView) (limit : ℕ) (module_id : ModuleId) (specifier : List ℕ) (table : SymbolTable) : Type 0 where
  pub graph_module : ModuleView
  pub source : AnalyzableSource
  pub under : module_with_specifier graph specifier ≡ Some graph_module
  pub is_source_of_module : analyzable_source graph_module.content ≡ Some source
  pub is_analyzed_table : IsAnalyzedTable module_id specifier source limit table

-- the table is that of the stored module of this number
abbrev pub IsTableOfStoredModule : RootView → ModuleId → SymbolTable → Type 0
IsTableOfStoredModule root module_id table = (specifier : List ℕ) × (maybe_specifier root module_id ≡ Some specifier)
    × IsTableOfModule root.graph root.limits.symbols module_id specifier table

-- the module of this specifier is needed and isn't stored
abbrev pub IsNeededAndNotStored : RootView → Option (List ℕ) → List ℕ → Type 0
IsNeededAndNotStored root needed specifier = (needed ≡ Some specifier) × (contains_specifier root.stored specifier ≡ false)

-- one more module may be stored
abbrev pub HasRoomForModule : RootView → Type 0
HasRoomForModule root = length root.stored < root.limits.modules

-- why the needed module isn't stored: an allocation failed, the root has no room, or it has room and the module has too many symbols.
-- Unknown numbers are no reason
abbrev pub IsStoringFault : RootView → Option (List ℕ) → SymbolsFault → Type 0
IsStoringFault root needed fault.OutOfMemory = Unit {0}
IsStoringFault root needed fault.TooManyModules = (specifier : List ℕ) × IsNeededAndNotStored root needed specifier × (root.limits.modules ≤ length root.stored)
IsStoringFault root needed (fault.TooManySymbols specifier) = IsNeededAndNotStored root needed (string_bytes specifier) × HasRoomForModule root
    × ((m : ModuleView) × (module_with_specifier root.graph (string_bytes specifier) ≡ Some m) × HasTooManySymbols m root.limits.symbols)
IsStoringFault root needed fault.UnknownModule = ⊥
IsStoringFault root needed fault.UnknownSymbol = ⊥

-- the module of this specifier may be stored: the root has room, and the module has no more symbols than the limit
pub record IsModuleWithinLimits (root : RootView) (specifier : List ℕ) : Type 0 where
  pub room : HasRoomForModule root
  pub few : (m : ModuleView) (source : AnalyzableSource) → module_with_specifier root.graph specifier ≡ Some m → analyzable_source m.content ≡ Some source
      → symbol_count (table_changes_from_tree_or_json source) ≤ root.limits.symbols
