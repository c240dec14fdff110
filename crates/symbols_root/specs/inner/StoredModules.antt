-- The stored modules of a root: definitions for inner functions and proofs.
use Rattle.std.specs.Prelude.{◌≡◌, ℕ, List, Some, slice_get}
use Rattle.symbols_ast.specs.declared.ids.ModuleId.{ModuleId}
use Rattle.symbols_ast.specs.Graph.{GraphView, ModuleView}
use Rattle.symbols_table.specs.Modules.{symbol_table_of}
use Rattle.symbols_root.specs.Specifiers.{module_with_specifier}
use Rattle.symbols_root.specs.TypesChains.{get_prefer_types}
use Rattle.symbols_root.specs.Roots.{IsTableOfModule}
use Rattle.symbols_root.specs.StoredModules.{StoredModule}

-- each stored module has the complete table of the graph's module, and its number is its index
abbrev pub AreTablesOfModules : GraphView → ℕ → List StoredModule → Type 0
AreTablesOfModules graph limit entries = (i : ℕ) (entry : StoredModule) → slice_get entries i ≡ Some entry
    → IsTableOfModule graph limit (record { 0 = i }) entry.0.now (symbol_table_of entry.1)

-- the specifier resolves to a module of the graph, which is stored under this number
pub record ResolvesToStored (graph : GraphView) (stored : List (List ℕ)) (module_id : ModuleId) (specifier : List ℕ) : Type 0 where
  pub graph_module : ModuleView
  pub resolves : get_prefer_types graph specifier ≡ Some graph_module
  pub at : slice_get stored module_id.0 ≡ Some graph_module.specifier
  pub under : module_with_specifier graph graph_module.specifier ≡ Some graph_module
