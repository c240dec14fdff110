-- The contract of `resolve_symbol_dep`.
use Rattle.std.specs.Prelude.{◌≡◌, ◌<◌, ◌≤◌, ◌⊎◌, ℕ, List, [], ◌∷◌, length, map, Option, Some, None, MatchOption}
use Rattle.std.specs.Option.{option_map, option_map_or}
use Rattle.symbols_ast.specs.declared.ids.ModuleId.{ModuleId}
use Rattle.symbols_ast.specs.declared.ids.SymbolId.{SymbolId}
use Rattle.symbols_ast.specs.Graph.{GraphView}
use Rattle.symbols_ast.specs.Ids.{IdView}
use Rattle.symbols_nodes.specs.References.{SymbolReference, id, qualified_id, import_type}
use Rattle.symbols_table.specs.declared.info.fault.SymbolsFault.{SymbolsFault}
use Rattle.symbols_table.specs.declared.info.fault.SymbolsFault.TheVariants.{UnknownModule}
use Rattle.symbols_root.specs.declared.rules.Rules.{Rules}
use Rattle.symbols_root.specs.Roots.{RootView, specifier_in}
use Rattle.symbols_exports.specs.StarStatements.{resolve_specifier}
use Rattle.symbols_paths.specs.declared.symbol_dep.ResolvedSymbolDepEntry.{ResolvedSymbolDepEntry}
use Rattle.symbols_paths.specs.declared.symbol_dep.ResolvedSymbolDepEntry.TheVariants as entry
use Rattle.symbols_paths.specs.PathTrees.{SymbolBySpecifier, QualifiedNameParts, no_symbol, no_module, unresolved, PathTree, PathForest, leaf, no_trees}
use Rattle.symbols_paths.specs.PathTrees.{more_trees, forest_of_tree}
use Rattle.symbols_paths.specs.DeclTargets.{symbol_of_id}
use Rattle.symbols_paths.specs.PartTargets.{PartTargetView, part_is_symbol, itself, part_is_unresolved, import_part_target}
use Rattle.symbols_paths.specs.Computed.{paths_with_parts}
use Rattle.symbols_paths.specs.Views.{path_by_specifier, concat_module_ids, modules_of_path}
use Rattle.symbols_paths.specs.NeededModules.{IsNeededByReference, IsFaultOfStoringOneOf}
use Rattle.symbols_paths.specs.Answers.{AreDefinitionPathsWithAnyParts}

-- an entry: a path, or the specifier of a module
pub data DepEntryView : Type 0 where
  path_dep_entry : PathTree → DepEntryView
  module_dep_entry : List ℕ → DepEntryView

abbrev pub resolved_dep_entry_view : RootView → ResolvedSymbolDepEntry → DepEntryView
resolved_dep_entry_view root (entry.Path path) = path_dep_entry (path_by_specifier root path)
resolved_dep_entry_view root (entry.ImportType module_id) = module_dep_entry (specifier_in root module_id)

-- the modules of entries
abbrev pub modules_of_entry : ResolvedSymbolDepEntry → List ModuleId
modules_of_entry (entry.Path path) = modules_of_path path
modules_of_entry (entry.ImportType module_id) = module_id ∷ []

abbrev pub modules_of_entries : List ResolvedSymbolDepEntry → List ModuleId
modules_of_entries entries = concat_module_ids (map modules_of_entry entries)

-- each path as an entry
abbrev pub path_entries : PathForest → List DepEntryView
path_entries no_trees = []
path_entries (more_trees t f) = path_dep_entry t ∷ path_entries f

-- a symbol, and the parts to resolve in it
abbrev pub ReferencedSymbolWithParts : Type 0
ReferencedSymbolWithParts = SymbolBySpecifier × QualifiedNameParts

-- the symbol of a name in a module, with the parts after the name
abbrev pub symbol_referenced_by_id : GraphView → List ℕ → IdView → QualifiedNameParts → Option ReferencedSymbolWithParts
symbol_referenced_by_id graph specifier name parts =
    option_map (λ (t : SymbolId). (record { specifier = specifier; number = t }, parts)) (symbol_of_id graph specifier name)

-- the symbol that the first part resolves to, with the other parts
abbrev pub symbol_referenced_by_part : QualifiedNameParts → PartTargetView → Option ReferencedSymbolWithParts
symbol_referenced_by_part remaining (part_is_symbol t) = Some (t, remaining)
symbol_referenced_by_part remaining itself = None
symbol_referenced_by_part remaining (part_is_unresolved m) = None

-- the symbol and the parts of a reference in a module. None if the name has no symbol, the specifier resolves to no module, the module
-- doesn't export the first part, or the reference is to a module itself.
abbrev pub referenced_symbol : GraphView → List ℕ → SymbolReference → Option ReferencedSymbolWithParts
referenced_symbol graph specifier (id name) = symbol_referenced_by_id graph specifier name []
referenced_symbol graph specifier (qualified_id name parts) = symbol_referenced_by_id graph specifier name parts
referenced_symbol graph specifier (import_type specifier_text []) = None
referenced_symbol graph specifier (import_type specifier_text (part ∷ remaining)) =
    symbol_referenced_by_part remaining (import_part_target graph specifier specifier_text part remaining (resolve_specifier graph specifier specifier_text))

-- the unresolved entry of a name without a symbol
abbrev pub unresolved_id_path : List ℕ → IdView → QualifiedNameParts → PathForest
unresolved_id_path specifier name parts = forest_of_tree (leaf (unresolved (record { specifier = specifier; reason = no_symbol name; parts = parts })))

abbrev pub unresolved_part_path : PartTargetView → PathForest
unresolved_part_path (part_is_symbol t) = no_trees
unresolved_part_path itself = no_trees
unresolved_part_path (part_is_unresolved m) = forest_of_tree (leaf (unresolved m))

abbrev pub entry_of_imported_module : List ℕ → List ℕ → Option (List ℕ) → DepEntryView
entry_of_imported_module specifier specifier_text (Some target_specifier) = module_dep_entry target_specifier
entry_of_imported_module specifier specifier_text None =
    path_dep_entry (leaf (unresolved (record { specifier = specifier; reason = no_module specifier_text; parts = [] })))

-- the entries of a reference without a symbol: one unresolved entry, or the module
abbrev pub entries_of_reference_without_symbol : GraphView → List ℕ → SymbolReference → List DepEntryView
entries_of_reference_without_symbol graph specifier (id name) = path_entries (unresolved_id_path specifier name [])
entries_of_reference_without_symbol graph specifier (qualified_id name parts) = path_entries (unresolved_id_path specifier name parts)
entries_of_reference_without_symbol graph specifier (import_type specifier_text []) =
    entry_of_imported_module specifier specifier_text (resolve_specifier graph specifier specifier_text) ∷ []
entries_of_reference_without_symbol graph specifier (import_type specifier_text (part ∷ remaining)) =
    path_entries (unresolved_part_path (import_part_target graph specifier specifier_text part remaining (resolve_specifier graph specifier specifier_text)))

-- the entries, as a function of the rules and the graph
abbrev pub dep_entries_of : Rules → GraphView → List ℕ → SymbolReference → List DepEntryView
dep_entries_of rules graph specifier reference =
    option_map_or (λ (referenced : ReferencedSymbolWithParts). path_entries (paths_with_parts rules graph referenced.0 referenced.1))
    (referenced_symbol graph specifier reference) (entries_of_reference_without_symbol graph specifier reference)

-- a result: the paths of the symbol under the parts if the reference has one, else the other entries
abbrev pub AreResolvedEntriesOfReference : Rules → GraphView → List ℕ → SymbolReference → List DepEntryView → Type 0
AreResolvedEntriesOfReference rules graph specifier reference entries = MatchOption (referenced_symbol graph specifier reference) (entries
    ≡ entries_of_reference_without_symbol graph specifier reference) (λ referenced. (paths : PathForest)
    × AreDefinitionPathsWithAnyParts rules graph referenced.0 referenced.1 paths
    × (entries ≡ path_entries paths))

-- a fault: storing a module failed that the reference may need, or an allocation failed
abbrev pub IsFaultOfStoringForReference : RootView → List ℕ → SymbolReference → SymbolsFault → Type 0
IsFaultOfStoringForReference root specifier reference fault = IsFaultOfStoringOneOf root (IsNeededByReference root.rules root.graph specifier reference) fault

-- a fault: no module with this id is stored, and the root is unchanged
pub record IsUnknownModuleFaultOfReference (old new : RootView) (module_id : ModuleId) (fault : SymbolsFault) : Type 0 where
  pub unknown : length old.stored ≤ module_id.0
  pub fault_is : fault ≡ UnknownModule
  pub unchanged : new ≡ old

-- the faults of a call
abbrev pub IsResolveSymbolDepFault : RootView → RootView → ModuleId → SymbolReference → SymbolsFault → Type 0
IsResolveSymbolDepFault old new module_id reference fault =
    IsUnknownModuleFaultOfReference old new module_id fault ⊎ ((module_id.0 < length old.stored) × IsFaultOfStoringForReference new
    (specifier_in old module_id) reference fault)
