-- The targets of parts in definitions, and the routes of a search.
use Rattle.std.specs.Prelude.{ℕ, codes, Bool, false, ◌&&◌, List, [], ◌∷◌, Option, Some, None, slice_get, if◌then◌else◌}
use Rattle.std.specs.Map.{lookup}
use Rattle.std.specs.Option.{option_map_or}
use Rattle.std.specs.Str.{bytes_eq}
use Rattle.symbols_ast.specs.declared.ids.SymbolId.{SymbolId}
use Rattle.symbols_ast.specs.Graph.{GraphView}
use Rattle.symbols_nodes.specs.NodeTests.{is_class_exported_or_not}
use Rattle.symbols_table.specs.DeclViews.{FileDepView, decl_node_satisfies}
use Rattle.symbols_table.specs.SymbolViews.{SymbolView, symbol_after_changes}
use Rattle.symbols_root.specs.declared.rules.Rules.{Rules}
use Rattle.symbols_root.specs.Roots.{RootView}
use Rattle.symbols_root.specs.GraphModules.{table_changes_of_module}
use Rattle.symbols_exports.specs.Exports.{ExportEntry}
use Rattle.symbols_exports.specs.OneName.{find_export}
use Rattle.symbols_exports.specs.StarStatements.{resolve_specifier}
use Rattle.symbols_paths.specs.PathTrees.{SymbolBySpecifier, DeclBySpecifier, QualifiedNameParts, DefinitionView, UnresolvedEntry, no_module, no_part}
use Rattle.symbols_paths.specs.DeclTargets.{DeclTargets, declarations_of, decl_targets_of}

-- the target of a part: a symbol, the definition itself, or an unresolved entry
pub data PartTargetView : Type 0 where
  part_is_symbol : SymbolBySpecifier → PartTargetView
  itself : PartTargetView
  part_is_unresolved : UnresolvedEntry → PartTargetView

-- the target of a part in each definition and star import; the remaining parts after it go into an unresolved entry
abbrev pub PartTargets : Type 0
PartTargets = DefinitionView → List ℕ → QualifiedNameParts → PartTargetView

-- the routes of a search: the targets of declarations and of parts
pub record SearchTargets : Type 0 where
  pub decl_targets : DeclTargets
  pub part : PartTargets

-- the symbol that a symbol exports under a name
abbrev pub export_of_symbol : GraphView → SymbolBySpecifier → List ℕ → Option SymbolId
export_of_symbol graph s name = lookup (λ key. bytes_eq name key)
    (option_map_or (λ (symbol : SymbolView). symbol.exports) (symbol_after_changes (table_changes_of_module graph s.specifier) s.number) [])

abbrev pub is_class_decl_at : GraphView → DeclBySpecifier → Bool
is_class_decl_at graph decl = option_map_or (decl_node_satisfies is_class_exported_or_not) (slice_get (declarations_of graph decl.symbol) decl.index) false

abbrev pub prototype_name : List ℕ
prototype_name = codes "prototype"

-- a part of a definition: what its symbol exports under the name; `prototype` of a class is the class itself
abbrev pub exported_part_target : GraphView → DeclBySpecifier → List ℕ → QualifiedNameParts → Option SymbolId → PartTargetView
exported_part_target graph decl part remaining (Some u) = part_is_symbol (record { specifier = decl.symbol.specifier; number = u })
exported_part_target graph decl part remaining None = if bytes_eq prototype_name part && is_class_decl_at graph decl then itself
    else part_is_unresolved (record { specifier = decl.symbol.specifier; reason = no_part part; parts = part ∷ remaining })

-- a part of a module: the symbol that the module exports under the name
abbrev pub module_part_target : List ℕ → List ℕ → QualifiedNameParts → Option ExportEntry → PartTargetView
module_part_target specifier part remaining (Some entry) = part_is_symbol (record { specifier = entry.exporter; number = entry.symbol })
module_part_target specifier part remaining None = part_is_unresolved (record { specifier = specifier; reason = no_part part; parts = part ∷ remaining })

-- a part of the module that a specifier resolves to; an unresolved specifier if it resolves to none
abbrev pub import_part_target : GraphView → List ℕ → List ℕ → List ℕ → QualifiedNameParts → Option (List ℕ) → PartTargetView
import_part_target graph specifier specifier_text part remaining (Some target_specifier) =
    module_part_target target_specifier part remaining (find_export graph target_specifier part)
import_part_target graph specifier specifier_text part remaining None =
    part_is_unresolved (record { specifier = specifier; reason = no_module specifier_text; parts = part ∷ remaining })

-- a part of a star import is one of the imported module
abbrev pub definition_part_target : GraphView → DeclBySpecifier → List ℕ → QualifiedNameParts → Option FileDepView → PartTargetView
definition_part_target graph decl part remaining (Some dep) =
    import_part_target graph decl.symbol.specifier dep.specifier part remaining (resolve_specifier graph decl.symbol.specifier dep.specifier)
definition_part_target graph decl part remaining None = exported_part_target graph decl part remaining (export_of_symbol graph decl.symbol part)

abbrev pub part_target_of : GraphView → PartTargets
part_target_of graph x part remaining = definition_part_target graph x.decl part remaining x.star

abbrev pub search_targets_of : Rules → GraphView → SearchTargets
search_targets_of rules graph = record { decl_targets = decl_targets_of rules graph; part = part_target_of graph }

-- the routes of a search in a root: by its rules, in its graph
abbrev pub search_targets_of_root : RootView → SearchTargets
search_targets_of_root root = search_targets_of root.rules root.graph
