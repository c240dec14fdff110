-- The targets of declarations, as a function of the rules and the graph.
use Rattle.std.specs.Prelude.{◌≡◌, ℕ, Bool, true, not, if◌then◌else◌, List, [], ◌∷◌, map, Option, Some, None, slice_get}
use Rattle.std.specs.List.{filter_map}
use Rattle.std.specs.Map.{lookup}
use Rattle.std.specs.Option.{option_map, option_map_or, option_and_then}
use Rattle.std.specs.Str.{bytes_eq}
use Rattle.symbols_ast.specs.declared.ids.SymbolId.{SymbolId}
use Rattle.symbols_ast.specs.declared.tree.arena.SourceRange.{SourceRange}
use Rattle.symbols_ast.specs.Graph.{GraphView}
use Rattle.symbols_ast.specs.Ids.{IdView}
use Rattle.symbols_table.specs.Changes.{symbol_of_ident_after_changes}
use Rattle.symbols_table.specs.DeclViews.{all_names, one_name, FileDepView, DeclKindView, target, qualified_target, file_ref, definition, Declaration}
use Rattle.symbols_table.specs.SymbolViews.{SymbolView, symbol_after_changes}
use Rattle.symbols_table.specs.Events.{default_export_name}
use Rattle.symbols_root.specs.declared.rules.Rules.{Rules}
use Rattle.symbols_root.specs.declared.rules.Rules.TheVariants.{Deno, Strict}
use Rattle.symbols_root.specs.GraphModules.{table_changes_of_module}
use Rattle.symbols_exports.specs.Exports.{ExportEntry}
use Rattle.symbols_exports.specs.OneName.{find_export}
use Rattle.symbols_exports.specs.StarStatements.{resolve_specifier, star_targets_of, explicit_exports_of}
use Rattle.symbols_paths.specs.PathTrees.{SymbolBySpecifier, QualifiedNameParts, UnresolvedEntry, no_symbol, no_module, no_part}

-- a declaration that refers to other symbols: the symbol and the parts of its link; the candidates, of which the first that has a path is
-- taken; and the unresolved entry if none has one
pub record ForwardTarget : Type 0 where
  pub symbol : SymbolBySpecifier
  pub parts : QualifiedNameParts
  pub candidates : List SymbolBySpecifier
  pub otherwise : Option UnresolvedEntry

-- the target of a declaration: it defines, or is a star import with its dependency; it forwards to candidates; or it is an alias, of a
-- symbol of its module and parts, which are resolved by a search of their own
pub data DeclTargetView : Type 0 where
  defines : SourceRange → Option FileDepView → DeclTargetView
  forwards : ForwardTarget → DeclTargetView
  alias : SymbolBySpecifier → QualifiedNameParts → DeclTargetView

-- the targets of each symbol's declarations, in order
abbrev pub DeclTargets : Type 0
DeclTargets = SymbolBySpecifier → List DeclTargetView

-- the declaration of `s` at index `i` has this target
abbrev pub IsTargetOfNthDecl : DeclTargets → SymbolBySpecifier → ℕ → DeclTargetView → Type 0
IsTargetOfNthDecl table s i decl_target = slice_get (table s) i ≡ Some decl_target

-- forwards to no candidate and no unresolved entry: no path
abbrev pub forward_target_to_nothing : SymbolBySpecifier → ForwardTarget
forward_target_to_nothing s = record { symbol = s; parts = []; candidates = []; otherwise = None }

-- forwards to an unresolved entry alone
abbrev pub forward_target_to_unresolved : SymbolBySpecifier → QualifiedNameParts → UnresolvedEntry → ForwardTarget
forward_target_to_unresolved s parts missing = record { symbol = s; parts = parts; candidates = []; otherwise = Some missing }

-- forwards to the one candidate that a module exports locally
abbrev pub forward_target_to_export : SymbolBySpecifier → SymbolBySpecifier → ForwardTarget
forward_target_to_export s explicit = record { symbol = s; parts = []; candidates = explicit ∷ []; otherwise = None }

-- the symbol of a name in the module of this specifier
abbrev pub symbol_of_id : GraphView → List ℕ → IdView → Option SymbolId
symbol_of_id graph specifier id = symbol_of_ident_after_changes (table_changes_of_module graph specifier) id

-- the symbol that a module exports locally under a name
abbrev pub explicit_export : GraphView → List ℕ → List ℕ → Option SymbolId
explicit_export graph specifier name = lookup (λ key. bytes_eq name key) (explicit_exports_of graph specifier)

-- the symbol that a name resolves to in the module of an `export *`; the name may be `default`. None if the `export *` resolves to no
-- module, or that module doesn't export the name
abbrev pub re_exported_symbol : GraphView → List ℕ → Option (List ℕ) → Option SymbolBySpecifier
re_exported_symbol graph name target_specifier = option_map (λ (entry : ExportEntry). record { specifier = entry.exporter; number = entry.symbol })
    (option_and_then (λ next. find_export graph next name) target_specifier)

-- these symbols for each `export *` of a module, in order
abbrev pub re_exported_symbols : GraphView → List ℕ → List ℕ → List SymbolBySpecifier
re_exported_symbols graph specifier name = filter_map (re_exported_symbol graph name) (star_targets_of graph specifier)

-- whether the search for an imported name goes on to the imported module's `export *` statements: under `Strict` not for `default`
abbrev pub searches_stars_for : Rules → List ℕ → Bool
searches_stars_for Deno name = true
searches_stars_for Strict name = not (bytes_eq name default_export_name)

-- the candidates for an imported name along the module's `export *` statements; none if the rules don't let the search go on to these
abbrev pub re_exported_symbols_by_rules : Rules → GraphView → List ℕ → List ℕ → List SymbolBySpecifier
re_exported_symbols_by_rules rules graph specifier name = if searches_stars_for rules name then re_exported_symbols graph specifier name else []

-- a named import from a module: forwards to the module's local export of the name. Without one it forwards to the candidates along the
-- module's `export *` statements, and to an unresolved part if none of them has a path
abbrev pub forward_target_into_module : Rules → GraphView → SymbolBySpecifier → List ℕ → List ℕ → Option SymbolId → ForwardTarget
forward_target_into_module rules graph s name specifier (Some explicit) = forward_target_to_export s (record { specifier = specifier; number = explicit })
forward_target_into_module rules graph s name specifier None = record {
  symbol = s;
  parts = [];
  candidates = re_exported_symbols_by_rules rules graph specifier name;
  otherwise = Some (record { specifier = specifier; reason = no_part name; parts = [] });
}

-- a named import: forwards into the module of its specifier, or to an unresolved specifier
abbrev pub forward_target_of_import : Rules → GraphView → SymbolBySpecifier → List ℕ → List ℕ → Option (List ℕ) → ForwardTarget
forward_target_of_import rules graph s name specifier_text None =
    forward_target_to_unresolved s [] (record { specifier = s.specifier; reason = no_module specifier_text; parts = [] })
forward_target_of_import rules graph s name specifier_text (Some specifier) = forward_target_into_module rules graph s name specifier
    (explicit_export graph specifier name)

-- another name of the module: forwards to its symbol, which the link has as its symbol too
abbrev pub forward_target_within_module : SymbolBySpecifier → Option SymbolId → ForwardTarget
forward_target_within_module s None = forward_target_to_nothing s
forward_target_within_module s (Some t) = record {
  symbol = record { specifier = s.specifier; number = t };
  parts = [];
  candidates = record { specifier = s.specifier; number = t } ∷ [];
  otherwise = None;
}

-- a qualified name: an alias of the first name's symbol, or an unresolved entry if that name has no symbol
abbrev pub alias_target : SymbolBySpecifier → IdView → QualifiedNameParts → Option SymbolId → DeclTargetView
alias_target s id parts None = forwards (forward_target_to_unresolved s parts (record { specifier = s.specifier; reason = no_symbol id; parts = parts }))
alias_target s id parts (Some t) = alias (record { specifier = s.specifier; number = t }) parts

-- the target of a declaration of this kind and range, of symbol `s`
abbrev pub target_of_decl : Rules → GraphView → SymbolBySpecifier → SourceRange → DeclKindView → DeclTargetView
target_of_decl rules graph s range (definition _) = defines range None
target_of_decl rules graph s range (file_ref all_names specifier_text) = defines range (Some (record { name = all_names; specifier = specifier_text }))
target_of_decl rules graph s range (file_ref (one_name name) specifier_text) =
    forwards (forward_target_of_import rules graph s name specifier_text (resolve_specifier graph s.specifier specifier_text))
target_of_decl rules graph s range (target id) = forwards (forward_target_within_module s (symbol_of_id graph s.specifier id))
target_of_decl rules graph s range (qualified_target id parts) = alias_target s id parts (symbol_of_id graph s.specifier id)

-- the declarations of a symbol; none if the module has no such symbol
abbrev pub declarations_of : GraphView → SymbolBySpecifier → List Declaration
declarations_of graph s = option_map_or (λ (symbol : SymbolView). symbol.decls) (symbol_after_changes (table_changes_of_module graph s.specifier) s.number) []

abbrev pub decl_targets_of : Rules → GraphView → DeclTargets
decl_targets_of rules graph s = map (λ (decl : Declaration). target_of_decl rules graph s decl.range decl.kind) (declarations_of graph s)
