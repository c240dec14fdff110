-- The contracts of the steps of a search. `running` has the aliases that are being resolved, which the code calls `resolving`.
use Rattle.std.specs.Prelude.{◌≡◌, ℕ, ◌<◌, ◌≤◌, ◌^◌, List, [], length, map, All, Some, None, Contains, slice_get}
use Rattle.symbols_ast.specs.declared.ids.ModuleId.{ModuleId}
use Rattle.symbols_ast.specs.declared.ids.UniqueSymbolId.{UniqueSymbolId}
use Rattle.symbols_ast.specs.Graph.{GraphView}
use Rattle.symbols_ast.specs.Ids.{IdView, id_view}
use Rattle.symbols_table.specs.DeclViews.{Declaration, qualified_target, file_ref, one_name}
use Rattle.symbols_table.specs.declared.info.fault.SymbolsFault.{SymbolsFault}
use Rattle.symbols_root.specs.declared.rules.Rules.{Rules}
use Rattle.symbols_root.specs.Roots.{RootView}
use Rattle.symbols_root.specs.Growing.{HasGrown}
use Rattle.symbols_root.specs.Calls.{IsStored, HasGrownAndFailsOnlyFor}
use Rattle.symbols_exports.specs.StarStatements.{resolve_specifier}
use Rattle.symbols_paths.specs.declared.decl_target.DeclTarget.{DeclTarget}
use Rattle.symbols_paths.specs.declared.decl_target.DeclTarget.TheVariants as read
use Rattle.symbols_paths.specs.declared.part_target.PartTarget.{PartTarget}
use Rattle.symbols_paths.specs.declared.part_target.PartTarget.TheVariants as read_part
use Rattle.symbols_paths.specs.declared.alias_decl.AliasDecl.{AliasDecl}
use Rattle.symbols_paths.specs.declared.path_builder.PathBuilder.{PathBuilder}
use Rattle.symbols_paths.specs.PathTrees.{SymbolBySpecifier, DeclBySpecifier, QualifiedNameParts}
use Rattle.symbols_paths.specs.DeclTargets.{DeclTargetView, defines, forwards, alias, forward_target_to_nothing, forward_target_within_module}
use Rattle.symbols_paths.specs.DeclTargets.{alias_target, forward_target_of_import, declarations_of, target_of_decl}
use Rattle.symbols_paths.specs.PartTargets.{PartTargetView, part_is_symbol, itself, part_is_unresolved, search_targets_of_root}
use Rattle.symbols_paths.specs.Choice.{IsOutcomeOfSymbolSearch, IsOutcomeOfSearchWithParts}
use Rattle.symbols_paths.specs.Computed.{search_limit}
use Rattle.symbols_paths.specs.Views.{decl_by_specifier, unresolved_entry_view, star_import_view}
use Rattle.symbols_paths.specs.Views.{AreModulesStored}
use Rattle.symbols_paths.specs.inner.Views.{symbol_of_unique_id}
use Rattle.symbols_paths.specs.inner.PathBuilders.{remaining_parts, built_paths, modules_of_builders}
use Rattle.symbols_paths.specs.NeededModules.{IsFaultOfStoringOneOf}

-- the target of a declaration, as the code returns it
abbrev pub decl_target_view : Rules → GraphView → SymbolBySpecifier → DeclTarget → DeclTargetView
decl_target_view rules graph s (read.Definition kind range) = defines range (star_import_view kind)
decl_target_view rules graph s read.Nothing = forwards (forward_target_to_nothing s)
decl_target_view rules graph s (read.Symbol t) = forwards (forward_target_within_module s (Some t))
decl_target_view rules graph s (read.UnresolvedId id parts) = alias_target s (id_view id.now) (remaining_parts parts) None
decl_target_view rules graph s (read.Alias t parts) = alias (record { specifier = s.specifier; number = t }) (remaining_parts parts)
decl_target_view rules graph s (read.Import named_import) = forwards
    (forward_target_of_import rules graph s named_import.name.now named_import.specifier_text.now
    (resolve_specifier graph s.specifier named_import.specifier_text.now))

-- if the target is an import, the declaration is an import of this name from this specifier; if it is an alias, one of these qualifiers
abbrev pub IsImportOrAliasTargetOfDecl : DeclTarget → Declaration → Type 0
IsImportOrAliasTargetOfDecl (read.Import named_import) decl = decl.kind ≡ file_ref (one_name named_import.name.now) named_import.specifier_text.now
IsImportOrAliasTargetOfDecl (read.Alias s parts) decl = (name : IdView) × (decl.kind ≡ qualified_target name (remaining_parts parts))
IsImportOrAliasTargetOfDecl _ decl = Unit {0}

-- the declaration at an index, whose target this is
pub record IsTargetOfDeclAtIndex (rules : Rules) (graph : GraphView) (s : SymbolBySpecifier) (index : ℕ) (decl_target : DeclTarget) : Type 0 where
  pub decl : Declaration
  pub occurs : slice_get (declarations_of graph s) index ≡ Some decl
  pub targets_so : decl_target_view rules graph s decl_target ≡ target_of_decl rules graph s decl.range decl.kind
  pub imports : IsImportOrAliasTargetOfDecl decl_target decl

-- a declaration of the symbol is an import of this name from this specifier
pub record IsImportDeclared (graph : GraphView) (s : SymbolBySpecifier) (name specifier_text : List ℕ) : Type 0 where
  pub decl : Declaration
  pub occurs : Contains (declarations_of graph s) decl
  pub imports : decl.kind ≡ file_ref (one_name name) specifier_text

-- the visited symbols are of stored modules
abbrev pub AreModulesOfSymbolsStored : RootView → List UniqueSymbolId → Type 0
AreModulesOfSymbolsStored root visited = All (λ (s : UniqueSymbolId). s.module_id.0 < length root.stored) visited

abbrev pub symbols_of_unique_ids : RootView → List UniqueSymbolId → List SymbolBySpecifier
symbols_of_unique_ids root visited = map (symbol_of_unique_id root) visited

-- after a step: the visited symbols and the modules of the paths are stored; no fewer symbols are visited, and no more than a set can hold
pub record AreVisitedGrownAndModulesStored (root : RootView) (before after : List UniqueSymbolId) (ids : List ModuleId) : Type 0 where
  pub numbered : AreModulesOfSymbolsStored root after
  pub longer : length before ≤ length after
  pub few : length before ≤ 2 ^ 64 → length after ≤ 2 ^ 64
  pub stored : AreModulesStored root ids

-- the aliases that are being resolved are of stored modules
abbrev pub AreModulesOfAliasesStored : RootView → List AliasDecl → Type 0
AreModulesOfAliasesStored root running = All (λ (d : AliasDecl). d.«module».0 < length root.stored) running

abbrev pub decl_of_alias : RootView → AliasDecl → DeclBySpecifier
decl_of_alias root d = decl_by_specifier root d.«module» d.decl

abbrev pub decls_of_aliases : RootView → List AliasDecl → List DeclBySpecifier
decls_of_aliases root running = map (decl_of_alias root) running

-- the target of a part, in a root
abbrev pub part_target_view : RootView → PartTarget → PartTargetView
part_target_view root (read_part.Symbol s) = part_is_symbol (symbol_of_unique_id root s)
part_target_view root read_part.Itself = itself
part_target_view root (read_part.UnresolvedEntry missing) = part_is_unresolved (unresolved_entry_view root missing)

-- the module of the target is stored
abbrev pub IsModuleOfPartTargetStored : RootView → PartTarget → Type 0
IsModuleOfPartTargetStored root (read_part.Symbol s) = s.module_id.0 < length root.stored
IsModuleOfPartTargetStored root read_part.Itself = Unit {0}
IsModuleOfPartTargetStored root (read_part.UnresolvedEntry missing) = missing.«module».0 < length root.stored

-- the search of a symbol returns these paths, in every later root
abbrev pub ArePathsFoundForSymbol : RootView → List AliasDecl → List UniqueSymbolId → UniqueSymbolId → List PathBuilder → List UniqueSymbolId → Type 0
ArePathsFoundForSymbol root running before s paths after = (later : RootView) → HasGrown root later
    → IsOutcomeOfSymbolSearch (search_targets_of_root later) search_limit (decls_of_aliases later
    running) (symbols_of_unique_ids later before) (symbol_of_unique_id later s) (built_paths later paths) (symbols_of_unique_ids later after)

-- a symbol has these paths under parts, in every later root
abbrev pub ArePathsFoundWithParts : RootView → List AliasDecl → List UniqueSymbolId → UniqueSymbolId → QualifiedNameParts → List PathBuilder
    → List UniqueSymbolId → Type 0
ArePathsFoundWithParts root running before s parts paths after = (later : RootView) → HasGrown root later
    → IsOutcomeOfSearchWithParts (search_targets_of_root later) search_limit (decls_of_aliases
    later running) (symbols_of_unique_ids later before) (symbol_of_unique_id later s) parts (built_paths later paths) (symbols_of_unique_ids later after)

-- a symbol has these paths under parts, by a search that begins with no visited symbol and no alias being resolved
pub record ArePathsFoundByNewSearch (root : RootView) (s : UniqueSymbolId) (parts : QualifiedNameParts) (paths : List PathBuilder) : Type 0 where
  pub after : List UniqueSymbolId
  pub found : ArePathsFoundWithParts root [] [] s parts paths after
  pub searched : AreVisitedGrownAndModulesStored root [] after (modules_of_builders paths)
