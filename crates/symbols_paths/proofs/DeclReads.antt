-- The declarations of a symbol, read in a root and in later ones.
use Rattle.std.proofs.Common.{◌≡◌, ℕ, ◌<◌, List, length, None, Some, sym, ap, subst, ◌∙◌, slice_get, option_map}
use Rattle.std.specs.Prelude.{Contains}
use Rattle.std.proofs.lemmas.Option.{get_or_from_slice_get, slice_get-map, slice_get_within}
use Rattle.std.specs.List.{IsDistinct, list_any}
use Rattle.std.specs.Str.{bytes_eq}
use Rattle.symbols_ast.specs.declared.ids.UniqueSymbolId.{UniqueSymbolId}
use Rattle.symbols_table.specs.DeclViews.{Declaration}
use Rattle.symbols_root.specs.declared.rules.Rules.{Rules}
use Rattle.symbols_root.specs.Roots.{RootView}
use Rattle.symbols_root.specs.Growing.{HasGrown}
use Rattle.symbols_root.specs.laws.Growing.{specifier_unchanged_by_growth, stored_id_remains_stored}
use Rattle.symbols_paths.specs.declared.decl_target.DeclTarget.{DeclTarget}
use Rattle.symbols_paths.specs.PathTrees.{SymbolBySpecifier}
use Rattle.symbols_paths.specs.DeclTargets.{decl_targets_of, target_of_decl, declarations_of}
use Rattle.symbols_paths.specs.PartTargets.{search_targets_of_root}
use Rattle.symbols_paths.specs.Choice.{is_visited}
use Rattle.symbols_paths.specs.inner.Views.{symbol_of_unique_id}
use Rattle.symbols_paths.specs.inner.SearchSteps.{AreModulesOfSymbolsStored, symbols_of_unique_ids, IsTargetOfDeclAtIndex, decl_target_view}
use Rattle.symbols_paths.proofs.GrownRoots.{still_numbered}
use Rattle.symbols_paths.proofs.SearchSteps.{is_symbol, visited_by_name}

-- a symbol is visited by its id if and only if it is by its specifier, in every later root
pub later_visited : {root later : RootView} → IsDistinct bytes_eq root.stored → (visited : List UniqueSymbolId) (symbol : UniqueSymbolId)
    → AreModulesOfSymbolsStored root visited → symbol.module_id.0 < length root.stored → HasGrown root later
    → list_any (is_symbol symbol) visited ≡ is_visited (symbols_of_unique_ids later visited) (symbol_of_unique_id later symbol)
later_visited {later = later} once visited symbol numbered within grown = visited_by_name later (grown.has_no_duplicates once) visited symbol
    (still_numbered grown visited numbered) (stored_id_remains_stored grown symbol.module_id.0 within)

-- the target at the index is the one that was read
occurs_named : (rules : Rules) (graph : _) (s : SymbolBySpecifier) (index : ℕ) (decl_target : DeclTarget)
    → IsTargetOfDeclAtIndex rules graph s index decl_target
    → slice_get (decl_targets_of rules graph s) index ≡ Some (decl_target_view rules graph s decl_target)
occurs_named rules graph s index decl_target read =
    let decl_targets = λ (decl : Declaration). target_of_decl rules graph s decl.range decl.kind in
    slice_get-map decl_targets (declarations_of graph s) index ∙ (ap (option_map decl_targets) read.occurs ∙ ap Some (sym read.targets_so))

-- a declaration read in a root is the same in each later root
read_later : {root later : RootView} → HasGrown root later → (symbol : UniqueSymbolId) → symbol.module_id.0 < length root.stored
    → (index : ℕ) (decl_target : DeclTarget) → IsTargetOfDeclAtIndex root.rules root.graph (symbol_of_unique_id root symbol) index decl_target
    → IsTargetOfDeclAtIndex later.rules later.graph (symbol_of_unique_id later symbol) index decl_target
read_later {root = root} {later = later} grown symbol within index decl_target read =
    let name : symbol_of_unique_id later symbol ≡ symbol_of_unique_id root symbol =
    (λ i. record { specifier = specifier_unchanged_by_growth grown symbol.module_id within i; number = symbol.symbol_id }) in
    subst (λ r. IsTargetOfDeclAtIndex r later.graph (symbol_of_unique_id later symbol) index decl_target) (sym grown.rules)
    (subst (λ g. IsTargetOfDeclAtIndex root.rules g (symbol_of_unique_id later symbol) index decl_target) (sym grown.graph)
    (subst (λ n. IsTargetOfDeclAtIndex root.rules root.graph n index decl_target) (sym name) read))

same_declarations : {root later : RootView} → HasGrown root later → (symbol : UniqueSymbolId) → symbol.module_id.0 < length root.stored
    → declarations_of later.graph (symbol_of_unique_id later symbol) ≡ declarations_of root.graph (symbol_of_unique_id root symbol)
same_declarations grown symbol within = λ i.
    declarations_of (grown.graph i) (record { specifier = specifier_unchanged_by_growth grown symbol.module_id within i; number = symbol.symbol_id })

pub past_later : {root later : RootView} → HasGrown root later → (symbol : UniqueSymbolId) → symbol.module_id.0 < length root.stored → (index : ℕ)
    → slice_get (declarations_of root.graph (symbol_of_unique_id root symbol)) index ≡ None
    → slice_get (decl_targets_of later.rules later.graph (symbol_of_unique_id later symbol)) index ≡ None
past_later {later = later} grown symbol within index past =
    let decl_targets = λ (decl : Declaration). target_of_decl later.rules later.graph (symbol_of_unique_id later symbol) decl.range decl.kind in
    slice_get-map decl_targets (declarations_of later.graph (symbol_of_unique_id later symbol)) index
    ∙ ap (option_map decl_targets) (ap (λ decls. slice_get decls index) (same_declarations grown symbol within) ∙ past)

-- the index of a declaration that was read is within the list
pub index_within : {rules : _} {graph : _} {s : SymbolBySpecifier} {index : ℕ} {decl_target : DeclTarget}
    → IsTargetOfDeclAtIndex rules graph s index decl_target
    → index < length (declarations_of graph s)
index_within {graph = graph} {s = s} {index = index} read = slice_get_within (declarations_of graph s) index read.decl read.occurs

-- a declaration that was read is one of the symbol's
pub occurs_among : {rules : _} {graph : _} {s : SymbolBySpecifier} {index : ℕ} {decl_target : DeclTarget}
    (read : IsTargetOfDeclAtIndex rules graph s index decl_target)
    → Contains (declarations_of graph s) read.decl
occurs_among {graph = graph} {s = s} {index = index} read =
    (index, index_within read, get_or_from_slice_get (declarations_of graph s) index read.decl read.decl read.occurs)

-- the target at the index, in every later root
pub target_read : {root later : RootView} → HasGrown root later → (symbol : UniqueSymbolId) → symbol.module_id.0 < length root.stored
    → (index : ℕ) (decl_target : DeclTarget) → IsTargetOfDeclAtIndex root.rules root.graph (symbol_of_unique_id root symbol) index decl_target
    → slice_get ((search_targets_of_root later).decl_targets (symbol_of_unique_id later symbol)) index
    ≡ Some (decl_target_view later.rules later.graph (symbol_of_unique_id later symbol) decl_target)
target_read {later = later} grown symbol within index decl_target read =
    occurs_named later.rules later.graph (symbol_of_unique_id later symbol) index decl_target (read_later grown symbol within index decl_target read)
