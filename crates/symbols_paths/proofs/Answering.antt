-- The paths that a query's own search returns are those of the contract.
use Rattle.std.proofs.Common.{◌≡◌, ◌≢◌, ℕ, ◌<◌, ◌≤◌, ◌^◌, true, false, List, [], ◌∷◌, length, Option, None}
use Rattle.std.proofs.Common.{Some, option_map, option_copied, slice_get, inr, sym, ap, subst, ◌∙◌, arith}
use Rattle.std.specs.Prelude.{is_some, Contains}
use Rattle.std.specs.Borrow.{Bor}
use Rattle.std.proofs.lemmas.List.{length-map}
use Rattle.symbols_ast.specs.declared.ids.ModuleId.{ModuleId}
use Rattle.symbols_ast.specs.declared.ids.SymbolId.{SymbolId}
use Rattle.symbols_ast.specs.declared.ids.UniqueSymbolId.{UniqueSymbolId}
use Rattle.symbols_ast.specs.Graph.{GraphView}
use Rattle.symbols_table.specs.declared.decl.symbol.Symbol.{Symbol}
use Rattle.symbols_table.specs.declared.info.fault.SymbolsFault.TheVariants.{OutOfMemory}
use Rattle.symbols_table.specs.Modules.{SymbolTable}
use Rattle.symbols_table.specs.SymbolViews.{symbol_view}
use Rattle.symbols_root.specs.declared.rules.Rules.{Rules}
use Rattle.symbols_root.specs.Roots.{RootView, IsTableOfStoredModule, specifier_in}
use Rattle.symbols_root.specs.Growing.{HasGrown}
use Rattle.symbols_root.specs.laws.Growing.{has_grown_refl, specifier_unchanged_by_growth}
use Rattle.symbols_root.specs.laws.StoredTables.{stored_table_has_module_symbols}
use Rattle.symbols_paths.specs.declared.path_builder.PathBuilder.{PathBuilder}
use Rattle.symbols_paths.specs.PathTrees.{SymbolBySpecifier, DeclBySpecifier, QualifiedNameParts, PathLeaf, PathForest, leaves_of_forest}
use Rattle.symbols_paths.specs.PartTargets.{SearchTargets, search_targets_of, search_targets_of_root}
use Rattle.symbols_paths.specs.FirstReach.{IsLeafByFirstCandidatesNoAlias, IsLeafWithAnyPartsResolved}
use Rattle.symbols_paths.specs.AliasSearches.{IsLeafByFirstCandidatesOrAlias, IsLeafByFirstCandidatesWithParts}
use Rattle.symbols_paths.specs.AliasSearches as searches
use Rattle.symbols_paths.specs.Choice.{IsOutcomeOfSymbolSearch, IsOutcomeOfSearchWithParts, no_parts, under, IsOutcomeOfPartsInForest}
use Rattle.symbols_paths.specs.Computed.{search_limit, paths_with_parts, definition_paths_of}
use Rattle.symbols_paths.specs.Views.{symbol_by_specifier}
use Rattle.symbols_paths.specs.inner.Views.{symbol_of_unique_id}
use Rattle.symbols_paths.specs.inner.PathBuilders.{built_paths}
use Rattle.symbols_paths.specs.inner.SearchSteps.{symbols_of_unique_ids, ArePathsFoundByNewSearch}
use Rattle.symbols_paths.specs.Answers.{AreDefinitionPathsWithParts, AreDefinitionPaths, AreDefinitionPathsWithAnyParts, symbol_in_root}
use Rattle.symbols_paths.specs.Answers.{IsFindDefinitionPathsFault}
use Rattle.symbols_paths.proofs.GrownRoots.{same_links}
use Rattle.symbols_paths.proofs.ChosenDerived.{finds_derived, walks_derived}
use Rattle.symbols_paths.proofs.Leaves.{finds_leaf, walks_leaf, changes_gives}
use Rattle.symbols_paths.proofs.FirstReachCovered.{near_given}
use Rattle.symbols_paths.proofs.NoRepeats.{given_once}
use Rattle.symbols_paths.proofs.UnresolvedLast.{part_last}
use Rattle.symbols_paths.proofs.ChosenComputed.{walks_computed}
use Rattle.symbols_paths.proofs.Lossless.{no_leaf_lost}
use Rattle.symbols_paths.proofs.WithoutAlias.{without_alias_apart, without_alias_remaining, one_remaining_without_parts}

-- inversion: a search under parts is a search of the symbol, and the replacement of its definitions
found_in : {routes : SearchTargets} {limit : ℕ} {running : List DeclBySpecifier} {visited after : List SymbolBySpecifier} {s : SymbolBySpecifier}
    {f : PathForest}
    → IsOutcomeOfSearchWithParts routes limit running visited s [] f after → IsOutcomeOfSymbolSearch routes limit running visited s f after
found_in (no_parts x) = x

changed_in : {routes : SearchTargets} {limit : ℕ} {running : List DeclBySpecifier} {visited after : List SymbolBySpecifier} {s : SymbolBySpecifier} {p : List ℕ}
    {ps : QualifiedNameParts}
    {g : PathForest} → IsOutcomeOfSearchWithParts routes limit running visited s (p ∷ ps) g after → (mid : List SymbolBySpecifier)
    × ((f : PathForest) × (IsOutcomeOfSymbolSearch routes limit running visited s f mid × IsOutcomeOfPartsInForest routes limit running mid p ps f g after))
changed_in (under {mid = mid} {f = f} x y) = (mid, (f, (x, y)))

-- a leaf of first reach is in the paths, as the leaf it comes to under the parts
first_given : (rules : Rules) (graph : GraphView) (limit : ℕ) (s : SymbolBySpecifier) (ps : QualifiedNameParts) (f : PathForest)
    (after : List SymbolBySpecifier)
    → IsOutcomeOfSearchWithParts (search_targets_of rules graph) limit [] [] s ps f after → (x y : PathLeaf) → IsLeafByFirstCandidatesNoAlias
    (search_targets_of rules graph) s x
    → IsLeafWithAnyPartsResolved (search_targets_of rules graph) ps x y → Contains (leaves_of_forest f) y
first_given rules graph limit s [] f after x y z near is = by x
  where
    by : IsOutcomeOfSearchWithParts (search_targets_of rules graph) limit [] [] s [] f after → Contains (leaves_of_forest f) z
    by w = subst (Contains (leaves_of_forest f)) (sym is) (near_given (found_in w) y near)
first_given rules graph limit s (p ∷ ps) f after x y z near is = by x
  where
    by : IsOutcomeOfSearchWithParts (search_targets_of rules graph) limit [] [] s (p ∷ ps) f after → Contains (leaves_of_forest f) z
    by w = let u = changed_in w in changes_gives (search_targets_of rules graph) limit u.1.1.1 y z (near_given u.1.1.0 y near) is

are_paths_under : (rules : Rules) (graph : GraphView) (limit : ℕ) (s : SymbolBySpecifier) (ps : QualifiedNameParts) (f : PathForest)
    (after : List SymbolBySpecifier)
    → IsOutcomeOfSearchWithParts (search_targets_of rules graph) limit [] [] s ps f after → AreDefinitionPathsWithParts rules graph s ps f
are_paths_under rules graph limit s ps f after x = record {
  is_forest_by_any_candidates = walks_derived (search_targets_of rules graph) limit x;
  has_only_leaves_of_symbol = (walks_leaf (search_targets_of rules graph) limit x).each;
  has_first_candidate_leaves = first_given rules graph limit s ps f after x;
  loses_no_leaf = λ apart suffixes. no_leaf_lost (search_targets_of rules graph) limit s ps apart suffixes f after x;
  loses_no_leaf_without_alias = λ without_alias rest.
      no_leaf_lost (search_targets_of rules graph) limit s ps (without_alias_apart without_alias) (without_alias_remaining without_alias rest) f after x;
  is_found_by_search = (limit, after, x);
}

are_paths : (rules : Rules) (graph : GraphView) (limit : ℕ) (s : SymbolBySpecifier) (f : PathForest) (after : List SymbolBySpecifier)
    → IsOutcomeOfSymbolSearch (search_targets_of rules graph) limit [] [] s f after → AreDefinitionPaths rules graph s f
are_paths rules graph limit s f after x = record {
  is_forest_by_any_candidates = finds_derived (search_targets_of rules graph) limit x;
  has_only_leaves_of_symbol = (finds_leaf (search_targets_of rules graph) limit x).each;
  has_first_candidate_leaves = near_given x;
  has_no_duplicates = λ without_alias. given_once (search_targets_of rules graph) limit without_alias x;
  unresolved_parts_come_last = part_last rules graph limit x;
  loses_no_leaf = λ apart suffixes y h. no_leaf_lost (search_targets_of rules graph) limit s [] apart suffixes f after (no_parts x) y (first_walk h);
  loses_no_leaf_without_alias = λ without_alias y h. no_leaf_lost (search_targets_of rules graph) limit s [] (without_alias_apart without_alias)
      (without_alias_remaining without_alias (one_remaining_without_parts (search_targets_of rules graph) s)) f after (no_parts x) y (first_walk h);
  is_found_by_search = (limit, after, no_parts x);
}
  where
    first_walk : {y : PathLeaf} → IsLeafByFirstCandidatesOrAlias (search_targets_of rules graph) s y → IsLeafByFirstCandidatesWithParts
        (search_targets_of rules graph) s [] y
    first_walk h = searches.no_parts h

are_paths_for : (rules : Rules) (graph : GraphView) (limit : ℕ) (s : SymbolBySpecifier) (ps : QualifiedNameParts) (f : PathForest)
    (after : List SymbolBySpecifier)
    → IsOutcomeOfSearchWithParts (search_targets_of rules graph) limit [] [] s ps f after → AreDefinitionPathsWithAnyParts rules graph s ps f
are_paths_for rules graph limit s [] f after x = are_paths rules graph limit s f after (found_in x)
are_paths_for rules graph limit s (p ∷ ps) f after x = are_paths_under rules graph limit s (p ∷ ps) f after x

is_computed : (rules : Rules) (graph : GraphView) (s : SymbolBySpecifier) (ps : QualifiedNameParts) (f : PathForest) (after : List SymbolBySpecifier)
    → IsOutcomeOfSearchWithParts (search_targets_of rules graph) search_limit [] [] s ps f after → length after ≤ 2 ^ 64 → f ≡ paths_with_parts rules graph s ps
unfolding paths_with_parts
is_computed rules graph s ps f after x few =
    sym (walks_computed (search_targets_of rules graph) search_limit (omega arith) search_limit search_limit x (omega arith) (omega (arith, few))).0

-- paths found from no visited symbols, stated for the root before more was stored
module _ {old new : RootView} {module_id : ModuleId} {s : SymbolId} {u : UniqueSymbolId} (builders : List PathBuilder)
    (known : module_id.0 < length old.stored) (in_module : u.module_id ≡ module_id) (number : u.symbol_id ≡ s) (grown : HasGrown old new)
    (outcome : ArePathsFoundByNewSearch new u [] builders) where
  pub found_before : IsOutcomeOfSymbolSearch (search_targets_of_root old) search_limit [] [] (symbol_by_specifier old module_id s) (built_paths new builders)
      (symbols_of_unique_ids new outcome.after)
  found_before =
      let called : symbol_of_unique_id new u ≡ symbol_by_specifier old module_id s =
      (λ i. record { specifier = (ap (specifier_in new) in_module ∙ specifier_unchanged_by_growth grown module_id known) i; number = number i }) in
      subst (λ routes. IsOutcomeOfSymbolSearch routes search_limit [] [] (symbol_by_specifier old module_id s) (built_paths new builders)
      (symbols_of_unique_ids new outcome.after))
      (same_links grown)
      (subst (λ n. IsOutcomeOfSymbolSearch (search_targets_of_root new) search_limit [] [] n (built_paths new builders)
      (symbols_of_unique_ids new outcome.after)) called
      (found_in (outcome.found new (has_grown_refl new))))

  pub paths_found : AreDefinitionPaths old.rules old.graph (symbol_by_specifier old module_id s) (built_paths new builders)
  paths_found = are_paths old.rules old.graph search_limit (symbol_by_specifier old module_id s) (built_paths new builders)
      (symbols_of_unique_ids new outcome.after) found_before

  pub paths_listed : built_paths new builders ≡ definition_paths_of old.rules old.graph (symbol_by_specifier old module_id s)
  paths_listed = is_computed old.rules old.graph (symbol_by_specifier old module_id s) [] (built_paths new builders) (symbols_of_unique_ids new outcome.after)
      (no_parts found_before) (omega (arith, length-map outcome.after (symbol_of_unique_id new), outcome.searched.few (omega arith)))

-- the same for paths under parts
module _ {old new : RootView} (u : UniqueSymbolId) (parts : QualifiedNameParts) (builders : List PathBuilder)
    (known : u.module_id.0 < length old.stored) (grown : HasGrown old new) (outcome : ArePathsFoundByNewSearch new u parts builders) where
  walked_before : IsOutcomeOfSearchWithParts (search_targets_of_root old) search_limit [] [] (symbol_of_unique_id old u) parts (built_paths new builders)
      (symbols_of_unique_ids new outcome.after)
  walked_before =
      let called : symbol_of_unique_id new u ≡ symbol_of_unique_id old u =
      (λ i. record { specifier = specifier_unchanged_by_growth grown u.module_id known i; number = u.symbol_id }) in
      subst (λ routes. IsOutcomeOfSearchWithParts routes search_limit [] [] (symbol_of_unique_id old u) parts (built_paths new builders)
      (symbols_of_unique_ids new outcome.after))
      (same_links grown)
      (subst (λ n. IsOutcomeOfSearchWithParts (search_targets_of_root new) search_limit [] [] n parts (built_paths new builders)
      (symbols_of_unique_ids new outcome.after)) called
      (outcome.found new (has_grown_refl new)))

  pub walked_found : AreDefinitionPathsWithAnyParts old.rules old.graph (symbol_of_unique_id old u) parts (built_paths new builders)
  walked_found = are_paths_for old.rules old.graph search_limit (symbol_of_unique_id old u) parts (built_paths new builders)
      (symbols_of_unique_ids new outcome.after) walked_before

  pub walked_listed : built_paths new builders ≡ paths_with_parts old.rules old.graph (symbol_of_unique_id old u) parts
  walked_listed = is_computed old.rules old.graph (symbol_of_unique_id old u) parts (built_paths new builders)
      (symbols_of_unique_ids new outcome.after) walked_before
      (omega (arith, length-map outcome.after (symbol_of_unique_id new), outcome.searched.few (omega arith)))

-- ---- after the paths are found only an allocation can fail

pub memory_refused : {old new : RootView} {module_id : ModuleId} {s : SymbolId} → (module_id.0 < length old.stored) × (symbol_in_root old module_id s ≢ None)
    → IsFindDefinitionPathsFault old new module_id s OutOfMemory
memory_refused there = inr (inr (record {
  known = there.0;
  has_symbol = there.1;
  refused = record { needed = None; is_needed = λ specifier e. absurd cc; refused = tt };
}))

-- ---- whether the module has the symbol

pub no_symbol_there : (root : RootView) (module_id : ModuleId) (table : SymbolTable) → IsTableOfStoredModule root module_id table
    → (s : SymbolId) (found : Option (Bor Symbol)) → option_copied found ≡ slice_get table.symbols s.0 → is_some found ≡ false
    → symbol_in_root root module_id s ≡ None
no_symbol_there root module_id table stored s None e absent = sym (stored_table_has_module_symbols root module_id table stored s)
    ∙ ap (option_map symbol_view) (sym e)
no_symbol_there root module_id table stored s (Some x) e absent = absurd cc

pub symbol_there : (root : RootView) (module_id : ModuleId) (table : SymbolTable) → IsTableOfStoredModule root module_id table
    → (s : SymbolId) (found : Option (Bor Symbol))
    → option_copied found ≡ slice_get table.symbols s.0 → is_some found ≡ true → symbol_in_root root module_id s ≢ None
symbol_there root module_id table stored s None e present = absurd cc
symbol_there root module_id table stored s (Some x) e present = λ none.
    let some : Some (symbol_view x.now) ≡ None = ap (option_map symbol_view) e ∙ (stored_table_has_module_symbols root module_id table stored s ∙ none) in
    cc
