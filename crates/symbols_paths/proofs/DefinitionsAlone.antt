-- The paths of a symbol whose declarations are all definitions: the steps of its search, which need no frame.
use Rattle.std.proofs.Common.{◌≡◌, ℕ, ◌+◌, ◌<◌, ◌^◌, List, [], ◌∷◌, Vec, None, Some, refl, sym, ap, subst, ◌∙◌, arith, slice_get, map, option_map}
use Rattle.std.specs.Global.{Global}
use Rattle.std.specs.List.{IsDistinct}
use Rattle.std.specs.Str.{bytes_eq}
use Rattle.std.proofs.lemmas.Option.{slice_get-map}
use Rattle.symbols_ast.specs.declared.ids.UniqueSymbolId.{UniqueSymbolId}
use Rattle.symbols_ast.specs.declared.tree.arena.SourceRange.{SourceRange}
use Rattle.symbols_table.specs.declared.decl.symbol_decl.SymbolDecl.{SymbolDecl}
use Rattle.symbols_table.specs.DeclViews.{decl_view}
use Rattle.symbols_root.specs.Roots.{RootView}
use Rattle.symbols_root.specs.Calls.{IsStored}
use Rattle.symbols_root.specs.laws.Growing.{has_grown_refl}
use Rattle.symbols_paths.specs.declared.decl_target.DeclTarget.TheVariants as read
use Rattle.symbols_paths.specs.declared.definition.DefinitionKind.{DefinitionKind}
use Rattle.symbols_paths.specs.declared.path_builder.PathBuilder.{PathBuilder}
use Rattle.symbols_paths.specs.declared.search_step.Expansion.{Expansion}
use Rattle.symbols_paths.specs.declared.search_step.Step.TheVariants.{Search, Expand}
use Rattle.symbols_paths.specs.PathTrees.{definition, leaf, forest_of_tree}
use Rattle.symbols_paths.specs.DeclTargets.{declarations_of, target_of_decl}
use Rattle.symbols_paths.specs.Views.{decl_by_specifier, star_import_view, AreModulesStored}
use Rattle.symbols_paths.specs.laws.Storing.{newly_stored_none}
use Rattle.symbols_paths.specs.inner.Views.{symbol_of_unique_id}
use Rattle.symbols_paths.specs.inner.PathBuilders.{modules_of_builders}
use Rattle.symbols_paths.specs.inner.SearchSteps.{IsTargetOfDeclAtIndex, decl_target_view, ArePathsFoundByNewSearch}
use Rattle.symbols_paths.specs.inner.SearchInvariants.{SearchStart, search_start_at_symbol, IsExpansionAtNextDecl}
use Rattle.symbols_paths.proofs.DeclSteps.{step_new, step_end}
use Rattle.symbols_paths.proofs.SymbolSteps.{step_definition}
use Rattle.symbols_paths.proofs.SearchLoop.{AreSteps, next_steps, found_at_last, search_can_begin, paths_of_new_search}

module _ (root : RootView) (s : UniqueSymbolId) where
  abbrev alone : SearchStart
  alone = search_start_at_symbol root [] [] [] s

  -- the declarations before the index are definitions, which have these paths
  pub record AreDefinitionsBefore (here : Expansion) : Type 0 where
    pub symbol : here.symbol ≡ s
    pub steps : AreSteps alone root [] [] (Search s) root [] (s ∷ []) [] (Expand here)

  pub definitions_begun : IsStored root s.module_id → IsDistinct bytes_eq root.stored → (paths : Vec PathBuilder Global) → paths.items ≡ []
      → AreDefinitionsBefore (record { symbol = s; index = 0; paths = paths })
  definitions_begun known once paths empty =
      let valid = search_can_begin root s known in
      record {
        symbol = refl;
        steps = next_steps (record { valid = valid; grown = has_grown_refl root; stores = newly_stored_none root; comes = λ later on F A y. y })
            (has_grown_refl root) (newly_stored_none root)
            (step_new alone root [] [] [] s valid once paths empty (s ∷ []) refl refl (omega arith));
      }

  -- the declaration at the index, if it is a definition
  pub definition_read : (decls : List SymbolDecl) (index : ℕ) (decl : SymbolDecl) (kind : DefinitionKind)
      → map decl_view decls ≡ declarations_of root.graph (symbol_of_unique_id root s) → slice_get decls index ≡ Some decl
      → decl_target_view root.rules root.graph (symbol_of_unique_id root s) (read.Definition kind decl.range)
      ≡ target_of_decl root.rules root.graph (symbol_of_unique_id root s) (decl_view decl).range (decl_view decl).kind
      → IsTargetOfDeclAtIndex root.rules root.graph (symbol_of_unique_id root s) index (read.Definition kind decl.range)
  definition_read decls index decl kind same at targets = record {
    decl = decl_view decl;
    occurs = ap (λ ds. slice_get ds index) (sym same) ∙ (slice_get-map decl_view decls index ∙ ap (option_map decl_view) at);
    targets_so = targets;
    imports = tt;
  }

  pub definitions_next : {here next : Expansion} (kind : DefinitionKind) (range : SourceRange) → here.index + 1 < 2 ^ 32 → AreDefinitionsBefore here
      → IsTargetOfDeclAtIndex root.rules root.graph (symbol_of_unique_id root s) here.index (read.Definition kind range)
      → IsExpansionAtNextDecl here next (λ later. forest_of_tree (leaf (definition (record {
        decl = decl_by_specifier later here.symbol.module_id (record { symbol = here.symbol.symbol_id; index = here.index });
        range = range;
        star = star_import_view kind;
      }))))
      → ((later : RootView) → IsStored later here.symbol.module_id → AreModulesStored later (modules_of_builders here.paths.items)
      → AreModulesStored later (modules_of_builders next.paths.items))
      → AreDefinitionsBefore next
  definitions_next {here = here} {next = next} kind range fits before is_read is stored =
      let valid = before.steps.valid in
      let read_here = subst (λ u. IsTargetOfDeclAtIndex root.rules root.graph (symbol_of_unique_id root u) here.index (read.Definition kind range))
      (sym before.symbol) is_read in
      record {
        symbol = is.symbol ∙ before.symbol;
        steps = next_steps before.steps (has_grown_refl root) (newly_stored_none root)
            (step_definition alone root [] (s ∷ []) [] here valid fits kind range next read_here is
            (stored root valid.step_valid.stored valid.step_valid.paths.stored));
      }

  pub definitions_ended : {here : Expansion} → AreDefinitionsBefore here
      → slice_get (declarations_of root.graph (symbol_of_unique_id root s)) here.index ≡ None → ArePathsFoundByNewSearch root s [] here.paths.items
  definitions_ended {here = here} before past =
      let past_here = subst (λ u. slice_get (declarations_of root.graph (symbol_of_unique_id root u)) here.index ≡ None) (sym before.symbol) past in
      let ended = next_steps before.steps (has_grown_refl root) (newly_stored_none root)
      (step_end alone (has_grown_refl root) [] (s ∷ []) [] here before.steps.valid refl past_here) in
      paths_of_new_search root s (found_at_last ended here.paths refl refl)
