-- The specifiers written in a stored module are those of the graph's module.
use Rattle.std.proofs.Common.{◌≡◌, ℕ, ◌<◌, ◌≤◌, inl, inr, List, [], ◌∷◌, ◌++◌, length, map, get_or, slice_get}
use Rattle.std.proofs.Common.{Option, None, Some, option_map, refl, sym, ap, ◌∙◌, arith}
use Rattle.std.specs.Prelude.{flat_map}
use Rattle.std.specs.Option.{option_map_or}
use Rattle.std.proofs.lemmas.List.{length-map, get_or-map}
use Rattle.std.proofs.lemmas.List.FromFn.{fill_by_all}
use Rattle.std.proofs.lemmas.Option.{none-some, slice_get_past, slice_get_cases, get_or_from_slice_get}
use Rattle.symbols_ast.specs.declared.ids.ModuleId.{ModuleId}
use Rattle.symbols_ast.specs.declared.ids.SymbolId.{SymbolId}
use Rattle.symbols_ast.specs.Graph.{GraphView}
use Rattle.symbols_table.specs.declared.decl.symbol.Symbol.{Symbol}
use Rattle.symbols_table.specs.Analysis.{symbol_count}
use Rattle.symbols_table.specs.Changes.{ExportStarStatement, parents_after_changes, export_stars_after_changes}
use Rattle.symbols_table.specs.Modules.{SymbolTable}
use Rattle.symbols_table.specs.Symbols.{symbol_decls}
use Rattle.symbols_table.specs.SymbolViews.{SymbolView, symbol_view, symbol_from_changes}
use Rattle.symbols_root.specs.GraphModules.{table_changes_of_module, symbol_in_module}
use Rattle.symbols_root.specs.Roots.{RootView, specifier_in, IsTableOfStoredModule}
use Rattle.symbols_root.specs.laws.StoredTables.{stored_table_has_module_changes, stored_table_has_module_symbols}
use Rattle.symbols_exports.specs.StarStatements.{star_specifiers}
use Rattle.symbols_paths.specs.DeclTargets.{declarations_of}
use Rattle.symbols_answers.specs.Questions.{append_resolved_specifiers, declarations_in_module, import_specifiers_among, import_specifiers}
use Rattle.symbols_answers.specs.Questions.{star_and_import_specifiers}
use Rattle.symbols_queries.proofs.TargetLists.{targets_joined}

-- values that are there or not alike
some_alike : {A B C : Type 0} (found : Option A) (other : Option B) (f : A → C) (g : B → C) → option_map f found ≡ option_map g other
    → option_map (λ x. tt {0}) found ≡ option_map (λ x. tt {0}) other
some_alike None None f g same = refl
some_alike None (Some y) f g same = absurd (none-some (g y) same)
some_alike (Some x) None f g same = absurd (none-some (f x) (sym same))
some_alike (Some x) (Some y) f g same = refl

-- lists that have elements at the same indexes are equally long
no_longer : {A B C : Type 0} (f : A → C) (g : B → C) (xs : List A) (ys : List B)
    → ((k : ℕ) → option_map f (slice_get xs k) ≡ option_map g (slice_get ys k)) → length ys ≤ length xs
no_longer f g xs ys same = elim (slice_get_cases ys (length xs)).1 [
  | inl found ↦ absurd (none-some (g found.0) (sym (ap (option_map f) (slice_get_past xs (length xs) (omega arith)))
      ∙ (same (length xs) ∙ ap (option_map g) found.2)))
  | inr over ↦ over.0
]

same_length : {A B C : Type 0} (f : A → C) (g : B → C) (xs : List A) (ys : List B)
    → ((k : ℕ) → option_map f (slice_get xs k) ≡ option_map g (slice_get ys k)) → length xs ≡ length ys
same_length f g xs ys same = omega (arith, no_longer f g xs ys same, no_longer g f ys xs (λ k. sym (same k)))

joined_map : {A B C : Type 0} (f : A → B) (g : B → List C) (xs : List A) → flat_map g (map f xs) ≡ flat_map (λ x. g (f x)) xs
joined_map f g [] = refl
joined_map f g (x ∷ xs) = ap (λ ys. g (f x) ++ ys) (joined_map f g xs)

module _ (root : RootView) (module_id : ModuleId) (table : SymbolTable) (stored : IsTableOfStoredModule root module_id table) where
  pub specifier_is : table.specifier ≡ specifier_in root module_id
  specifier_is = stored.2.is_analyzed_table.specifier ∙ sym (get_or_from_slice_get root.stored module_id.0 stored.0 [] stored.1)

  pub stars_are : map (λ (star : ExportStarStatement). star.specifier_text) table.stars ≡ star_specifiers root.graph (specifier_in root module_id)
  stars_are = ap (map (λ (star : ExportStarStatement). star.specifier_text)) (stored.2.is_analyzed_table.tables.stars
      ∙ ap export_stars_after_changes (sym (stored_table_has_module_changes root module_id table stored)))

  symbols_there : (k : ℕ) → option_map symbol_view (slice_get table.symbols k) ≡ symbol_in_module root.graph (specifier_in root module_id) (record { 0 = k })
  symbols_there k = stored_table_has_module_symbols root module_id table stored (record { 0 = k })

  counted : length (map symbol_decls table.symbols) ≡ symbol_count (table_changes_of_module root.graph (specifier_in root module_id))
  counted =
      let changes = table_changes_of_module root.graph (specifier_in root module_id) in
      length-map table.symbols symbol_decls
      ∙ same_length (λ (x : Symbol). tt {0}) (λ (p : Option SymbolId). tt {0}) table.symbols (parents_after_changes changes)
      (λ k. some_alike (slice_get table.symbols k) (slice_get (parents_after_changes changes) k) symbol_view (symbol_from_changes changes (record { 0 = k }))
      (symbols_there k))

  imports_are : map symbol_decls table.symbols ≡ declarations_in_module root.graph (specifier_in root module_id)
  imports_are = fill_by_all (λ n. declarations_of root.graph (record { specifier = specifier_in root module_id; number = record { 0 = n } }))
      (map symbol_decls table.symbols) (symbol_count (table_changes_of_module root.graph (specifier_in root module_id))) [] counted
      (λ k within. each k (omega (arith, within, counted, length-map table.symbols symbol_decls)))
    where
      each : (k : ℕ) → k < length table.symbols
          → get_or (map symbol_decls table.symbols) k []
          ≡ declarations_of root.graph (record { specifier = specifier_in root module_id; number = record { 0 = k } })
      each k within = elim (slice_get_cases table.symbols k).1 [
        | inl found ↦ get_or-map symbol_decls table.symbols k found.0 [] within ∙ (ap symbol_decls found.3
            ∙ ap (λ (o : Option SymbolView). option_map_or (λ (s : SymbolView). s.decls) o []) (sym (ap (option_map symbol_view) found.2) ∙ symbols_there k))
        | inr past ↦ absurd (omega (arith, within, past.0))
      ]

  pub import_specifiers_are : flat_map (λ (s : Symbol). import_specifiers_among (symbol_decls s)) table.symbols
      ≡ import_specifiers root.graph (specifier_in root module_id)
  import_specifiers_are = sym (joined_map symbol_decls import_specifiers_among table.symbols) ∙ ap (flat_map import_specifiers_among) imports_are

  -- ---- what they resolve to

  pub stars_requested : (graph : GraphView) (old new : List (List ℕ)) → graph ≡ root.graph
      → new ≡ append_resolved_specifiers graph table.specifier old (map (λ (star : ExportStarStatement). star.specifier_text) table.stars)
      → new ≡ append_resolved_specifiers root.graph (specifier_in root module_id) old (star_specifiers root.graph (specifier_in root module_id))
  stars_requested graph old new same added = added ∙ (λ i. append_resolved_specifiers (same i) (specifier_is i) old (stars_are i))

  pub stars_and_imports_requested : (graph : GraphView) (old mid new : List (List ℕ)) → graph ≡ root.graph
      → mid ≡ append_resolved_specifiers graph table.specifier old (map (λ (star : ExportStarStatement). star.specifier_text) table.stars)
      → new ≡ append_resolved_specifiers graph table.specifier mid (flat_map (λ (s : Symbol). import_specifiers_among (symbol_decls s)) table.symbols)
      → new ≡ append_resolved_specifiers root.graph (specifier_in root module_id) old (star_and_import_specifiers root.graph (specifier_in root module_id))
  stars_and_imports_requested graph old mid new same first then =
      then ∙ (ap (λ (list : List (List ℕ)). append_resolved_specifiers graph table.specifier list
      (flat_map (λ (s : Symbol). import_specifiers_among (symbol_decls s)) table.symbols)) first
      ∙ (targets_joined graph table.specifier (map (λ (star : ExportStarStatement). star.specifier_text) table.stars)
      (flat_map (λ (s : Symbol). import_specifiers_among
      (symbol_decls s)) table.symbols) old
      ∙ (λ i. append_resolved_specifiers (same i) (specifier_is i) old (stars_are i ++ import_specifiers_are i))))
