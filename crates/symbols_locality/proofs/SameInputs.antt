-- A query looks up the same specifiers, in the same order, in graphs that agree on what it looks up in the first.
use Rattle.std.proofs.Common.{◌≡◌, ℕ, List, [], ◌∷◌, ◌++◌, map, Option, None, Some, refl, ap, ◌∙◌}
use Rattle.std.specs.Prelude.{Contains, flat_map}
use Rattle.std.specs.List.{range_with_len}
use Rattle.std.specs.Option.{option_map_or, option_and_then}
use Rattle.symbols_ast.specs.Graph.{GraphView, ModuleView, content_types_dependency, resolved_dependency}
use Rattle.symbols_table.specs.Analysis.{symbol_count}
use Rattle.symbols_table.specs.Changes.{Change}
use Rattle.symbols_table.specs.SymbolViews.{SymbolView, symbol_after_changes}
use Rattle.symbols_root.specs.TypesChains.{resolved_module_specifier}
use Rattle.symbols_exports.specs.StarStatements.{star_specifiers}
use Rattle.symbols_answers.specs.Questions.{QueryView, append_optional_specifier_if_absent, append_resolved_specifiers}
use Rattle.symbols_answers.specs.Questions.{list_grown_by_walk_from_index, walk_limit, import_specifiers_among, import_specifiers}
use Rattle.symbols_answers.specs.Questions.{star_and_import_specifiers, followed_specifiers, import_type_specifier_of_question, append_requested_specifiers}
use Rattle.symbols_answers.specs.Questions.{append_resolved_import_type, requested_specifiers, append_types_dependency, seen_specifiers, inputs_of_query}
use Rattle.symbols_answers.specs.Questions.{IsSpecifierRequestedByQuery, IsSpecifierLookedUpByQuery, IsSpecifierFollowedForQuestion, AreAlikeForQuery}
use Rattle.symbols_answers.specs.Inputs.{found_under_specifier, input_of_specifier}
use Rattle.symbols_answers.specs.Seen.{FollowedSpecifierRelation, queried_specifier_is_looked_up, is_requested}
use Rattle.symbols_answers.specs.laws.FollowedLists.{followed_specifiers_same, listed_specifiers_are_followed, import_type_of_question_is_followed}
use Rattle.symbols_answers.specs.laws.SeenLists.{specifiers_requested_from_module, append_requested_is_step_that_appends, requested_by_requested_is_requested}
use Rattle.symbols_answers.specs.laws.SeenLists.{queried_and_import_type_specifiers, queried_and_import_type_are_requested, listed_requests_are_requested}
use Rattle.symbols_answers.specs.laws.SeenLists.{types_dependency_as_list, append_types_is_step_that_appends, types_dependency_of_looked_up_is_too}
use Rattle.symbols_answers.specs.laws.SeenLists.{seen_specifiers_are_looked_up}
use Rattle.symbols_answers.specs.laws.Walks.{agreeing_steps_walk_alike}
use Rattle.symbols_locality.proofs.FoundModules.{IsFound}
use Rattle.symbols_locality.proofs.Lists.{contains_first, contains_later, same_map}
use Rattle.symbols_locality.proofs.SeenAlike.{same_resolved_module, same_changes, same_star_specifiers}

-- what specifiers resolve to, if each resolves to the same
same_targets : (graph other : GraphView) (referrer : List ℕ) (texts xs : List (List ℕ))
    → ((text : List ℕ) → Contains texts text → resolved_dependency graph referrer text ≡ resolved_dependency other referrer text)
    → append_resolved_specifiers graph referrer xs texts ≡ append_resolved_specifiers other referrer xs texts
same_targets graph other referrer [] xs same = refl
same_targets graph other referrer (text ∷ texts) xs same =
    same_targets graph other referrer texts (append_optional_specifier_if_absent xs (resolved_dependency graph referrer text))
    (λ later has. same later (contains_later text texts later has))
    ∙ ap (λ (found : Option (List ℕ)). append_resolved_specifiers other referrer (append_optional_specifier_if_absent xs found) texts)
    (same text (contains_first text texts))

module _ (graph other : GraphView) (query : QueryView) (alike : AreAlikeForQuery graph other query) where
  abbrev Follows : FollowedSpecifierRelation
  Follows = IsSpecifierFollowedForQuestion graph query.specifier query.question

  -- ---- what is followed in a found module

  star_same : (u : List ℕ) → IsFound graph Follows query.specifier u → star_specifiers graph u ≡ star_specifiers other u
  star_same u at = same_star_specifiers graph other Follows query.specifier alike u at

  star_and_import_same : (u : List ℕ) → IsFound graph Follows query.specifier u → star_and_import_specifiers graph u ≡ star_and_import_specifiers other u
  star_and_import_same u at = λ i. star_same u at i ++ imports i
    where
      imports : import_specifiers graph u ≡ import_specifiers other u
      imports = ap (λ (changes : List Change). flat_map import_specifiers_among (map (λ n. option_map_or (λ (symbol : SymbolView). symbol.decls)
          (symbol_after_changes changes (record { 0 = n })) []) (range_with_len 0 (symbol_count changes))))
          (same_changes graph other Follows query.specifier alike u at)

  followed_same : (u : List ℕ) → IsFound graph Follows query.specifier u
      → followed_specifiers graph query.question u ≡ followed_specifiers other query.question u
  followed_same u at = followed_specifiers_same graph other u (star_same u at) (star_and_import_same u at) query.question

  -- ---- requested specifiers

  requests_same : (key : List ℕ) (xs : List (List ℕ)) → IsSpecifierRequestedByQuery graph query key
      → append_requested_specifiers graph query.question key xs ≡ append_requested_specifiers other query.question key xs
  requests_same key xs requested =
      by (resolved_module_specifier graph key) refl
      ∙ ap (λ (found : Option (List ℕ)). option_map_or (requests_from other) found xs)
      (same_resolved_module graph other Follows query.specifier alike key (is_requested requested))
    where
      requests_from : GraphView → List ℕ → List (List ℕ)
      requests_from g specifier = append_resolved_specifiers g specifier xs (followed_specifiers g query.question specifier)

      by : (found : Option (List ℕ)) → resolved_module_specifier graph key ≡ found
          → option_map_or (requests_from graph) found xs ≡ option_map_or (requests_from other) found xs
      by None at = refl
      by (Some u) at =
          same_targets graph other u (followed_specifiers graph query.question u) xs (λ text has.
          alike.same_resolutions key u text requested at (listed_specifiers_are_followed graph query.specifier query.question u text has))
          ∙ ap (append_resolved_specifiers other u xs) (followed_same u (record { key = key; requested = requested; resolves = at }))

  import_type_same : (xs : List (List ℕ)) → append_resolved_import_type graph query xs ≡ append_resolved_import_type other query xs
  import_type_same xs = by (import_type_specifier_of_question query.question) refl
    where
      target_from : GraphView → List ℕ → List ℕ → List (List ℕ)
      target_from g text specifier = append_optional_specifier_if_absent xs (resolved_dependency g specifier text)

      on : (text : List ℕ) → import_type_specifier_of_question query.question ≡ Some text → (found : Option (List ℕ))
          → resolved_module_specifier graph query.specifier ≡ found
          → option_map_or (target_from graph text) found xs ≡ option_map_or (target_from other text) found xs
      on text t None at = refl
      on text t (Some u) at = ap (append_optional_specifier_if_absent xs)
          (alike.same_resolutions query.specifier u text queried_specifier_is_looked_up at
          (import_type_of_question_is_followed graph query.specifier query.question u text (at, t)))

      by : (found : Option (List ℕ)) → import_type_specifier_of_question query.question ≡ found
          → option_map_or (λ text. option_map_or (target_from graph text) (resolved_module_specifier graph query.specifier) xs) found xs
          ≡ option_map_or (λ text. option_map_or (target_from other text) (resolved_module_specifier other query.specifier) xs) found xs
      by None t = refl
      by (Some text) t =
          on text t (resolved_module_specifier graph query.specifier) refl
          ∙ ap (λ (found : Option (List ℕ)). option_map_or (target_from other text) found xs)
          (same_resolved_module graph other Follows query.specifier alike query.specifier (is_requested queried_specifier_is_looked_up))

  requested_same : requested_specifiers graph query ≡ requested_specifiers other query
  requested_same =
      agreeing_steps_walk_alike (append_requested_specifiers graph query.question) (specifiers_requested_from_module graph query.question)
      (append_requested_is_step_that_appends graph query.question)
      (IsSpecifierRequestedByQuery graph query) (requested_by_requested_is_requested graph query) (append_requested_specifiers other query.question)
      requests_same walk_limit 0 (queried_and_import_type_specifiers graph query) (queried_and_import_type_are_requested graph query)
      ∙ ap (list_grown_by_walk_from_index (append_requested_specifiers other query.question) walk_limit 0) (import_type_same (query.specifier ∷ []))

  -- ---- specifiers that are looked up

  types_same : (key : List ℕ) (xs : List (List ℕ)) → IsSpecifierLookedUpByQuery graph query key → append_types_dependency graph key xs
      ≡ append_types_dependency other key xs
  types_same key xs seen =
      ap (λ (found : Option ModuleView). append_optional_specifier_if_absent xs
      (option_and_then (λ (m : ModuleView). content_types_dependency m.content) found)) (alike.same_modules key seen)

  pub seen_same : seen_specifiers graph query ≡ seen_specifiers other query
  seen_same =
      agreeing_steps_walk_alike (append_types_dependency graph) (types_dependency_as_list graph) (append_types_is_step_that_appends graph)
      (IsSpecifierLookedUpByQuery graph query) (types_dependency_of_looked_up_is_too graph query)
      (append_types_dependency other) types_same walk_limit 0 (requested_specifiers graph query)
      (λ x has. is_requested (listed_requests_are_requested graph query x has))
      ∙ ap (list_grown_by_walk_from_index (append_types_dependency other) walk_limit 0) requested_same

  -- ---- inputs

  pub inputs_same : inputs_of_query graph query ≡ inputs_of_query other query
  inputs_same =
      same_map (input_of_specifier graph) (input_of_specifier other) (seen_specifiers graph query) (λ x has.
      ap (λ (found : Option ModuleView). record { specifier = x; found = found_under_specifier x found })
      (alike.same_modules x (seen_specifiers_are_looked_up graph query x has)))
      ∙ ap (map (input_of_specifier other)) seen_same
