-- Laws on the listed specifiers: those of the definitions, and no others. They are proved.
use Rattle.std.proofs.Common.{◌≡◌, ℕ, zero, suc, ◌≤◌, inl, inr, List, [], ◌∷◌, length}
use Rattle.std.proofs.Common.{Option, None, Some, refl, sym, ap, subst, ◌∙◌, arith}
use Rattle.std.specs.Prelude.{Contains, filter_map}
use Rattle.std.specs.List.{IsDistinct, cons_option}
use Rattle.std.specs.Option.{option_map_or, option_and_then}
use Rattle.std.specs.Str.{bytes_eq}
use Rattle.std.proofs.lemmas.Option.{none-some}
use Rattle.symbols_ast.specs.Graph.{GraphView, ModuleView, module_after_redirect, content_types_dependency, resolved_dependency}
use Rattle.symbols_root.specs.TypesChains.{resolved_module_specifier}
use Rattle.symbols_answers.specs.Questions.{QuestionView, QueryView, IsSpecifierRequestedByQuery, IsSpecifierLookedUpByQuery}
use Rattle.symbols_answers.specs.Questions.{append_optional_specifier_if_absent, append_resolved_specifiers, walk_limit, followed_specifiers}
use Rattle.symbols_answers.specs.Questions.{import_type_specifier_of_question, append_requested_specifiers, append_resolved_import_type, requested_specifiers}
use Rattle.symbols_answers.specs.Questions.{append_types_dependency, seen_specifiers}
use Rattle.symbols_answers.specs.Seen.{queried_specifier_is_looked_up, resolved_specifier_is_looked_up, is_requested, types_dependency_is_looked_up}
use Rattle.symbols_answers.specs.laws.Walks.{append_specifiers_if_absent, element_is_old_or_appended, appended_list_begins_with_old}
use Rattle.symbols_answers.specs.laws.Walks.{appended_list_contains_each_new, appended_list_is_distinct_if_old_was, BeginsWith}
use Rattle.symbols_answers.specs.laws.Walks.{elements_of_beginning_are_contained, beginning_is_not_longer, IsStepThatAppends, walked_list_begins_with_start}
use Rattle.symbols_answers.specs.laws.Walks.{walked_list_is_distinct, predicate_holds_in_walked_list, walked_list_has_what_each_appends}
use Rattle.symbols_answers.specs.laws.FollowedLists.{filter_map_element_is_image, filter_map_contains_image, append_optional_is_append_list}
use Rattle.symbols_answers.specs.laws.FollowedLists.{append_resolved_is_append_list, listed_specifiers_are_followed, import_type_of_question_is_followed}
use Rattle.symbols_answers.specs.laws.FollowedLists.{IsImportTypeSpecifierOfQueried, followed_specifiers_are_listed}

-- ---- what each step adds

-- what the question requests from the module that a specifier resolves to
abbrev pub specifiers_requested_from_module : GraphView → QuestionView → List ℕ → List (List ℕ)
specifiers_requested_from_module graph question key =
    option_map_or (λ specifier. filter_map (resolved_dependency graph specifier) (followed_specifiers graph question specifier))
    (resolved_module_specifier graph key) []

pub append_requested_is_step_that_appends : (graph : GraphView) (question : QuestionView) → IsStepThatAppends (append_requested_specifiers graph question)
    (specifiers_requested_from_module graph question)
append_requested_is_step_that_appends graph question = record { is = λ key xs. by xs (resolved_module_specifier graph key) }
  where
    by : (xs : List (List ℕ)) (found : Option (List ℕ))
        → option_map_or (λ specifier. append_resolved_specifiers graph specifier xs (followed_specifiers graph question specifier)) found xs
        ≡ append_specifiers_if_absent xs (option_map_or (λ specifier. filter_map (resolved_dependency graph specifier)
        (followed_specifiers graph question specifier)) found [])
    by xs None = refl
    by xs (Some specifier) = append_resolved_is_append_list graph specifier (followed_specifiers graph question specifier) xs

-- the types dependency of the module that is found under a specifier
abbrev pub types_dependency_as_list : GraphView → List ℕ → List (List ℕ)
types_dependency_as_list graph key = cons_option (option_and_then (λ (m : ModuleView). content_types_dependency m.content) (module_after_redirect graph key)) []

pub append_types_is_step_that_appends : (graph : GraphView) → IsStepThatAppends (append_types_dependency graph) (types_dependency_as_list graph)
append_types_is_step_that_appends graph = record {
  is = λ key xs. append_optional_is_append_list xs (option_and_then (λ (m : ModuleView). content_types_dependency m.content) (module_after_redirect graph key));
}

-- what an import type in the queried module resolves to
abbrev import_type_target : GraphView → QueryView → Option (List ℕ)
import_type_target graph query = option_and_then (λ specifier_text. option_and_then (λ specifier. resolved_dependency graph specifier specifier_text)
    (resolved_module_specifier graph query.specifier)) (import_type_specifier_of_question query.question)

import_type_added : (graph : GraphView) (query : QueryView) (xs : List (List ℕ))
    → append_resolved_import_type graph query xs ≡ append_optional_specifier_if_absent xs (import_type_target graph query)
import_type_added graph query xs = by (import_type_specifier_of_question query.question) (resolved_module_specifier graph query.specifier)
  where
    by : (text found : Option (List ℕ)) → option_map_or (λ specifier_text. option_map_or (λ specifier. append_optional_specifier_if_absent xs
        (resolved_dependency graph specifier specifier_text)) found xs) text xs
        ≡ append_optional_specifier_if_absent xs (option_and_then
        (λ specifier_text. option_and_then (λ specifier. resolved_dependency graph specifier specifier_text) found) text)
    by None found = refl
    by (Some t) None = refl
    by (Some t) (Some u) = refl

only_one : (k x : List ℕ) → Contains (k ∷ []) x → k ≡ x
only_one k x (zero, within, same) = same
only_one k x (suc i, within, same) = absurd (omega (arith, within))

one_once : (k : List ℕ) → IsDistinct bytes_eq (k ∷ [])
unfolding IsDistinct
one_once k = (tt, tt)

only_found : (found : Option (List ℕ)) (x : List ℕ) → Contains (cons_option found []) x → found ≡ Some x
only_found None x has = absurd (omega (arith, has.1))
only_found (Some k) x has = ap Some (only_one k x has)

module _ (graph : GraphView) (query : QueryView) where
  -- ---- requested specifiers

  abbrev pub queried_and_import_type_specifiers : List (List ℕ)
  queried_and_import_type_specifiers = append_resolved_import_type graph query (query.specifier ∷ [])

  first_ones_are : queried_and_import_type_specifiers ≡ append_specifiers_if_absent (query.specifier ∷ []) (cons_option (import_type_target graph query) [])
  first_ones_are = import_type_added graph query (query.specifier ∷ []) ∙ append_optional_is_append_list (query.specifier ∷ []) (import_type_target graph query)

  pub requested_by_requested_is_requested : (key x : List ℕ) → IsSpecifierRequestedByQuery graph query key
      → Contains (specifiers_requested_from_module graph query.question key) x → IsSpecifierRequestedByQuery graph query x
  requested_by_requested_is_requested key x requested has = by (resolved_module_specifier graph key) refl has
    where
      by : (found : Option (List ℕ)) → resolved_module_specifier graph key ≡ found
          → Contains (option_map_or (λ specifier. filter_map (resolved_dependency graph specifier) (followed_specifiers graph query.question specifier))
          found []) x → IsSpecifierRequestedByQuery graph query x
      by None at here = absurd (omega (arith, here.1))
      by (Some specifier) at here =
          let from = filter_map_element_is_image (resolved_dependency graph specifier) (followed_specifiers graph query.question specifier) x here in
          resolved_specifier_is_looked_up key specifier from.0 requested at
          (listed_specifiers_are_followed graph query.specifier query.question specifier from.0 from.1) from.2

  import_type_requested : (x : List ℕ) → import_type_target graph query ≡ Some x → IsSpecifierRequestedByQuery graph query x
  import_type_requested x is = by (import_type_specifier_of_question query.question) (resolved_module_specifier graph query.specifier) refl refl is
    where
      by : (text found : Option (List ℕ)) → import_type_specifier_of_question query.question ≡ text → resolved_module_specifier graph query.specifier ≡ found
          → option_and_then (λ specifier_text. option_and_then (λ specifier. resolved_dependency graph specifier specifier_text) found) text ≡ Some x
          → IsSpecifierRequestedByQuery graph query x
      by None found t at e = absurd (none-some x e)
      by (Some text) None t at e = absurd (none-some x e)
      by (Some text) (Some specifier) t at e =
          resolved_specifier_is_looked_up query.specifier specifier text queried_specifier_is_looked_up at
          (import_type_of_question_is_followed graph query.specifier query.question specifier text (at, t)) e

  pub queried_and_import_type_are_requested : (x : List ℕ) → Contains queried_and_import_type_specifiers x → IsSpecifierRequestedByQuery graph query x
  queried_and_import_type_are_requested x has =
      elim (element_is_old_or_appended (cons_option (import_type_target graph query) []) (query.specifier ∷ []) x
      (subst (λ (list : List (List ℕ)). Contains list x) first_ones_are has)) [
        | inl old ↦ subst (IsSpecifierRequestedByQuery graph query) (only_one query.specifier x old) queried_specifier_is_looked_up
        | inr new ↦ import_type_requested x (only_found (import_type_target graph query) x new)
      ]

  pub listed_requests_are_requested : (x : List ℕ) → Contains (requested_specifiers graph query) x → IsSpecifierRequestedByQuery graph query x
  listed_requests_are_requested x has = predicate_holds_in_walked_list (append_requested_specifiers graph query.question)
      (specifiers_requested_from_module graph query.question) (append_requested_is_step_that_appends graph query.question)
      (IsSpecifierRequestedByQuery graph query) requested_by_requested_is_requested walk_limit 0 queried_and_import_type_specifiers
      queried_and_import_type_are_requested x has

  requested_begin : BeginsWith queried_and_import_type_specifiers (requested_specifiers graph query)
  requested_begin =
      walked_list_begins_with_start (append_requested_specifiers graph query.question) (specifiers_requested_from_module graph query.question)
      (append_requested_is_step_that_appends graph query.question) walk_limit 0 queried_and_import_type_specifiers

  first_listed : (x : List ℕ) → Contains (append_specifiers_if_absent (query.specifier ∷ []) (cons_option (import_type_target graph query) [])) x
      → Contains (requested_specifiers graph query) x
  first_listed x has =
      elements_of_beginning_are_contained queried_and_import_type_specifiers (requested_specifiers graph query) x requested_begin
      (subst (λ (list : List (List ℕ)). Contains list x) (sym first_ones_are) has)

  import_type_listed : (specifier specifier_text x : List ℕ) → IsImportTypeSpecifierOfQueried graph query.specifier query.question specifier specifier_text
      → resolved_dependency graph specifier specifier_text ≡ Some x → Contains (requested_specifiers graph query) x
  import_type_listed specifier specifier_text x is resolves =
      let target : import_type_target graph query ≡ Some x =
      ap (λ (text : Option (List ℕ)). option_and_then (λ t. option_and_then (λ u. resolved_dependency graph u t) (resolved_module_specifier graph
      query.specifier)) text) is.1
      ∙ (ap (λ (found : Option (List ℕ)). option_and_then (λ u. resolved_dependency graph u specifier_text) found) is.0 ∙ resolves) in
      first_listed x (appended_list_contains_each_new (cons_option (import_type_target graph query) []) (query.specifier ∷ []) x
      (subst (λ (found : Option (List ℕ)). Contains (cons_option found []) x) (sym target) (0, omega arith, refl)))

  module _ (few : length (requested_specifiers graph query) ≤ walk_limit) where
    request_listed : (key specifier specifier_text next : List ℕ) → Contains (requested_specifiers graph query) key
        → resolved_module_specifier graph key ≡ Some specifier → Contains (followed_specifiers graph query.question specifier) specifier_text
        → resolved_dependency graph specifier specifier_text ≡ Some next → Contains (requested_specifiers graph query) next
    request_listed key specifier specifier_text next has at listed resolves =
        let added : Contains (specifiers_requested_from_module graph query.question key) next =
        subst (λ (found : Option (List ℕ)). Contains (option_map_or (λ u. filter_map (resolved_dependency graph u) (followed_specifiers graph query.question u))
        found []) next) (sym at) (filter_map_contains_image (resolved_dependency graph specifier) (followed_specifiers graph query.question specifier)
        specifier_text next
        listed resolves) in
        walked_list_has_what_each_appends (append_requested_specifiers graph query.question) (specifiers_requested_from_module graph query.question)
        (append_requested_is_step_that_appends graph query.question) walk_limit 0 queried_and_import_type_specifiers few
        has.0 key (omega arith) has.1 next (subst (λ k. Contains (specifiers_requested_from_module graph query.question k) next) (sym has.2) added)

    -- each requested specifier is in the list
    pub requested_specifiers_are_listed : (x : List ℕ) → IsSpecifierRequestedByQuery graph query x → Contains (requested_specifiers graph query) x
    requested_specifiers_are_listed x queried_specifier_is_looked_up = first_listed x (elements_of_beginning_are_contained (query.specifier ∷ []) _ x
        (appended_list_begins_with_old (cons_option (import_type_target graph query) []) (query.specifier ∷ [])) (0, omega arith, refl))
    requested_specifiers_are_listed x (resolved_specifier_is_looked_up key specifier specifier_text before at follows resolves) =
        elim (followed_specifiers_are_listed graph query.specifier query.question specifier specifier_text follows) [
          | inl listed ↦ request_listed key specifier specifier_text x (requested_specifiers_are_listed key before) at listed resolves
          | inr imported ↦ import_type_listed specifier specifier_text x imported resolves
        ]

  requested_distinct : IsDistinct bytes_eq (requested_specifiers graph query)
  requested_distinct =
      walked_list_is_distinct (append_requested_specifiers graph query.question) (specifiers_requested_from_module graph query.question)
      (append_requested_is_step_that_appends graph query.question) walk_limit 0 queried_and_import_type_specifiers
      (subst (IsDistinct bytes_eq) (sym first_ones_are) (appended_list_is_distinct_if_old_was (cons_option (import_type_target graph query) [])
      (query.specifier ∷ []) (one_once query.specifier)))

  -- ---- specifiers that are looked up

  pub types_dependency_of_looked_up_is_too : (key x : List ℕ) → IsSpecifierLookedUpByQuery graph query key → Contains (types_dependency_as_list graph key) x
      → IsSpecifierLookedUpByQuery graph query x
  types_dependency_of_looked_up_is_too key x seen has =
      by (module_after_redirect graph key) refl
      (only_found (option_and_then (λ (m : ModuleView). content_types_dependency m.content) (module_after_redirect graph key)) x has)
    where
      by : (found : Option ModuleView) → module_after_redirect graph key ≡ found
          → option_and_then (λ (m : ModuleView). content_types_dependency m.content) found ≡ Some x → IsSpecifierLookedUpByQuery graph query x
      by None at e = absurd (none-some x e)
      by (Some m) at e = types_dependency_is_looked_up key m seen at e

  -- the list has no other specifiers
  pub seen_specifiers_are_looked_up : (x : List ℕ) → Contains (seen_specifiers graph query) x → IsSpecifierLookedUpByQuery graph query x
  seen_specifiers_are_looked_up x has = predicate_holds_in_walked_list (append_types_dependency graph) (types_dependency_as_list graph)
      (append_types_is_step_that_appends graph) (IsSpecifierLookedUpByQuery graph query) types_dependency_of_looked_up_is_too walk_limit 0
      (requested_specifiers graph query) (λ y there. is_requested (listed_requests_are_requested y there)) x has

  pub seen_begin_with_requested : BeginsWith (requested_specifiers graph query) (seen_specifiers graph query)
  seen_begin_with_requested = walked_list_begins_with_start (append_types_dependency graph) (types_dependency_as_list graph)
      (append_types_is_step_that_appends graph) walk_limit 0 (requested_specifiers graph query)

  module _ (few : length (seen_specifiers graph query) ≤ walk_limit) where
    pub few_requested : length (requested_specifiers graph query) ≤ walk_limit
    few_requested = omega (arith, few, beginning_is_not_longer (requested_specifiers graph query) (seen_specifiers graph query) seen_begin_with_requested)

    -- each specifier that is looked up is in the list
    pub looked_up_specifiers_are_seen : (x : List ℕ) → IsSpecifierLookedUpByQuery graph query x → Contains (seen_specifiers graph query) x
    looked_up_specifiers_are_seen x (is_requested requested) =
        elements_of_beginning_are_contained (requested_specifiers graph query) (seen_specifiers graph query) x seen_begin_with_requested
        (requested_specifiers_are_listed few_requested x requested)
    looked_up_specifiers_are_seen x (types_dependency_is_looked_up key m before under types) =
        let has = looked_up_specifiers_are_seen key before in
        let found : option_and_then (λ (w : ModuleView). content_types_dependency w.content) (module_after_redirect graph key) ≡ Some x =
        ap (λ (o : Option ModuleView). option_and_then (λ (w : ModuleView). content_types_dependency w.content) o) under ∙ types in
        walked_list_has_what_each_appends (append_types_dependency graph) (types_dependency_as_list graph) (append_types_is_step_that_appends graph) walk_limit
        0 (requested_specifiers graph query) few has.0 key
        (omega arith) has.1 x (subst (λ k. Contains (types_dependency_as_list graph k) x) (sym has.2)
        (subst (λ (o : Option (List ℕ)). Contains (cons_option o []) x) (sym found) (0, omega arith, refl)))

  -- none is in the list twice
  pub seen_specifiers_are_distinct : IsDistinct bytes_eq (seen_specifiers graph query)
  seen_specifiers_are_distinct = walked_list_is_distinct (append_types_dependency graph) (types_dependency_as_list graph)
      (append_types_is_step_that_appends graph) walk_limit 0 (requested_specifiers graph query) requested_distinct
