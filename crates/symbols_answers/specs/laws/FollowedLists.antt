-- Laws on the specifiers that a question follows: as lists they are those of the definitions. They are proved.
use Rattle.std.proofs.Common.{◌≡◌, ℕ, zero, suc, ◌<◌, ◌⊎◌, inl, inr, List, [], ◌∷◌, map}
use Rattle.std.proofs.Common.{Option, None, Some, option_map, refl, sym, ap, subst, ◌∙◌, arith}
use Rattle.std.specs.Prelude.{Contains, filter_map, flat_map}
use Rattle.std.specs.List.{cons_option, range_with_len}
use Rattle.std.specs.Option.{option_map_or}
use Rattle.std.proofs.lemmas.List.Elements.{Contains-append_left, Contains-append_right, Contains-append_cases}
use Rattle.std.proofs.lemmas.List.FromFn.{length-map-range_with_len, get_or-map-range_with_len}
use Rattle.std.proofs.lemmas.Option.{none-some, same_Some, slice_get_cases}
use Rattle.symbols_ast.specs.Graph.{GraphView, resolved_dependency}
use Rattle.symbols_nodes.specs.References.{SymbolReference, id, qualified_id, import_type}
use Rattle.symbols_table.specs.Analysis.{symbol_count}
use Rattle.symbols_table.specs.Changes.{parents_after_changes}
use Rattle.symbols_table.specs.DeclViews.{FileDepNameView, FileDepView, DeclKindView, target, qualified_target, file_ref, definition, Declaration}
use Rattle.symbols_table.specs.DeclViews.{decl_kind_dep}
use Rattle.symbols_table.specs.SymbolViews.{SymbolView, symbol_from_changes}
use Rattle.symbols_root.specs.GraphModules.{table_changes_of_module}
use Rattle.symbols_root.specs.TypesChains.{resolved_module_specifier}
use Rattle.symbols_exports.specs.StarStatements.{star_specifiers}
use Rattle.symbols_paths.specs.PathTrees.{SymbolBySpecifier}
use Rattle.symbols_paths.specs.DeclTargets.{declarations_of}
use Rattle.symbols_answers.specs.Questions.{QuestionView, query_module, query_exports, query_names, query_symbol, query_name, query_deps, query_paths}
use Rattle.symbols_answers.specs.Questions.{query_definitions, query_leaves, query_resolve, IsFollowedBySearch, star_specifier_is_followed}
use Rattle.symbols_answers.specs.Questions.{import_specifier_is_followed, import_type_specifier_is_followed, IsSpecifierFollowedForQuestion}
use Rattle.symbols_answers.specs.Questions.{append_optional_specifier_if_absent, append_resolved_specifiers, declarations_in_module, import_specifiers_among}
use Rattle.symbols_answers.specs.Questions.{import_specifiers, star_and_import_specifiers, followed_specifiers, import_type_specifier}
use Rattle.symbols_answers.specs.Questions.{import_type_specifier_of_question}
use Rattle.symbols_answers.specs.laws.Walks.{append_specifiers_if_absent}

-- ---- elements of lists

first_or_later : {A : Type 0} (x : A) (xs : List A) (y : A) → Contains (x ∷ xs) y → (x ≡ y) ⊎ Contains xs y
first_or_later x xs y (zero, within, same) = inl same
first_or_later x xs y (suc k, within, same) = inr (k, omega (arith, within), same)

contains_later : {A : Type 0} (x : A) (xs : List A) (y : A) → Contains xs y → Contains (x ∷ xs) y
contains_later x xs y has = (suc has.0, omega (arith, has.1), has.2)

-- an element of a filtered list is the image of an element, and each image is one
pub filter_map_element_is_image : {A B : Type 0} (f : A → Option B) (xs : List A) (y : B) → Contains (filter_map f xs) y → (x : A) × Contains xs x
    × (f x ≡ Some y)
filter_map_element_is_image f [] y has = absurd (omega (arith, has.1))
filter_map_element_is_image {A} {B} f (x ∷ xs) y has = by (f x) refl has (λ later. filter_map_element_is_image f xs y later)
  where
    by : (found : Option B) → f x ≡ found → Contains (cons_option found (filter_map f xs)) y
        → (Contains (filter_map f xs) y → (w : A) × Contains xs w × (f w ≡ Some y)) → (w : A) × Contains (x ∷ xs) w × (f w ≡ Some y)
    by None is here later = let from = later here in (from.0, contains_later x xs from.0 from.1, from.2)
    by (Some z) is here later = elim (first_or_later z (filter_map f xs) y here) [
      | inl same ↦ (x, (0, omega arith, refl), is ∙ ap Some same)
      | inr after_first ↦ let from = later after_first in (from.0, contains_later x xs from.0 from.1, from.2)
    ]

pub filter_map_contains_image : {A B : Type 0} (f : A → Option B) (xs : List A) (x : A) (y : B) → Contains xs x → f x ≡ Some y → Contains (filter_map f xs) y
filter_map_contains_image f [] x y has is = absurd (omega (arith, has.1))
filter_map_contains_image {A} {B} f (w ∷ xs) x y has is = elim (first_or_later w xs x has) [
  | inl same ↦ subst (λ (found : Option B). Contains (cons_option found (filter_map f xs)) y) (sym (ap f same ∙ is)) (0, omega arith, refl)
  | inr later ↦ by (f w) (filter_map_contains_image f xs x y later is)
]
  where
    by : (found : Option B) → Contains (filter_map f xs) y → Contains (cons_option found (filter_map f xs)) y
    by None there = there
    by (Some z) there = contains_later z (filter_map f xs) y there

-- an element of joined lists is one of a list, and each is one
pub flat_map_element_is_in_image : {A B : Type 0} (f : A → List B) (xs : List A) (y : B) → Contains (flat_map f xs) y → (x : A) × Contains xs x
    × Contains (f x) y
flat_map_element_is_in_image f [] y has = absurd (omega (arith, has.1))
flat_map_element_is_in_image f (x ∷ xs) y has = elim (Contains-append_cases (f x) (flat_map f xs) y has) [
  | inl here ↦ (x, (0, omega arith, refl), here)
  | inr later ↦ let from = flat_map_element_is_in_image f xs y later in (from.0, contains_later x xs from.0 from.1, from.2)
]

pub flat_map_contains_element_of_image : {A B : Type 0} (f : A → List B) (xs : List A) (x : A) (y : B) → Contains xs x → Contains (f x) y
    → Contains (flat_map f xs) y
flat_map_contains_element_of_image f [] x y has there = absurd (omega (arith, has.1))
flat_map_contains_element_of_image f (w ∷ xs) x y has there = elim (first_or_later w xs x has) [
  | inl same ↦ Contains-append_left (f w) (flat_map f xs) y (subst (λ v. Contains (f v) y) (sym same) there)
  | inr later ↦ Contains-append_right (f w) (flat_map f xs) y (flat_map_contains_element_of_image f xs x y later there)
]

mapped_from : {A B : Type 0} (f : A → B) (xs : List A) (y : B) → Contains (map f xs) y → (x : A) × (f x ≡ y)
mapped_from f [] y has = absurd (omega (arith, has.1))
mapped_from f (x ∷ xs) y has = elim (first_or_later (f x) (map f xs) y has) [
  | inl same ↦ (x, same)
  | inr later ↦ mapped_from f xs y later
]

-- ---- what specifiers resolve to, as a list of those that are added

pub append_optional_is_append_list : (xs : List (List ℕ)) (found : Option (List ℕ)) → append_optional_specifier_if_absent xs found
    ≡ append_specifiers_if_absent xs (cons_option found [])
append_optional_is_append_list xs None = refl
append_optional_is_append_list xs (Some k) = refl

pub append_resolved_is_append_list : (graph : GraphView) (referrer : List ℕ) (texts xs : List (List ℕ))
    → append_resolved_specifiers graph referrer xs texts ≡ append_specifiers_if_absent xs (filter_map (resolved_dependency graph referrer) texts)
append_resolved_is_append_list graph referrer [] xs = refl
append_resolved_is_append_list graph referrer (t ∷ texts) xs =
    by (resolved_dependency graph referrer t) (append_resolved_is_append_list graph referrer texts
    (append_optional_specifier_if_absent xs (resolved_dependency graph referrer t)))
  where
    by : (found : Option (List ℕ)) → append_resolved_specifiers graph referrer (append_optional_specifier_if_absent xs found) texts
        ≡ append_specifiers_if_absent (append_optional_specifier_if_absent xs found)
        (filter_map (resolved_dependency graph referrer) texts) → append_resolved_specifiers graph referrer (append_optional_specifier_if_absent xs found) texts
        ≡ append_specifiers_if_absent xs (cons_option found (filter_map (resolved_dependency graph referrer) texts))
    by None later = later
    by (Some k) later = later

-- ---- imports

import_of : (decl : Declaration) (specifier_text : List ℕ)
    → option_map (λ (dep : FileDepView). dep.specifier) (decl_kind_dep decl.kind) ≡ Some specifier_text
    → (name : FileDepNameView) × (decl.kind ≡ file_ref name specifier_text)
import_of decl specifier_text is = by decl.kind refl is
  where
    by : (kind : DeclKindView) → decl.kind ≡ kind → option_map (λ (dep : FileDepView). dep.specifier) (decl_kind_dep kind) ≡ Some specifier_text
        → (name : FileDepNameView) × (decl.kind ≡ file_ref name specifier_text)
    by (target x) at e = absurd (none-some specifier_text e)
    by (qualified_target x parts) at e = absurd (none-some specifier_text e)
    by (file_ref name text) at e = (name, at ∙ ap (file_ref name) (same_Some text specifier_text e))
    by (definition x) at e = absurd (none-some specifier_text e)

-- a symbol with a declaration is one of the module's symbols
numbered : (graph : GraphView) (s : SymbolBySpecifier) (decl : Declaration) → Contains (declarations_of graph s) decl
    → s.number.0 < symbol_count (table_changes_of_module graph s.specifier)
numbered graph s decl has = elim (slice_get_cases (parents_after_changes (table_changes_of_module graph s.specifier)) s.number.0).1 [
  | inl found ↦ found.1
  | inr past ↦ absurd (let nothing : Contains {X = Declaration} [] decl =
      subst (λ (found : Option (Option _)). Contains (option_map_or (λ (symbol : SymbolView). symbol.decls)
      (option_map (symbol_from_changes (table_changes_of_module graph s.specifier) s.number) found) []) decl) past.1 has in omega (arith, nothing.1))
]

pub import_specifiers_contain_each_import : (graph : GraphView) (s : SymbolBySpecifier) (decl : Declaration) (name : FileDepNameView) (specifier_text : List ℕ)
    → Contains (declarations_of graph s) decl → decl.kind ≡ file_ref name specifier_text → Contains (import_specifiers graph s.specifier) specifier_text
import_specifiers_contain_each_import graph s decl name specifier_text has is =
    let count = symbol_count (table_changes_of_module graph s.specifier) in
    let within = numbered graph s decl has in
    flat_map_contains_element_of_image import_specifiers_among (declarations_in_module graph s.specifier) (declarations_of graph s) specifier_text (
      s.number.0,
      omega (arith, within, length-map-range_with_len (λ n. declarations_of graph (record { specifier = s.specifier; number = record { 0 = n } })) 0 count),
      get_or-map-range_with_len (λ n. declarations_of graph (record { specifier = s.specifier; number = record { 0 = n } })) 0 count s.number.0 s.number.0
          (declarations_of graph s) within (omega arith),
    )
    (filter_map_contains_image (λ (d : Declaration). option_map (λ (dep : FileDepView). dep.specifier) (decl_kind_dep d.kind)) (declarations_of graph s) decl
    specifier_text
    has (ap (λ (kind : DeclKindView). option_map (λ (dep : FileDepView). dep.specifier) (decl_kind_dep kind)) is))

-- ---- what a question follows

-- in two graphs it is the same list, if the specifiers of `export *` statements are, and those with imports and re-exports
pub followed_specifiers_same : (graph other : GraphView) (specifier : List ℕ) → star_specifiers graph specifier ≡ star_specifiers other specifier
    → star_and_import_specifiers graph specifier ≡ star_and_import_specifiers other specifier → (question : QuestionView)
    → followed_specifiers graph question specifier ≡ followed_specifiers other question specifier
followed_specifiers_same graph other specifier stars stars_and_imports query_module = refl
followed_specifiers_same graph other specifier stars stars_and_imports query_exports = stars
followed_specifiers_same graph other specifier stars stars_and_imports query_names = stars
followed_specifiers_same graph other specifier stars stars_and_imports (query_symbol name) = refl
followed_specifiers_same graph other specifier stars stars_and_imports (query_name s) = refl
followed_specifiers_same graph other specifier stars stars_and_imports (query_deps s mode) = refl
followed_specifiers_same graph other specifier stars stars_and_imports (query_paths s) = stars_and_imports
followed_specifiers_same graph other specifier stars stars_and_imports (query_definitions s) = stars_and_imports
followed_specifiers_same graph other specifier stars stars_and_imports (query_leaves s) = stars_and_imports
followed_specifiers_same graph other specifier stars stars_and_imports (query_resolve reference) = stars_and_imports

module _ (graph : GraphView) (queried : List ℕ) where
  -- by a search
  search_follows : (question : QuestionView) (specifier specifier_text : List ℕ) → Contains (star_and_import_specifiers graph specifier) specifier_text
      → IsFollowedBySearch graph queried question specifier specifier_text
  search_follows question specifier specifier_text has =
      elim (Contains-append_cases (star_specifiers graph specifier) (import_specifiers graph specifier) specifier_text has) [
        | inl star ↦ star_specifier_is_followed star
        | inr imported ↦
            let joined = flat_map_element_is_in_image import_specifiers_among (declarations_in_module graph specifier) specifier_text imported in
            let numbers = range_with_len 0 (symbol_count (table_changes_of_module graph specifier)) in
            let number = mapped_from (λ n. declarations_of graph (record { specifier = specifier; number = record { 0 = n } })) numbers joined.0 joined.1 in
            let found = filter_map_element_is_image (λ (d : Declaration). option_map (λ (dep : FileDepView). dep.specifier) (decl_kind_dep d.kind)) joined.0
            specifier_text
            joined.2 in
            let kind = import_of found.0 specifier_text found.2 in
            import_specifier_is_followed (record { specifier = specifier; number = record { 0 = number.0 } }) found.0 kind.0
            (subst (λ (decls : List Declaration). Contains decls found.0) (sym number.1) found.1) kind.1
      ]

  -- the specifier is that of the import type in the queried module
  abbrev pub IsImportTypeSpecifierOfQueried : QuestionView → List ℕ → List ℕ → Type 0
  IsImportTypeSpecifierOfQueried question specifier specifier_text = (resolved_module_specifier graph queried ≡ Some specifier)
      × (import_type_specifier_of_question question ≡ Some specifier_text)

  followed_by_search : (question : QuestionView) (specifier specifier_text : List ℕ) → IsFollowedBySearch graph queried question specifier specifier_text
      → Contains (star_and_import_specifiers graph specifier) specifier_text ⊎ IsImportTypeSpecifierOfQueried question specifier specifier_text
  followed_by_search question specifier specifier_text (star_specifier_is_followed star) =
      inl (Contains-append_left (star_specifiers graph specifier) (import_specifiers graph specifier) specifier_text star)
  followed_by_search question specifier specifier_text (import_specifier_is_followed s decl name has is) =
      inl (Contains-append_right (star_specifiers graph s.specifier) (import_specifiers graph s.specifier) specifier_text
      (import_specifiers_contain_each_import graph s decl name specifier_text has is))
  followed_by_search question specifier specifier_text (import_type_specifier_is_followed parts resolved is) =
      inr (resolved, ap import_type_specifier_of_question is)

  -- each specifier of the list is followed
  pub listed_specifiers_are_followed : (question : QuestionView) (specifier specifier_text : List ℕ) → Contains (followed_specifiers graph question specifier)
      specifier_text
      → IsSpecifierFollowedForQuestion graph queried question specifier specifier_text
  listed_specifiers_are_followed query_module specifier specifier_text has = omega (arith, has.1)
  listed_specifiers_are_followed query_exports specifier specifier_text has = has
  listed_specifiers_are_followed query_names specifier specifier_text has = has
  listed_specifiers_are_followed (query_symbol name) specifier specifier_text has = omega (arith, has.1)
  listed_specifiers_are_followed (query_name s) specifier specifier_text has = omega (arith, has.1)
  listed_specifiers_are_followed (query_deps s mode) specifier specifier_text has = omega (arith, has.1)
  listed_specifiers_are_followed (query_paths s) specifier specifier_text has = search_follows (query_paths s) specifier specifier_text has
  listed_specifiers_are_followed (query_definitions s) specifier specifier_text has = search_follows (query_definitions s) specifier specifier_text has
  listed_specifiers_are_followed (query_leaves s) specifier specifier_text has = search_follows (query_leaves s) specifier specifier_text has
  listed_specifiers_are_followed (query_resolve reference) specifier specifier_text has = search_follows (query_resolve reference) specifier specifier_text has

  import_type_is : (reference : SymbolReference) (specifier specifier_text : List ℕ) → resolved_module_specifier graph queried ≡ Some specifier
      → import_type_specifier reference ≡ Some specifier_text → IsFollowedBySearch graph queried (query_resolve reference) specifier specifier_text
  import_type_is (id name) specifier specifier_text resolved is = absurd (none-some specifier_text is)
  import_type_is (qualified_id name parts) specifier specifier_text resolved is = absurd (none-some specifier_text is)
  import_type_is (import_type text parts) specifier specifier_text resolved is =
      import_type_specifier_is_followed parts resolved (ap (λ t. query_resolve (import_type t parts)) (same_Some text specifier_text is))

  -- and that of the import type
  pub import_type_of_question_is_followed : (question : QuestionView) (specifier specifier_text : List ℕ) → IsImportTypeSpecifierOfQueried question specifier
      specifier_text
      → IsSpecifierFollowedForQuestion graph queried question specifier specifier_text
  import_type_of_question_is_followed query_module specifier specifier_text is = absurd (none-some specifier_text is.1)
  import_type_of_question_is_followed query_exports specifier specifier_text is = absurd (none-some specifier_text is.1)
  import_type_of_question_is_followed query_names specifier specifier_text is = absurd (none-some specifier_text is.1)
  import_type_of_question_is_followed (query_symbol name) specifier specifier_text is = absurd (none-some specifier_text is.1)
  import_type_of_question_is_followed (query_name s) specifier specifier_text is = absurd (none-some specifier_text is.1)
  import_type_of_question_is_followed (query_deps s mode) specifier specifier_text is = absurd (none-some specifier_text is.1)
  import_type_of_question_is_followed (query_paths s) specifier specifier_text is = absurd (none-some specifier_text is.1)
  import_type_of_question_is_followed (query_definitions s) specifier specifier_text is = absurd (none-some specifier_text is.1)
  import_type_of_question_is_followed (query_leaves s) specifier specifier_text is = absurd (none-some specifier_text is.1)
  import_type_of_question_is_followed (query_resolve reference) specifier specifier_text is = import_type_is reference specifier specifier_text is.0 is.1

  -- and no others are
  pub followed_specifiers_are_listed : (question : QuestionView) (specifier specifier_text : List ℕ)
      → IsSpecifierFollowedForQuestion graph queried question specifier specifier_text
      → Contains (followed_specifiers graph question specifier) specifier_text ⊎ IsImportTypeSpecifierOfQueried question specifier specifier_text
  followed_specifiers_are_listed query_module specifier specifier_text follows = absurd follows
  followed_specifiers_are_listed query_exports specifier specifier_text follows = inl follows
  followed_specifiers_are_listed query_names specifier specifier_text follows = inl follows
  followed_specifiers_are_listed (query_symbol name) specifier specifier_text follows = absurd follows
  followed_specifiers_are_listed (query_name s) specifier specifier_text follows = absurd follows
  followed_specifiers_are_listed (query_deps s mode) specifier specifier_text follows = absurd follows
  followed_specifiers_are_listed (query_paths s) specifier specifier_text follows = followed_by_search (query_paths s) specifier specifier_text follows
  followed_specifiers_are_listed (query_definitions s) specifier specifier_text follows = followed_by_search (query_definitions s) specifier specifier_text
      follows
  followed_specifiers_are_listed (query_leaves s) specifier specifier_text follows = followed_by_search (query_leaves s) specifier specifier_text follows
  followed_specifiers_are_listed (query_resolve reference) specifier specifier_text follows =
      followed_by_search (query_resolve reference) specifier specifier_text follows
