-- A value with other parts than lists, strings and whole numbers is no query.
use Rattle.std.proofs.Common.{◌≡◌, ℕ, List, [], ◌∷◌, Bool, true, false, ◌&&◌, Option, None, Some, is_some, option_and_then, option_map, refl, ap, ◌⊎◌, inl, inr}
use Rattle.std.specs.Prelude.{IfSome, if◌then◌else◌, find, codes}
use Rattle.std.specs.Option.{option_map_or}
use Rattle.std.specs.Str.{bytes_eq}
use Rattle.serde_json.specs.Data.{Data, null, boolean, number, string, array, object, Items, no_items, item}
use Rattle.serde_json.specs.Find.{as_u64, as_str}
use Rattle.symq_reader.specs.Lists.{has_no_object_and_whole_numbers, items_have_no_object_and_whole_numbers}
use Rattle.symq_reader.specs.UnderKeys.{read_each_item, as_u32, some_if_u32}
use Rattle.symq_core.specs.ReferenceForms.{read_id, read_string_list, read_id_reference, read_qualified_reference, read_import_reference, reference_readers}
use Rattle.symq_core.specs.ReferenceForms.{reference_by_keyword, reference_of_json}
use Rattle.symbols_answers.specs.Questions.{QueryView, inputs_query}
use Rattle.symq_core.specs.Queries.{read_module_question, read_exports_question, read_public_names_question, read_symbol_of_ident_question}
use Rattle.symq_core.specs.Queries.{read_single_symbol_id, read_deps_question, read_resolve_question, question_readers, question_by_keyword, query_of_json}
use Rattle.symq_core.specs.Queries.{query_by_keyword, keyword_specifier_and_items, inputs_query_of_data}

-- a string consists of lists, strings and whole numbers, so a value that doesn't is no string
text_has : (d : Data) → has_no_object_and_whole_numbers d ≡ false → as_str d ≡ None
text_has null e = refl
text_has (boolean b) e = refl
text_has (number n) e = refl
text_has (string s) e = absurd (cc)
text_has (array ds) e = refl
text_has (object ms) e = refl

wide_none : (o : Option ℕ) → is_some o ≡ false → option_and_then some_if_u32 o ≡ None
wide_none None e = refl
wide_none (Some n) e = absurd (cc)

number_has : (d : Data) → has_no_object_and_whole_numbers d ≡ false → as_u32 d ≡ None
number_has null e = refl
number_has (boolean b) e = refl
number_has (number n) e = wide_none (as_u64 n) e
number_has (string s) e = refl
number_has (array ds) e = refl
number_has (object ms) e = refl

either : (a b : Bool) → (a && b) ≡ false → (a ≡ false) ⊎ (b ≡ false)
either true b e = inr e
either false b e = inl refl

last : (a : Bool) → (a && true) ≡ false → a ≡ false
last true e = e
last false e = refl

pub and_none : {A B : Type 0} (o : Option A) (f : A → Option B) → ((x : A) → f x ≡ None) → option_and_then f o ≡ None
and_none None f none = refl
and_none (Some x) f none = none x

two_of : (a b : Bool) → (a && (b && true)) ≡ false → (a && b) ≡ false
two_of true b e = last b e
two_of false b e = refl

last_of : (d e : Data) → items_have_no_object_and_whole_numbers (item d (item e no_items)) ≡ false →
    (has_no_object_and_whole_numbers d && has_no_object_and_whole_numbers e) ≡ false
last_of d e h = two_of (has_no_object_and_whole_numbers d) (has_no_object_and_whole_numbers e) h

-- ---- each form

module_has : (ds : Items) → items_have_no_object_and_whole_numbers ds ≡ false → read_module_question ds ≡ None
module_has no_items e = absurd (cc)
module_has (item d ds) e = refl

exports_has : (ds : Items) → items_have_no_object_and_whole_numbers ds ≡ false → read_exports_question ds ≡ None
exports_has no_items e = absurd (cc)
exports_has (item d ds) e = refl

names_has : (ds : Items) → items_have_no_object_and_whole_numbers ds ≡ false → read_public_names_question ds ≡ None
names_has no_items e = absurd (cc)
names_has (item d ds) e = refl

id_has : (name scope : Data) → (has_no_object_and_whole_numbers name ≡ false) ⊎ (has_no_object_and_whole_numbers scope ≡ false) → read_id name scope ≡ None
id_has name scope (inl e) = rw (text_has name e) refl
id_has name scope (inr e) = and_none (as_str name) _ (λ n. rw (number_has scope e) refl)

symbol_has : (ds : Items) → items_have_no_object_and_whole_numbers ds ≡ false → read_symbol_of_ident_question ds ≡ None
symbol_has no_items e = refl
symbol_has (item name no_items) e = refl
symbol_has (item name (item scope no_items)) e = rw (id_has name scope (either (has_no_object_and_whole_numbers name) (has_no_object_and_whole_numbers scope)
    (last_of name scope e))) refl
symbol_has (item name (item scope (item d ds))) e = refl

one_has : (ds : Items) → items_have_no_object_and_whole_numbers ds ≡ false → read_single_symbol_id ds ≡ None
one_has no_items e = refl
one_has (item symbol no_items) e = rw (number_has symbol (last (has_no_object_and_whole_numbers symbol) e)) refl
one_has (item symbol (item d ds)) e = refl

deps_parts : (symbol mode : Data) → (has_no_object_and_whole_numbers symbol ≡ false) ⊎ (has_no_object_and_whole_numbers mode ≡ false) → read_deps_question
    (item symbol (item mode no_items)) ≡ None
deps_parts symbol mode (inl e) = rw (number_has symbol e) refl
deps_parts symbol mode (inr e) = and_none (as_u32 symbol) _ (λ n. rw (text_has mode e) refl)

deps_has : (ds : Items) → items_have_no_object_and_whole_numbers ds ≡ false → read_deps_question ds ≡ None
deps_has no_items e = refl
deps_has (item symbol no_items) e = refl
deps_has (item symbol (item mode no_items)) e = deps_parts symbol mode (either (has_no_object_and_whole_numbers symbol) (has_no_object_and_whole_numbers mode)
    (last_of symbol mode e))
deps_has (item symbol (item mode (item d ds))) e = refl

-- ---- look-up by keyword

-- the form of the keyword, if there is one, has nothing for these items
abbrev FoundNone : {A : Type 0} → List ℕ → List (List ℕ × (Items → Option A)) → Items → Type 0
FoundNone keyword [] ds = Unit {0}
FoundNone keyword (f ∷ fs) ds = (bytes_eq keyword f.0 ≡ true → f.1 ds ≡ None) × FoundNone keyword fs ds

found_at : {A : Type 0} (b : Bool) (f : List ℕ × (Items → Option A)) (rest : Option (List ℕ × (Items → Option A))) (ds : Items)
    → (b ≡ true → f.1 ds ≡ None)
    → option_and_then (λ form. form.1 ds) rest ≡ None
    → option_and_then (λ form. form.1 ds) (if b then Some f else rest) ≡ None
found_at true f rest ds none other_items = none refl
found_at false f rest ds none other_items = other_items

pub found_none : {A : Type 0} (keyword : List ℕ) (fs : List (List ℕ × (Items → Option A))) (ds : Items) → FoundNone keyword fs ds
    → option_and_then (λ form. form.1 ds) (find (λ form. bytes_eq keyword form.0) fs) ≡ None
found_none keyword [] ds none = refl
found_none keyword (f ∷ fs) ds none = found_at (bytes_eq keyword f.0) f (find (λ form. bytes_eq keyword form.0) fs) ds none.0 (found_none keyword fs ds none.1)

-- ---- a reference

text_and_rest : (d : Data) (ds : Items) → (items_have_no_object_and_whole_numbers ds ≡ false → read_each_item as_str ds ≡ None)
    → (has_no_object_and_whole_numbers d ≡ false) ⊎ (items_have_no_object_and_whole_numbers ds ≡ false) → read_each_item as_str (item d ds) ≡ None
text_and_rest d ds rest (inl e) = rw (text_has d e) refl
text_and_rest d ds rest (inr e) = and_none (as_str d) _ (λ t. rw (rest e) refl)

texts_has : (ds : Items) → items_have_no_object_and_whole_numbers ds ≡ false → read_each_item as_str ds ≡ None
texts_has no_items e = absurd (cc)
texts_has (item d ds) e = text_and_rest d ds (λ h. texts_has ds h) (either (has_no_object_and_whole_numbers d) (items_have_no_object_and_whole_numbers ds) e)

parts_has : (d : Data) → has_no_object_and_whole_numbers d ≡ false → read_string_list d ≡ None
parts_has null e = refl
parts_has (boolean b) e = refl
parts_has (number n) e = refl
parts_has (string s) e = refl
parts_has (array ds) e = texts_has ds e
parts_has (object ms) e = refl

id_form_has : (ds : Items) → items_have_no_object_and_whole_numbers ds ≡ false → read_id_reference ds ≡ None
id_form_has no_items e = refl
id_form_has (item name no_items) e = refl
id_form_has (item name (item scope no_items)) e = rw (id_has name scope (either (has_no_object_and_whole_numbers name) (has_no_object_and_whole_numbers scope)
    (last_of name scope e))) refl
id_form_has (item name (item scope (item d ds))) e = refl

scoped_parts : (name scope parts : Data) → (has_no_object_and_whole_numbers scope ≡ false) ⊎ (has_no_object_and_whole_numbers parts ≡ false)
    → read_qualified_reference (item name (item scope (item parts no_items))) ≡ None
scoped_parts name scope parts (inl e) = rw (id_has name scope (inr e)) refl
scoped_parts name scope parts (inr e) = and_none (read_id name scope) _ (λ it. rw (parts_has parts e) refl)

named_parts : (name scope parts : Data) → (has_no_object_and_whole_numbers name ≡ false) ⊎
    ((has_no_object_and_whole_numbers scope && has_no_object_and_whole_numbers parts) ≡ false)
    → read_qualified_reference (item name (item scope (item parts no_items))) ≡ None
named_parts name scope parts (inl e) = rw (id_has name scope (inl e)) refl
named_parts name scope parts (inr e) = scoped_parts name scope parts (either (has_no_object_and_whole_numbers scope) (has_no_object_and_whole_numbers parts) e)

three_of : (a b c : Bool) → (a && (b && (c && true))) ≡ false → (a && (b && c)) ≡ false
three_of true b c e = two_of b c e
three_of false b c e = refl

qualified_form_has : (ds : Items) → items_have_no_object_and_whole_numbers ds ≡ false → read_qualified_reference ds ≡ None
qualified_form_has no_items e = refl
qualified_form_has (item name no_items) e = refl
qualified_form_has (item name (item scope no_items)) e = refl
qualified_form_has (item name (item scope (item parts no_items))) e =
    named_parts name scope parts (either (has_no_object_and_whole_numbers name) (has_no_object_and_whole_numbers scope && has_no_object_and_whole_numbers parts)
    (three_of (has_no_object_and_whole_numbers name) (has_no_object_and_whole_numbers scope) (has_no_object_and_whole_numbers parts) e))
qualified_form_has (item name (item scope (item parts (item d ds)))) e = refl

text_parts : (text parts : Data) → (has_no_object_and_whole_numbers text ≡ false) ⊎ (has_no_object_and_whole_numbers parts ≡ false) → read_import_reference
    (item text (item parts no_items)) ≡ None
text_parts text parts (inl e) = rw (text_has text e) refl
text_parts text parts (inr e) = and_none (as_str text) _ (λ t. rw (parts_has parts e) refl)

import_form_has : (ds : Items) → items_have_no_object_and_whole_numbers ds ≡ false → read_import_reference ds ≡ None
import_form_has no_items e = refl
import_form_has (item text no_items) e = refl
import_form_has (item text (item parts no_items)) e = text_parts text parts (either (has_no_object_and_whole_numbers text)
    (has_no_object_and_whole_numbers parts) (last_of text parts e))
import_form_has (item text (item parts (item d ds))) e = refl

reference_none : (keyword : List ℕ) (ds : Items) → items_have_no_object_and_whole_numbers ds ≡ false → reference_by_keyword keyword ds ≡ None
reference_none keyword ds e = found_none keyword reference_readers ds
    (λ _. id_form_has ds e, (λ _. qualified_form_has ds e, (λ _. import_form_has ds e, tt)))

after_keyword : (o : Option (List ℕ)) (rest : Items) → (o ≡ None) ⊎ ((w : List ℕ) → reference_by_keyword w rest ≡ None)
    → option_and_then (λ (parts : List ℕ × Items). reference_by_keyword parts.0 parts.1) (option_map (λ w. (w, rest)) o) ≡ None
after_keyword None rest h = refl
after_keyword (Some w) rest (inl e) = absurd (cc)
after_keyword (Some w) rest (inr none) = none w

keyword_cases : (keyword : Data) (rest : Items) → (has_no_object_and_whole_numbers keyword ≡ false) ⊎ (items_have_no_object_and_whole_numbers rest ≡ false)
    → (as_str keyword ≡ None) ⊎ ((w : List ℕ) → reference_by_keyword w rest ≡ None)
keyword_cases keyword rest (inl e) = inl (text_has keyword e)
keyword_cases keyword rest (inr e) = inr (λ w. reference_none w rest e)

reference_has : (d : Data) → has_no_object_and_whole_numbers d ≡ false → reference_of_json d ≡ None
reference_has null e = refl
reference_has (boolean b) e = refl
reference_has (number n) e = refl
reference_has (string s) e = refl
reference_has (object ms) e = refl
reference_has (array no_items) e = refl
reference_has (array (item keyword rest)) e =
    after_keyword (as_str keyword) rest
    (keyword_cases keyword rest (either (has_no_object_and_whole_numbers keyword) (items_have_no_object_and_whole_numbers rest) e))

resolve_has : (ds : Items) → items_have_no_object_and_whole_numbers ds ≡ false → read_resolve_question ds ≡ None
resolve_has no_items e = refl
resolve_has (item reference no_items) e = rw (reference_has reference (last (has_no_object_and_whole_numbers reference) e)) refl
resolve_has (item reference (item d ds)) e = refl

-- ---- the forms by their keywords

named_none : (keyword : List ℕ) (ds : Items) → items_have_no_object_and_whole_numbers ds ≡ false → question_by_keyword keyword ds ≡ None
named_none keyword ds e =
    let one = one_has ds e in
    found_none keyword question_readers ds (
      λ _. module_has ds e,
      (
        λ _. exports_has ds e,
        (
          λ _. names_has ds e,
          (
            λ _. symbol_has ds e,
            (
              λ _. rw one refl,
              (λ _. deps_has ds e, (λ _. rw one refl, (λ _. rw one refl, (λ _. rw one refl, (λ _. resolve_has ds e, tt))))),
            ),
          ),
        ),
      ),
    )

-- ---- a query

parts_none : (keyword specifier : Option (List ℕ)) (rest : Items) → (keyword ≡ None) ⊎ (specifier ≡ None) ⊎ ((w : List ℕ) → question_by_keyword w rest ≡ None)
    → option_and_then query_by_keyword (option_and_then (λ w. option_map (λ s. (w, s, rest)) specifier) keyword) ≡ None
parts_none None specifier rest h = refl
parts_none (Some w) None rest h = refl
parts_none (Some w) (Some s) rest (inl e) = absurd (cc)
parts_none (Some w) (Some s) rest (inr (inl e)) = absurd (cc)
parts_none (Some w) (Some s) rest (inr (inr none)) = rw (none w) refl

later : (specifier : Data) (rest : Items) → (has_no_object_and_whole_numbers specifier ≡ false) ⊎ (items_have_no_object_and_whole_numbers rest ≡ false)
    → (as_str specifier ≡ None) ⊎ ((w : List ℕ) → question_by_keyword w rest ≡ None)
later specifier rest (inl e) = inl (text_has specifier e)
later specifier rest (inr e) = inr (λ w. named_none w rest e)

cases : (keyword specifier : Data) (rest : Items) → (has_no_object_and_whole_numbers keyword ≡ false) ⊎
    ((has_no_object_and_whole_numbers specifier && items_have_no_object_and_whole_numbers rest) ≡ false)
    → (as_str keyword ≡ None) ⊎ (as_str specifier ≡ None) ⊎ ((w : List ℕ) → question_by_keyword w rest ≡ None)
cases keyword specifier rest (inl e) = inl (text_has keyword e)
cases keyword specifier rest (inr e) = inr
    (later specifier rest (either (has_no_object_and_whole_numbers specifier) (items_have_no_object_and_whole_numbers rest) e))

keyword_none : (d : Data) → has_no_object_and_whole_numbers d ≡ false → option_and_then query_by_keyword (keyword_specifier_and_items d) ≡ None
keyword_none null e = refl
keyword_none (boolean b) e = refl
keyword_none (number n) e = refl
keyword_none (string s) e = refl
keyword_none (object ms) e = refl
keyword_none (array no_items) e = refl
keyword_none (array (item keyword no_items)) e = refl
keyword_none (array (item keyword (item specifier rest))) e = parts_none (as_str keyword) (as_str specifier) rest
    (cases keyword specifier rest (either (has_no_object_and_whole_numbers keyword) (has_no_object_and_whole_numbers specifier
    && items_have_no_object_and_whole_numbers rest) e))

-- ---- the inputs of a query

queried_none : (keyword queried : Data) → has_no_object_and_whole_numbers queried ≡ false → inputs_query_of_data (array (item keyword (item queried no_items)))
    ≡ None
queried_none keyword queried e = by (as_str keyword)
  where
    if_inputs : (b : Bool) → option_map inputs_query (option_and_then query_by_keyword (option_and_then keyword_specifier_and_items
        (if b then Some queried else None))) ≡ None
    if_inputs true = ap (option_map inputs_query) (keyword_none queried e)
    if_inputs false = refl

    by : (found : Option (List ℕ)) → option_map inputs_query (option_and_then query_by_keyword (option_and_then keyword_specifier_and_items
        (option_and_then (λ w. if bytes_eq w (codes "inputs") then Some queried else None) found))) ≡ None
    by None = refl
    by (Some w) = if_inputs (bytes_eq w (codes "inputs"))

inputs_parts : (keyword queried : Data) → (has_no_object_and_whole_numbers keyword ≡ false) ⊎ (has_no_object_and_whole_numbers queried ≡ false)
    → inputs_query_of_data (array (item keyword (item queried no_items))) ≡ None
inputs_parts keyword queried (inl e) = rw (text_has keyword e) refl
inputs_parts keyword queried (inr e) = queried_none keyword queried e

inputs_none : (d : Data) → has_no_object_and_whole_numbers d ≡ false → inputs_query_of_data d ≡ None
inputs_none null e = refl
inputs_none (boolean b) e = refl
inputs_none (number n) e = refl
inputs_none (string s) e = refl
inputs_none (object ms) e = refl
inputs_none (array no_items) e = refl
inputs_none (array (item keyword no_items)) e = refl
inputs_none (array (item keyword (item queried no_items))) e =
    inputs_parts keyword queried (either (has_no_object_and_whole_numbers keyword) (has_no_object_and_whole_numbers queried) (last_of keyword queried e))
inputs_none (array (item keyword (item queried (item d ds)))) e = refl

-- ---- both

either_none : (found : Option (List ℕ × List ℕ × Items)) (inputs : Option QueryView) → option_and_then query_by_keyword found ≡ None → inputs ≡ None
    → option_map_or query_by_keyword found inputs ≡ None
either_none None inputs e none = none
either_none (Some parts) inputs e none = e

query_lists : (d : Data) → has_no_object_and_whole_numbers d ≡ false → query_of_json d ≡ None
query_lists d e = either_none (keyword_specifier_and_items d) (inputs_query_of_data d) (keyword_none d e) (inputs_none d e)

pub no_query : (o : Option Data) → IfSome o (λ d. has_no_object_and_whole_numbers d ≡ false) → option_and_then query_of_json o ≡ None
no_query None e = refl
no_query (Some d) e = query_lists d e
