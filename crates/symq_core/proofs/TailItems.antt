-- A keyword other than `resolve` has queries with items of the fast path alone.
use Rattle.std.proofs.Common.{◌≡◌, ◌^◌, ℕ, List, Bool, true, false, Option, None, Some, option_and_then, option_map, refl, ap, ap₂, rules}
use Rattle.std.specs.Prelude.{if◌then◌else◌, codes, nat_lt}
use Rattle.std.specs.Option.{option_map_or}
use Rattle.std.specs.Str.{bytes_eq}
use Rattle.serde_json.specs.Data.{unsigned, negative, float, Data, null, boolean, number, string, array, object, Items, no_items, item}
use Rattle.serde_json.specs.Find.{as_str}
use Rattle.symbols_queries.specs.Queries.{query_with_question}
use Rattle.symq_reader.specs.UnderKeys.{as_u32}
use Rattle.symq_core.specs.ReferenceForms.{read_id}
use Rattle.symq_core.specs.Queries.{read_symbol_of_ident_question, read_single_symbol_id, read_deps_question}
use Rattle.symq_core.specs.Queries.{question_readers, question_by_keyword, query_by_keyword}
use Rattle.symq_core.specs.inner.TailItems.{tail_items}
use Rattle.symq_core.proofs.Listed.{and_none, found_none}

-- ---- a value that is read as a number or as a string

read_number : (b : Bool) (m n : ℕ) → (if b then Some m else None) ≡ Some n → m ≡ n
read_number true m n e = cc
read_number false m n e = absurd (cc)

number_is : (d : Data) (n : ℕ) → as_u32 d ≡ Some n → d ≡ number (unsigned n)
number_is null n e = absurd (cc)
number_is (boolean b) n e = absurd (cc)
number_is (number (unsigned m)) n e = ap (λ k. number (unsigned k)) (read_number (nat_lt m (2 ^ 32)) m n e)
number_is (number (negative z)) n e = absurd (cc)
number_is (number (float x)) n e = absurd (cc)
number_is (string s) n e = absurd (cc)
number_is (array ds) n e = absurd (cc)
number_is (object ms) n e = absurd (cc)

text_is : (d : Data) (text : List ℕ) → as_str d ≡ Some text → d ≡ string text
text_is null text e = absurd (cc)
text_is (boolean b) text e = absurd (cc)
text_is (number n) text e = absurd (cc)
text_is (string s) text e = cc
text_is (array ds) text e = absurd (cc)
text_is (object ms) text e = absurd (cc)

-- ---- other items

one_none : (keyword : List ℕ) (d : Data) → as_u32 d ≡ None → bytes_eq keyword (codes "resolve") ≡ false → question_by_keyword keyword (item d no_items) ≡ None
one_none keyword d none other =
    let one : read_single_symbol_id (item d no_items) ≡ None = rw none refl in
    found_none keyword question_readers (item d no_items) (search rules)

two_none : (keyword : List ℕ) (d e : Data) → read_deps_question (item d (item e no_items)) ≡ None → read_id d e ≡ None
    → question_by_keyword keyword (item d (item e no_items)) ≡ None
two_none keyword d e no_mode no_id =
    let no_name : read_symbol_of_ident_question (item d (item e no_items)) ≡ None = rw no_id refl in
    found_none keyword question_readers (item d (item e no_items)) (search rules)

more_none : (keyword : List ℕ) (d e f : Data) (ds : Items) → question_by_keyword keyword (item d (item e (item f ds))) ≡ None
more_none keyword d e f ds = found_none keyword question_readers (item d (item e (item f ds))) (search rules)

-- ---- the same question

one_same : (keyword : List ℕ) (d : Data) (n : Option ℕ) → as_u32 d ≡ n → bytes_eq keyword (codes "resolve") ≡ false
    → question_by_keyword keyword (item d no_items)
    ≡ option_and_then (question_by_keyword keyword) (option_map (λ m. item (number (unsigned m)) no_items) n)
one_same keyword d None of_d other = one_none keyword d of_d other
one_same keyword d (Some n) of_d other = ap (λ x. question_by_keyword keyword (item x no_items)) (number_is d n of_d)

two_same : (keyword : List ℕ) (d e : Data) (n m : Option ℕ) (s t : Option (List ℕ)) → as_u32 d ≡ n → as_u32 e ≡ m → as_str d ≡ s → as_str e ≡ t
    → question_by_keyword keyword (item d (item e no_items)) ≡ option_and_then (question_by_keyword keyword)
    (option_map_or (λ k. option_map (λ x. item (number (unsigned k)) (item (string x) no_items)) t) n
    (option_and_then (λ x. option_map (λ k. item (string x) (item (number (unsigned k)) no_items)) m) s))
two_same keyword d e (Some k) m s (Some x) number_d number_e text_d text_e =
    ap₂ (λ a b. question_by_keyword keyword (item a (item b no_items))) (number_is d k number_d) (text_is e x text_e)
two_same keyword d e (Some k) m s None number_d number_e text_d text_e =
    two_none keyword d e (and_none (as_u32 d) _ (λ j. rw text_e refl)) (rw (number_is d k number_d) refl)
two_same keyword d e None (Some k) (Some x) t number_d number_e text_d text_e =
    ap₂ (λ a b. question_by_keyword keyword (item a (item b no_items))) (text_is d x text_d) (number_is e k number_e)
two_same keyword d e None None (Some x) t number_d number_e text_d text_e =
    two_none keyword d e (rw number_d refl) (and_none (as_str d) _ (λ y. rw number_e refl))
two_same keyword d e None m None t number_d number_e text_d text_e = two_none keyword d e (rw number_d refl) (rw text_d refl)

same_question : (keyword : List ℕ) (items : Items) → bytes_eq keyword (codes "resolve") ≡ false
    → question_by_keyword keyword items ≡ option_and_then (question_by_keyword keyword) (tail_items items)
same_question keyword no_items other = refl
same_question keyword (item d no_items) other = one_same keyword d (as_u32 d) refl other
same_question keyword (item d (item e no_items)) other = two_same keyword d e (as_u32 d) (as_u32 e) (as_str d) (as_str e) refl refl refl refl
same_question keyword (item d (item e (item f ds))) other = more_none keyword d e f ds

pub query_of_tail_items : (keyword specifier : List ℕ) (items : Items) → bytes_eq keyword (codes "resolve") ≡ false
    → query_by_keyword (keyword, specifier, items) ≡ option_map (query_with_question specifier)
    (option_and_then (question_by_keyword keyword) (tail_items items))
query_of_tail_items keyword specifier items other = ap (option_map (query_with_question specifier)) (same_question keyword items other)
