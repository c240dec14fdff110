-- What `serde_json` reads of a value, compared with the data of the value.
use Rattle.std.proofs.Common.{◌≡◌, ◌&&◌, ℕ, List, Bool, true, false, Option, Some, None, is_some, option_map}
use Rattle.std.proofs.Common.{option_and_then, refl, ap, ◌∙◌, Ordering, Less, Equal, Greater, nat_cmp}
use Rattle.json.specs.Json as json
use Rattle.serde_json.specs.Data.{Num, Data, number, array, object, Items, item, Members, no_members, member, put}
use Rattle.serde_json.specs.Read.{number_of, of_json, of_items, of_members}
use Rattle.serde_json.specs.Find.{as_u64}
use Rattle.std.specs.Ordering.{match_ordering}
use Rattle.std.specs.Cmp.Lexicographic.{slice_cmp}
use Rattle.symq_reader.specs.Lists.{has_no_object_and_whole_numbers, items_have_no_object_and_whole_numbers}
use Rattle.symq_reader.specs.Numbers.{has_whole_numbers, items_have_whole_numbers, members_have_whole_numbers}
use Rattle.symq_reader.specs.JsonData.{number_or_minus_one, json_data, json_items_data, json_members_data}
use Rattle.symq_reader.specs.inner.JsonData.{json_has_whole_numbers, json_items_have_whole_numbers, json_members_have_whole_numbers}

both : (a b : Bool) → (a && b) ≡ true → (a ≡ true) × (b ≡ true)
both true b e = (refl, e)
both false b e = absurd (cc)

-- ---- a value whose numbers are all whole has data, and these are whole

some_whole : (o : Option Num) → is_some (as_u64 (number_or_minus_one o)) ≡ true → option_map number o ≡ Some (number (number_or_minus_one o))
some_whole None e = absurd (cc)
some_whole (Some n) e = refl

mutual
  pub of_json-fits : (j : json.Json) → json_has_whole_numbers j ≡ true → of_json j ≡ Some (json_data j)
  of_json-fits json.null e = refl
  of_json-fits (json.boolean b) e = refl
  of_json-fits (json.number s) e = some_whole (number_of s) e
  of_json-fits (json.string s) e = refl
  of_json-fits (json.array js) e = ap (option_map array) (of_items-fit js e)
  of_json-fits (json.object ms) e = ap (option_map object) (of_members-fit ms no_members e)

  of_items-fit : (js : json.Items) → json_items_have_whole_numbers js ≡ true → of_items js ≡ Some (json_items_data js)
  of_items-fit json.no_items e = refl
  of_items-fit (json.item j js) e =
      let h = both (json_has_whole_numbers j) (json_items_have_whole_numbers js) e in
      ap (option_and_then (λ d. option_map (item d) (of_items js))) (of_json-fits j h.0) ∙ ap (option_map (item (json_data j))) (of_items-fit js h.1)

  of_members-fit : (ms : json.Members) (found : Members) → json_members_have_whole_numbers ms ≡ true → of_members ms found ≡ Some (json_members_data ms found)
  of_members-fit json.no_members found e = refl
  of_members-fit (json.member k j ms) found e =
      let h = both (json_has_whole_numbers j) (json_members_have_whole_numbers ms) e in
      ap (option_and_then (λ d. of_members ms (put k d found))) (of_json-fits j h.0) ∙ of_members-fit ms (put k (json_data j) found) h.1

both_of : (a b : Bool) → a ≡ true → b ≡ true → (a && b) ≡ true
both_of a b e f = rw e f

put_at-whole : (o : Ordering) (k l : List ℕ) (d e : Data) (ms : Members) → has_whole_numbers d ≡ true → members_have_whole_numbers (member l e ms) ≡ true
    → members_have_whole_numbers (put k d ms) ≡ true
    → members_have_whole_numbers (match_ordering o (member k d (member l e ms)) (member l d ms) (member l e (put k d ms))) ≡ true
put_at-whole Less k l d e ms h old new = both_of (has_whole_numbers d) (members_have_whole_numbers (member l e ms)) h old
put_at-whole Equal k l d e ms h old new =
    both_of (has_whole_numbers d) (members_have_whole_numbers ms) h (both (has_whole_numbers e) (members_have_whole_numbers ms) old).1
put_at-whole Greater k l d e ms h old new =
    both_of (has_whole_numbers e) (members_have_whole_numbers (put k d ms)) (both (has_whole_numbers e) (members_have_whole_numbers ms) old).0 new

put-whole : (k : List ℕ) (d : Data) (ms : Members) → has_whole_numbers d ≡ true → members_have_whole_numbers ms ≡ true
    → members_have_whole_numbers (put k d ms) ≡ true
put-whole k d no_members h old = both_of (has_whole_numbers d) true h refl
put-whole k d (member l e ms) h old =
    put_at-whole (slice_cmp nat_cmp k l) k l d e ms h old (put-whole k d ms h (both (has_whole_numbers e) (members_have_whole_numbers ms) old).1)

mutual
  pub has_whole_numbers-fits : (j : json.Json) → json_has_whole_numbers j ≡ true → has_whole_numbers (json_data j) ≡ true
  has_whole_numbers-fits json.null e = refl
  has_whole_numbers-fits (json.boolean b) e = refl
  has_whole_numbers-fits (json.number s) e = e
  has_whole_numbers-fits (json.string s) e = refl
  has_whole_numbers-fits (json.array js) e = items_whole-fits js e
  has_whole_numbers-fits (json.object ms) e = members_whole-fits ms no_members e refl

  items_whole-fits : (js : json.Items) → json_items_have_whole_numbers js ≡ true → items_have_whole_numbers (json_items_data js) ≡ true
  items_whole-fits json.no_items e = refl
  items_whole-fits (json.item j js) e =
      let h = both (json_has_whole_numbers j) (json_items_have_whole_numbers js) e in
      both_of (has_whole_numbers (json_data j)) (items_have_whole_numbers (json_items_data js)) (has_whole_numbers-fits j h.0) (items_whole-fits js h.1)

  members_whole-fits : (ms : json.Members) (found : Members) → json_members_have_whole_numbers ms ≡ true → members_have_whole_numbers found ≡ true
      → members_have_whole_numbers (json_members_data ms found) ≡ true
  members_whole-fits json.no_members found e old = old
  members_whole-fits (json.member k j ms) found e old =
      let h = both (json_has_whole_numbers j) (json_members_have_whole_numbers ms) e in
      members_whole-fits ms (put k (json_data j) found) h.1 (put-whole k (json_data j) found (has_whole_numbers-fits j h.0) old)

-- ---- a value that has data has these data

number-unescaped : (o : Option Num) (d : Data) → option_map number o ≡ Some d → number (number_or_minus_one o) ≡ d
number-unescaped None d e = absurd (cc)
number-unescaped (Some n) d e = cc

under_array : (o : Option Items) (ds : Items) (d : Data) → ((es : Items) → o ≡ Some es → ds ≡ es) → option_map array o ≡ Some d → array ds ≡ d
under_array None ds d same e = absurd (cc)
under_array (Some es) ds d same e = let is : array es ≡ d = cc in ap array (same es refl) ∙ is

under_object : (o : Option Members) (ms : Members) (d : Data) → ((ns : Members) → o ≡ Some ns → ms ≡ ns) → option_map object o ≡ Some d → object ms ≡ d
under_object None ms d same e = absurd (cc)
under_object (Some ns) ms d same e = let is : object ns ≡ d = cc in ap object (same ns refl) ∙ is

under_item : (o : Option Data) (r : Option Items) (p : Data) (ps es : Items) → ((d : Data) → o ≡ Some d → p ≡ d) → ((ds : Items) → r ≡ Some ds → ps ≡ ds)
    → option_and_then (λ d. option_map (item d) r) o ≡ Some es → item p ps ≡ es
under_item None r p ps es first rest e = absurd (cc)
under_item (Some d) None p ps es first rest e = absurd (cc)
under_item (Some d) (Some ds) p ps es first rest e =
    let is : item d ds ≡ es = cc in ap (λ x. item x ps) (first d refl) ∙ ap (item d) (rest ds refl) ∙ is

under_member : (o : Option Data) (ms : json.Members) (k : List ℕ) (p : Data) (found ns : Members) → ((d : Data) → o ≡ Some d → p ≡ d)
    → ((new : Members) → of_members ms new ≡ Some ns → json_members_data ms new ≡ ns)
    → option_and_then (λ d. of_members ms (put k d found)) o ≡ Some ns → json_members_data ms (put k p found) ≡ ns
under_member None ms k p found ns first rest e = absurd (cc)
under_member (Some d) ms k p found ns first rest e = ap (λ x. json_members_data ms (put k x found)) (first d refl) ∙ rest (put k d found) e

mutual
  pub unescaped-of_json : (j : json.Json) (d : Data) → of_json j ≡ Some d → json_data j ≡ d
  unescaped-of_json json.null d e = cc
  unescaped-of_json (json.boolean b) d e = cc
  unescaped-of_json (json.number s) d e = number-unescaped (number_of s) d e
  unescaped-of_json (json.string s) d e = cc
  unescaped-of_json (json.array js) d e = under_array (of_items js) (json_items_data js) d (unescaped-of_items js) e
  unescaped-of_json (json.object ms) d e = under_object (of_members ms no_members) (json_members_data ms no_members) d (unescaped-of_members ms no_members) e

  unescaped-of_items : (js : json.Items) (ds : Items) → of_items js ≡ Some ds → json_items_data js ≡ ds
  unescaped-of_items json.no_items ds e = cc
  unescaped-of_items (json.item j js) ds e =
      under_item (of_json j) (of_items js) (json_data j) (json_items_data js) ds (unescaped-of_json j) (unescaped-of_items js) e

  unescaped-of_members : (ms : json.Members) (found ns : Members) → of_members ms found ≡ Some ns → json_members_data ms found ≡ ns
  unescaped-of_members json.no_members found ns e = cc
  unescaped-of_members (json.member k j ms) found ns e =
      under_member (of_json j) ms k (json_data j) found ns (unescaped-of_json j) (λ new h. unescaped-of_members ms new ns h) e

-- ---- the numbers of a value without objects fit if those of its data do

mutual
  pub fits-lists : (j : json.Json) → has_no_object_and_whole_numbers (json_data j) ≡ true → json_has_whole_numbers j ≡ true
  fits-lists json.null e = refl
  fits-lists (json.boolean b) e = refl
  fits-lists (json.number s) e = e
  fits-lists (json.string s) e = refl
  fits-lists (json.array js) e = items_fit-lists js e
  fits-lists (json.object ms) e = absurd (cc)

  items_fit-lists : (js : json.Items) → items_have_no_object_and_whole_numbers (json_items_data js) ≡ true → json_items_have_whole_numbers js ≡ true
  items_fit-lists json.no_items e = refl
  items_fit-lists (json.item j js) e =
      let h = both (has_no_object_and_whole_numbers (json_data j)) (items_have_no_object_and_whole_numbers (json_items_data js)) e in
      both_of (json_has_whole_numbers j) (json_items_have_whole_numbers js) (fits-lists j h.0) (items_fit-lists js h.1)
