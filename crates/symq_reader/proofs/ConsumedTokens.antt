-- What was read of a list or an object precedes what is still to be read.
use Rattle.std.proofs.Common.{◌≡◌, ◌&&◌, ℕ, zero, suc, ◌-◌, ◌<◌, ◌≤◌, List, [], ◌∷◌, ◌++◌, length, Bool, true, false, cond}
use Rattle.std.proofs.Common.{Option, Some, None, option_map, option_and_then, bytes_eq, Bor, refl, sym, ap, ◌∙◌, arith}
use Rattle.std.proofs.lemmas.Slice.Eq.{bytes_eq-Decides}
use Rattle.json.specs.Token.{Token}
use Rattle.json.specs.Json.{Json, Items, no_items, item, Members, no_members, member, Parse, parse_map}
use Rattle.json.specs.Json.{after_end_array, read_key, items_step, members_step, items, members, value}
use Rattle.json.specs.Find.{later_or, get_member}
use Rattle.json.specs.Value.{value_view, members_view}
use Rattle.json.specs.declared.value.Value.{Value}
use Rattle.json.proofs.Grammar.{left, items_end, items_more, members_end, members_more, skip_value-shorter, read_key-shorter}
use Rattle.serde_json.specs.Data.{Data}
use Rattle.symq_reader.specs.JsonData.{json_data, json_items_data}
use Rattle.symq_reader.specs.inner.JsonData.{json_has_whole_numbers, json_items_have_whole_numbers, json_members_have_whole_numbers}
use Rattle.symq_reader.specs.UnderKeys.{read_each_item}
use Rattle.symq_reader.specs.inner.Streams.{items_joined, members_joined, ConsumesItems, ConsumesMembers, SkipsToKey, ReadsMemberApart}

-- ---- reading with more fuel than needed gives the same result

mapped : {A B : Type 0} (f : A → B) (a b : Option (A × List Token)) (x : B × List Token) → ((y : A × List Token) → a ≡ Some y → b ≡ Some y)
    → parse_map f a ≡ Some x → parse_map f b ≡ Some x
mapped f None b x same e = absurd (cc)
mapped f (Some y) b x same e = ap (parse_map f) (same y refl) ∙ e

after_value : {A B : Type 0} (f : Json → A → B) (few many : Parse A) (o : Option (Json × List Token)) (x : B × List Token)
    → ((ts : List Token) (y : A × List Token) → few ts ≡ Some y → many ts ≡ Some y)
    → option_and_then (λ q. parse_map (f q.0) (few q.1)) o ≡ Some x → option_and_then (λ q. parse_map (f q.0) (many q.1)) o ≡ Some x
after_value f few many None x same e = absurd (cc)
after_value f few many (Some q) x same e = mapped (f q.0) (few q.1) (many q.1) x (same q.1) e

module _ (p : Parse Json) where
  item_again : (few many : Parse Items) (ts : List Token) (o : Option (List Token)) (x : Items × List Token)
      → ((us : List Token) (y : Items × List Token) → few us ≡ Some y → many us ≡ Some y)
      → items_step p few ts o ≡ Some x → items_step p many ts o ≡ Some x
  item_again few many ts (Some rest) x same e = e
  item_again few many ts None x same e = after_value item few many (p ts) x same e

  pub more_items : (m n : ℕ) (ts : List Token) (x : Items × List Token) → m ≤ n → items p m ts ≡ Some x → items p n ts ≡ Some x
  unfolding items
  more_items zero n ts x h e = absurd (cc)
  more_items (suc m) zero ts x h e = let never : ⊥ = omega arith in absurd never
  more_items (suc m) (suc n) ts x h e =
      let less : m ≤ n = omega arith in
      item_again (items p m) (items p n) ts (after_end_array ts) x (λ us y f. more_items m n us y less f) e

  member_again : (few many : Parse Members) (o : Option (Option (List ℕ) × List Token)) (x : Members × List Token)
      → ((us : List Token) (y : Members × List Token) → few us ≡ Some y → many us ≡ Some y)
      → option_and_then (λ q. members_step p few q.0 q.1) o ≡ Some x → option_and_then (λ q. members_step p many q.0 q.1) o ≡ Some x
  member_again few many None x same e = absurd (cc)
  member_again few many (Some (None, s)) x same e = e
  member_again few many (Some (Some k, s)) x same e = after_value (member k) few many (p s) x same e

  pub more_members : (m n : ℕ) (ts : List Token) (x : Members × List Token) → m ≤ n → members p m ts ≡ Some x → members p n ts ≡ Some x
  unfolding members
  more_members zero n ts x h e = absurd (cc)
  more_members (suc m) zero ts x h e = let never : ⊥ = omega arith in absurd never
  more_members (suc m) (suc n) ts x h e =
      let less : m ≤ n = omega arith in
      member_again (members p m) (members p n) (read_key ts) x (λ us y f. more_members m n us y less f) e

-- ---- items

items_regrouped : (done : Items) (j : Json) (js : Items) → items_joined (items_joined done (item j no_items)) js ≡ items_joined done (item j js)
items_regrouped no_items j js = refl
items_regrouped (item i done) j js = ap (item i) (items_regrouped done j js)

items_joined-none : (done : Items) → items_joined done no_items ≡ done
items_joined-none no_items = refl
items_joined-none (item i done) = ap (item i) (items_joined-none done)

pub took_no_items : (depth : ℕ) (ts : List Token) → ConsumesItems depth ts no_items ts
took_no_items depth ts = record { on = λ js rest h. h }

pub took_item : (depth : ℕ) (old ts r : List Token) (done : Items) (j : Json) → ConsumesItems depth old done ts → after_end_array ts ≡ None
    → value depth ts ≡ Some (j, r) → ConsumesItems depth old (items_joined done (item j no_items)) r
took_item depth old ts r done j took going is =
    let p = value depth in
    let less : length r < length ts = skip_value-shorter depth ts r (ap left is) in
    record {
      on = λ js rest h.
          (let round = items_more p (length ts) ts r j (omega arith) going is in
          let enough : items p (length ts - 1) r ≡ Some (js, rest) = more_items p (length r) (length ts - 1) r (js, rest) (omega arith) h in
          took.on (item j js) rest (round ∙ ap (parse_map (item j)) enough) ∙ ap (λ x. Some (x, rest)) (sym (items_regrouped done j js)));
    }

pub took_all_items : (depth : ℕ) (old ts r : List Token) (done : Items) → ConsumesItems depth old done ts → after_end_array ts ≡ Some r
    → items (value depth) (length old) old ≡ Some (done, r)
took_all_items depth old ts r done took e =
    took.on no_items r (items_end (value depth) (length ts) ts r (omega arith) e) ∙ ap (λ x. Some (x, r)) (items_joined-none done)

pub both : (a b : Bool) → a ≡ true → b ≡ true → (a && b) ≡ true
both a b e f = rw e f

apart : (a b : Bool) → (a && b) ≡ true → (a ≡ true) × (b ≡ true)
apart true b e = (refl, e)
apart false b e = absurd (cc)

pub item_fits : (done : Items) (j : Json) → json_items_have_whole_numbers done ≡ true → json_has_whole_numbers j ≡ true
    → json_items_have_whole_numbers (items_joined done (item j no_items)) ≡ true
item_fits no_items j d e = both (json_has_whole_numbers j) true e refl
item_fits (item i done) j d e =
    let h = apart (json_has_whole_numbers i) (json_items_have_whole_numbers done) d in
    both (json_has_whole_numbers i) (json_items_have_whole_numbers (items_joined done (item j no_items))) h.0 (item_fits done j h.1 e)

first_then : {S : Type 0} (o : Option S) (front back : Option (List S)) (xs : List S) (x : S) → ((ys : List S) → front ≡ Some ys → back ≡ Some (ys ++ x ∷ []))
    → option_and_then (λ y. option_map (λ ys. y ∷ ys) front) o ≡ Some xs → option_and_then (λ y. option_map (λ ys. y ∷ ys) back) o ≡ Some (xs ++ x ∷ [])
first_then None front back xs x more e = absurd (cc)
first_then (Some y) None back xs x more e = absurd (cc)
first_then (Some y) (Some ys) back xs x more e =
    let is : y ∷ ys ≡ xs = cc in ap (option_map (λ zs. y ∷ zs)) (more ys refl) ∙ ap (λ zs. Some (zs ++ x ∷ [])) is

pub item_of_form : {S : Type 0} (form : Data → Option S) (done : Items) (j : Json) (xs : List S) (x : S) → read_each_item form (json_items_data done) ≡ Some xs
    → form (json_data j) ≡ Some x
    → read_each_item form (json_items_data (items_joined done (item j no_items))) ≡ Some (xs ++ x ∷ [])
item_of_form form no_items j xs x e is =
    let none : [] ≡ xs = cc in
    ap (option_and_then (λ y. option_map (λ ys. y ∷ ys) (Some []))) is ∙ ap (λ ys. Some (ys ++ x ∷ [])) none
item_of_form form (item i done) j xs x e is =
    first_then (form (json_data i)) (read_each_item form (json_items_data done)) (read_each_item form (json_items_data (items_joined done (item j no_items))))
    xs x
    (λ ys h. item_of_form form done j ys x h is) e

-- ---- members

regrouped : (done : Members) (k : List ℕ) (j : Json) (ms : Members)
    → members_joined (members_joined done (member k j no_members)) ms ≡ members_joined done (member k j ms)
regrouped no_members k j ms = refl
regrouped (member l i done) k j ms = ap (member l i) (regrouped done k j ms)

pub joined-none : (done : Members) → members_joined done no_members ≡ done
joined-none no_members = refl
joined-none (member l i done) = ap (member l i) (joined-none done)

pub took_none : (depth : ℕ) (ts : List Token) → ConsumesMembers depth ts no_members ts
took_none depth ts = record { on = λ ms rest h. h }

-- a member precedes the members that are read after it
member_before : (depth : ℕ) (k : List ℕ) (ts s r : List Token) (j : Json) (ms : Members) (rest : List Token) → read_key ts ≡ Some (Some k, s)
    → value depth s ≡ Some (j, r) → members (value depth) (length r) r ≡ Some (ms, rest)
    → members (value depth) (length ts) ts ≡ Some (member k j ms, rest)
member_before depth k ts s r j ms rest named is h =
    let p = value depth in
    let shorter : length s < length ts = read_key-shorter ts (Some k) s named in
    let less : length r < length s = skip_value-shorter depth s r (ap left is) in
    let round = members_more p (length ts) k ts s r j (omega arith) named is in
    let enough : members p (length ts - 1) r ≡ Some (ms, rest) = more_members p (length r) (length ts - 1) r (ms, rest) (omega arith) h in
    round ∙ ap (parse_map (member k j)) enough

pub took_member : (depth : ℕ) (k : List ℕ) (old ts s r : List Token) (done : Members) (j : Json) → ConsumesMembers depth old done ts
    → read_key ts ≡ Some (Some k, s)
    → value depth s ≡ Some (j, r) → ConsumesMembers depth old (members_joined done (member k j no_members)) r
took_member depth k old ts s r done j took named is = record {
  on = λ ms rest h. took.on (member k j ms) rest (member_before depth k ts s r j ms rest named is h) ∙ ap (λ x. Some (x, rest)) (sym (regrouped done k j ms));
}

pub took_all : (depth : ℕ) (old ts r : List Token) (done : Members) → ConsumesMembers depth old done ts → read_key ts ≡ Some (None, r)
    → members (value depth) (length old) old ≡ Some (done, r)
took_all depth old ts r done took e =
    took.on no_members r (members_end (value depth) (length ts) ts r (omega arith) e) ∙ ap (λ x. Some (x, r)) (joined-none done)

pub member_fits : (done : Members) (k : List ℕ) (j : Json) (ms : Members) → json_members_have_whole_numbers done ≡ true → json_has_whole_numbers j ≡ true
    → json_members_have_whole_numbers ms ≡ true
    → json_members_have_whole_numbers (members_joined done (member k j ms)) ≡ true
member_fits no_members k j ms d e f = both (json_has_whole_numbers j) (json_members_have_whole_numbers ms) e f
member_fits (member l i done) k j ms d e f =
    let h = apart (json_has_whole_numbers i) (json_members_have_whole_numbers done) d in
    both (json_has_whole_numbers i) (json_members_have_whole_numbers (members_joined done (member k j ms))) h.0 (member_fits done k j ms h.1 e f)

later_or-None : (o : Option Json) → later_or o None ≡ o
later_or-None None = refl
later_or-None (Some j) = refl

later_or-assoc : (a b c : Option Json) → later_or (later_or a b) c ≡ later_or a (later_or b c)
later_or-assoc None b c = refl
later_or-assoc (Some j) b c = refl

get_member-joined : (q : List ℕ) (a b : Members) → get_member q (members_joined a b) ≡ later_or (get_member q b) (get_member q a)
get_member-joined q no_members b = sym (later_or-None (get_member q b))
get_member-joined q (member k j a) b =
    let here = cond (bytes_eq k q) (Some j) None in
    ap (λ o. later_or o here) (get_member-joined q a b) ∙ later_or-assoc (get_member q b) (get_member q a) here

here_other : (b : Bool) (k q : List ℕ) (j : Json) → bytes_eq k q ≡ b → (q ≡ k → ⊥) → cond b (Some j) None ≡ None
here_other true k q j e other = absurd (other (sym ((bytes_eq-Decides k q).0 e)))
here_other false k q j e other = refl

other_key : (k q : List ℕ) (j : Json) → (q ≡ k → ⊥) → cond (bytes_eq k q) (Some j) None ≡ None
other_key k q j other = here_other (bytes_eq k q) k q j refl other

same_key : (k : List ℕ) (j : Json) → cond (bytes_eq k k) (Some j) None ≡ Some j
same_key k j = ap (λ b. cond b (Some j) None) ((bytes_eq-Decides k k).1 refl)

-- a member with another key doesn't change that the key isn't found
pub none_more : (q k : List ℕ) (done : Members) (j : Json) → get_member q done ≡ None → (q ≡ k → ⊥)
    → get_member q (members_joined done (member k j no_members)) ≡ None
none_more q k done j none other =
    get_member-joined q done (member k j no_members)
    ∙ ap (λ o. later_or o (get_member q done)) (other_key k q j other)
    ∙ none

pub members_view-more : {A : Type 0} (retained : List (Bor (List ℕ) × Value A)) (k : Bor (List ℕ)) (v : Value A)
    → members_view (retained ++ (k, v) ∷ []) ≡ members_joined (members_view retained) (member k.now (value_view v) no_members)
members_view-more [] k v = refl
members_view-more (m ∷ retained) k v = ap (member m.0.now (value_view m.1)) (members_view-more retained k v)

pub joined_more : (before done after : Members) → members_joined (members_joined before done) after ≡ members_joined before (members_joined done after)
joined_more no_members done after = refl
joined_more (member l i before) done after = ap (member l i) (joined_more before done after)

-- ---- an object of which one member is read apart

pub around_none : (depth : ℕ) (old new : List Token) (key : List ℕ) (done retained : Members) → SkipsToKey depth old key false new done → retained ≡ done
    → ReadsMemberApart depth old new key None retained
around_none depth old new key done retained passed same = record {
  all = done;
  read = took_all depth old passed.key_tokens new done passed.took passed.next;
  fit = passed.fit;
  under = passed.none;
  other_items = λ q other. ap (get_member q) same;
}

pub around_one : (depth : ℕ) (old r s new : List Token) (key : List ℕ) (before after retained : Members) (j : Json) → SkipsToKey depth old key true r before
    → value depth r ≡ Some (j, s) → json_has_whole_numbers j ≡ true → SkipsToKey depth s key false new after
    → retained ≡ members_joined before after → ReadsMemberApart depth old new key (Some j) retained
around_one depth old r s new key before after retained j first is fit second same =
    let rest = took_all depth s second.key_tokens new after second.took second.next in
    record {
      all = members_joined before (member key j after);
      read = first.took.on (member key j after) new (member_before depth key first.key_tokens r s j after new first.next is rest);
      fit = member_fits before key j after first.fit fit second.fit;
      under =
          get_member-joined key before (member key j after)
          ∙ ap (λ o. later_or o (get_member key before)) (ap (λ o. later_or o (cond (bytes_eq key key) (Some j) None)) second.none ∙ same_key key j);
      other_items = λ q other.
          (ap (get_member q) same
          ∙ get_member-joined q before after
          ∙ ap (λ o. later_or o (get_member q before)) (sym (ap (later_or (get_member q after)) (other_key key q j other) ∙ later_or-None (get_member q after)))
          ∙ sym (get_member-joined q before (member key j after)));
    }
