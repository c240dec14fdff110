-- What is read of a list or an object, from its parts.
use Rattle.std.proofs.Common.{◌≡◌, ◌<◌, ◌-◌, ℕ, List, [], ◌∷◌, ◌++◌, length, map, Bool, true, false, Option}
use Rattle.std.proofs.Common.{Some, None, option_map, Result, Ok, Err, IfOk, refl, sym, ap, subst, ◌∙◌}
use Rattle.std.proofs.lemmas.List.{map-append}
use Rattle.json.specs.Token.{Token}
use Rattle.json.specs.Json.{Json, null, array, object, Items, no_items, item, Members, no_members, parse_map, after_end_array, items, members, value}
use Rattle.json.proofs.Grammar.{left, value-begin_array, value-begin_object, value_is, skip_value-shorter}
use Rattle.serde_json.specs.Data.{Data}
use Rattle.symq_reader.specs.JsonData.{json_data, json_items_data}
use Rattle.symq_reader.specs.inner.JsonData.{json_items_have_whole_numbers}
use Rattle.symq_reader.specs.inner.Streams.{items_joined, members_joined, ConsumesItems, SkipsToKey, ReadsMemberApart, list_in_optional_data}
use Rattle.symq_reader.specs.inner.Streams.{value_in_optional_data, ReadsValue, ReadsItems, ReadsMembers}
use Rattle.symq_reader.specs.UnderKeys.{read_each_item}
use Rattle.symq_reader.proofs.ConsumedTokens.{took_item, took_all_items, item_fits, item_of_form, around_none, around_one}

pub mapped_ok : {A E : Type 0} (r : Result A E) (P Q : A → Type 0) → ((x : A) → P x → Q x) → IfOk r P → IfOk r Q
mapped_ok (Ok x) P Q f h = f x h
mapped_ok (Err e) P Q f h = tt

pub reads_shorter : {S : Type 0} (depth : ℕ) (old new : List Token) (form : Data → Option S) (x : S) → ReadsValue depth old new form x → length new < length old
reads_shorter depth old new form x reads = skip_value-shorter depth old new (ap left reads.read)

-- ---- lists

pub items_round : {S T : Type 0} (form : Data → Option S) (shape : T → S) (depth : ℕ) (old ts now r : List Token) (done : Items) (before after : List T) (x : T)
    → ConsumesItems depth old done ts → json_items_have_whole_numbers done ≡ true
    → read_each_item form (json_items_data done) ≡ Some (map shape before) → after_end_array ts ≡ None → now ≡ ts → ReadsValue depth now r form (shape x)
    → after ≡ before ++ x ∷ []
    → (new : Items) × ConsumesItems depth old new r × (json_items_have_whole_numbers new ≡ true)
    × (read_each_item form (json_items_data new) ≡ Some (map shape after))
items_round form shape depth old ts now r done before after x took fit are going same reads pushed =
    let j = reads.at in
    let is : value depth ts ≡ Some (j, r) = ap (value depth) (sym same) ∙ reads.read in (
      items_joined done (item j no_items),
      took_item depth old ts r done j took going is,
      item_fits done j fit reads.fit,
      item_of_form form done j (map shape before) (shape x) are reads.is ∙ ap Some (sym (ap (map shape) pushed ∙ map-append shape before (x ∷ []))),
    )

pub items_done : {S : Type 0} (form : Data → Option S) (depth : ℕ) (old ts r : List Token) (done : Items) (xs : List S) → ConsumesItems depth old done ts
    → json_items_have_whole_numbers done ≡ true → read_each_item form (json_items_data done) ≡ Some xs
    → after_end_array ts ≡ Some r → ReadsItems depth old r form xs
items_done form depth old ts r done xs took fit are over = record { all = done; read = took_all_items depth old ts r done took over; fit = fit; are = are }

pub list_read : {S : Type 0} (form : Data → Option S) (outer inner : ℕ) (old rest new : List Token) (xs : List S) → 0 < outer → outer - 1 ≡ inner
    → old ≡ Token.begin_array ∷ rest → ReadsItems inner rest new form xs
    → ReadsValue outer old new (λ d. list_in_optional_data form (Some d)) xs
list_read form outer inner old rest new xs some less begins h = record {
  at = array h.all;
  read = ap (value outer) begins ∙ value-begin_array outer rest some ∙ ap (λ d. parse_map array (items (value d) (length rest) rest)) less
      ∙ ap (parse_map array) h.read;
  fit = h.fit;
  is = h.are;
}

pub null_read : {X : Type 0} (form : Option Data → Option X) (depth : ℕ) (old new : List Token) (x : X) → old ≡ Token.null ∷ new
    → form (Some (json_data null)) ≡ Some x → ReadsValue depth old new (λ d. form (Some d)) x
null_read form depth old new x begins is = record {
  at = null;
  read = ap (value depth) begins ∙ value_is depth (Token.null ∷ new);
  fit = refl;
  is = is;
}

-- ---- objects

object_value : (outer inner : ℕ) (old rest new : List Token) (ms : Members) → 0 < outer → outer - 1 ≡ inner → old ≡ Token.begin_object ∷ rest
    → members (value inner) (length rest) rest ≡ Some (ms, new)
    → value outer old ≡ Some (object ms, new)
object_value outer inner old rest new ms some less begins is =
    ap (value outer) begins ∙ value-begin_object outer rest some ∙ ap (λ d. parse_map object (members (value d) (length rest) rest)) less
    ∙ ap (parse_map object) is

pub object_read : {X : Type 0} (form : Data → Option X) (outer inner : ℕ) (old rest new : List Token) (x : X) → 0 < outer → outer - 1 ≡ inner
    → old ≡ Token.begin_object ∷ rest → ReadsMembers inner rest new form x
    → ReadsValue outer old new form x
object_read form outer inner old rest new x some less begins h = record {
  at = object h.all;
  read = object_value outer inner old rest new h.all some less begins h.read;
  fit = h.fit;
  is = h.is;
}

pub optional_read : {X : Type 0} (form : Data → Option X) (outer inner : ℕ) (old rest new : List Token) (x : X) → 0 < outer → outer - 1 ≡ inner
    → old ≡ Token.begin_object ∷ rest → ReadsMembers inner rest new form x
    → ReadsValue outer old new (λ d. value_in_optional_data form (Some d)) (Some x)
optional_read form outer inner old rest new x some less begins h = record {
  at = object h.all;
  read = object_value outer inner old rest new h.all some less begins h.read;
  fit = h.fit;
  is = ap (option_map Some) h.is;
}

with_test : (depth : ℕ) (old : List Token) (key : List ℕ) (found_key is : Bool) (new : List Token) (done : Members) → found_key ≡ is
    → SkipsToKey depth old key found_key new done → SkipsToKey depth old key is new done
with_test depth old key found_key is new done same passed = subst (λ (b : Bool). SkipsToKey depth old key b new done) same passed

pub among_none : {X : Type 0} (form : Option Data → Option X) (depth : ℕ) (old new : List Token) (key : List ℕ) (found_key : Bool) (start done
    retained : Members) (x : X) → found_key ≡ false → SkipsToKey depth old key found_key new done → start ≡ no_members
    → retained ≡ members_joined start done → form None ≡ Some x
    → (there : Option Json) × ReadsMemberApart depth old new key there retained × (form (option_map json_data there) ≡ Some x)
among_none form depth old new key found_key start done retained x same passed empty all is = (
  None,
  around_none depth old new key done retained (with_test depth old key found_key false new done same passed) (all
      ∙ ap (λ ms. members_joined ms done) empty),
  is,
)

pub among_one : {X : Type 0} (form : Option Data → Option X) (depth : ℕ) (old r s new : List Token) (key : List ℕ) (found_key again : Bool) (start before mid
    after retained : Members) (x : X) → found_key ≡ true → SkipsToKey depth old key found_key r before
    → start ≡ no_members → mid ≡ members_joined start before → ReadsValue depth r s (λ d. form (Some d)) x → again ≡ false
    → SkipsToKey depth s key again new after
    → retained ≡ members_joined mid after
    → (there : Option Json) × ReadsMemberApart depth old new key there retained × (form (option_map json_data there) ≡ Some x)
among_one form depth old r s new key found_key again start before mid after retained x same first empty front reads over second all = (
  Some reads.at,
  around_one depth old r s new key before after retained reads.at (with_test depth old key found_key true r before same first) reads.read reads.fit
      (with_test depth s key again false new after over second)
      (all ∙ ap (λ ms. members_joined ms after) (front ∙ ap (λ ms. members_joined ms before) empty)),
  reads.is,
)
