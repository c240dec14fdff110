-- Maps that are filled from a list without repeats.
use Rattle.std.proofs.Common.{◌≡◌, ℕ, zero, suc, ◌+◌, ◌<◌, Bool, true, false, cond, List, [], ◌∷◌, ◌++◌, None}
use Rattle.std.proofs.Common.{Some, length, get_or, take, take_all, map, slice_get, refl, sym, ap, ◌∙◌, arith}
use Rattle.std.specs.Prelude.{String, string_bytes}
use Rattle.std.specs.Global.{Global}
use Rattle.std.specs.Map.{lookup}
use Rattle.std.specs.Option.{option_map}
use Rattle.std.specs.Str.{bytes_eq}
use Rattle.std.proofs.lemmas.List.{length-map, get_or-map, map-append, take-map, take_more, length_push}
use Rattle.std.proofs.lemmas.Option.{none-some, slice_get_read, slice_get-map}
use Rattle.std.proofs.lemmas.Slice.Eq.{bytes_eq-Decides}
use Rattle.std.proofs.lemmas.Simd.{map-map}
use Rattle.std.specs.String.{string_eq}
use Rattle.indexmap.specs.IndexMap.{insert_entry}
use Rattle.indexmap.proofs.CallerLemmas.{insert_entry-new}
use Rattle.symbols_graph.specs.Tables.{StringMap}
use Rattle.symbols_graph.specs.inner.CheckSteps.{HasNoRepeat}

-- Entry j of the first n is entry j of the whole list.
pub occurs_in_take : {A : Type 0} (n : ℕ) (xs : List A) (j : ℕ) (x : A) → slice_get (take n xs) j ≡ Some x → (j < n) × (slice_get xs j ≡ Some x)
occurs_in_take zero xs j x at = absurd (none-some x at)
occurs_in_take (suc n) [] j x at = absurd (none-some x at)
occurs_in_take (suc n) (y ∷ ys) zero x at = (omega arith, at)
occurs_in_take (suc n) (y ∷ ys) (suc j) x at = let rest = occurs_in_take n ys j x at in (omega (arith, rest.0), rest.1)

-- A lookup of a text that is no key finds nothing.
pub lookup_absent : {V : Type 0} (entries : List (String Global × V)) (k : List ℕ) → ((j : ℕ) → slice_get (map (λ e. string_bytes e.0) entries) j ≡ Some k → ⊥)
    → lookup (λ s. bytes_eq k (string_bytes s)) entries ≡ None
lookup_absent [] k none = refl
lookup_absent {V} (e ∷ es) k none = by (bytes_eq k (string_bytes e.0)) refl (lookup_absent es k (λ j at. none (suc j) at))
  where
    by : (b : Bool) → bytes_eq k (string_bytes e.0) ≡ b → lookup (λ s. bytes_eq k (string_bytes s)) es ≡ None
        → lookup (λ s. bytes_eq k (string_bytes s)) (e ∷ es) ≡ None
    by true is rest = absurd (none 0 (ap Some (sym ((bytes_eq-Decides k (string_bytes e.0)).0 is))))
    by false is rest = ap (λ c. cond c (Some e.1) (lookup (λ s. bytes_eq k (string_bytes s)) es)) is ∙ rest

-- Entry n of a list without repeats is none of the keys, which are the entries before it.
pub new_name : {V : Type 0} (entries : List (String Global × V)) (names : List (List ℕ)) (n : ℕ) (k : List ℕ) → HasNoRepeat names
    → map (λ e. string_bytes e.0) entries ≡ take n names → slice_get names n ≡ Some k → lookup (λ s. bytes_eq k (string_bytes s)) entries ≡ None
new_name entries names n k distinct keys at =
    lookup_absent entries k (λ j there. let earlier = occurs_in_take n names j k (ap (λ xs. slice_get xs j) (sym keys)
    ∙ there) in distinct n k (at, (j, earlier.0, earlier.1)))

module _ {E X R : Type 0} (f : E → R) (g : X → R) (es : List E) (all : List X) (n : ℕ) (so_far : map f es ≡ take n (map g all)) where
  -- The map after one more entry has those of the first n + 1 items.
  pub filled_more : (e : E) (x : X) → n < length all → x ≡ get_or all n x → f e ≡ g x → map f (es ++ e ∷ []) ≡ take (n + 1) (map g all)
  filled_more e x inside is reads =
      map-append f es (e ∷ []) ∙ ap (λ xs. xs ++ f e ∷ []) so_far ∙ ap (λ r. take n (map g all) ++ r ∷ []) (reads ∙ ap g is
      ∙ sym (get_or-map g all n x (g x) inside)) ∙ sym (take_more (map g all) n (g x) (rw length-map inside))

  -- After the last item the map has the entries of all items.
  pub filled_all : n ≡ length all → map f es ≡ map g all
  filled_all whole = so_far ∙ take_all n (map g all) (rw length-map (omega arith))

  -- The view of the next item.
  pub next_read : (x : X) → n < length all → x ≡ get_or all n x → slice_get (map g all) n ≡ Some (g x)
  next_read x inside is = slice_get-map g all n ∙ ap (option_map g) (slice_get_read all (length all) n x refl inside is)

-- A map that is filled from a list. The function f views its entries, g views the items, and name gives the key of a view.
module _ {V X R : Type 0} (f : String Global × V → R) (g : X → R) (name : R → List ℕ) (named : (e : String Global × V) → name (f e) ≡ string_bytes e.0) where
  -- The map after the next item is inserted.
  pub inserted_more : (m : StringMap V) (all : List X) (n : ℕ) → HasNoRepeat (map name (map g all)) → map f m.entries ≡ take n (map g all)
      → (k : String Global) (v : V) (x : X) → n < length all → x ≡ get_or all n x → f (k, v) ≡ g x
      → (new : List (String Global × V)) → new ≡ insert_entry string_eq m.entries k v → {A : Type 0} (yielded : List A) (y : A) → n ≡ length yielded
      → map f new ≡ take (length (yielded ++ y ∷ [])) (map g all)
  inserted_more m all n distinct so_far k v x inside is reads new puts yielded y count =
      let keys : map (λ e. string_bytes e.0) m.entries ≡ take n (map name (map g all)) =
      map-ext (λ e. string_bytes e.0) (λ e. name (f e)) (λ e. sym (named e)) m.entries ∙ sym (map-map name f m.entries) ∙ ap (map name) so_far
      ∙ sym (take-map name n (map g all)) in
      let here : slice_get (map name (map g all)) n ≡ Some (string_bytes k) =
      slice_get-map name (map g all) n ∙ ap (option_map name) (next_read f g m.entries all n so_far x inside is ∙ ap Some (sym reads))
      ∙ ap Some (named (k, v)) in
      let absent = new_name m.entries (map name (map g all)) n (string_bytes k) distinct keys here in
      ap (map f) (puts ∙ insert_entry-new string_eq m k v absent) ∙ filled_more f g m.entries all n so_far (k, v) x inside is reads
      ∙ ap (λ i. take i (map g all)) (ap (λ i. i + 1) count ∙ sym (length_push yielded y))
    where
      map-ext : {A B : Type 0} (p q : A → B) → ((a : A) → p a ≡ q a) → (xs : List A) → map p xs ≡ map q xs
      map-ext p q same [] = refl
      map-ext {A} {B} p q same (a ∷ xs) = ap {B = List B} (λ b. b ∷ map p xs) (same a) ∙ ap {B = List B} (λ bs. q a ∷ bs) (map-ext p q same xs)
