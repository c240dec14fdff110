-- A module that is put among keyed modules, and its resolutions among those of other referrers.
use Rattle.std.proofs.Common.{◌≡◌, ℕ, ◌+◌, ◌≤◌, Bool, true, false, not, cond, ◌&&◌, List, [], ◌∷◌, ◌++◌, length, map, find, Option, None, Some, is_some}
use Rattle.std.proofs.Common.{refl, sym, ap, ◌∙◌, get_or, drop, arith}
use Rattle.std.specs.Prelude.{String, string_bytes, filter, if◌then◌else◌}
use Rattle.std.specs.Global.{Global}
use Rattle.std.specs.Cmp.Lexicographic.{nat_list_eq_equiv}
use Rattle.std.specs.Map.{lookup}
use Rattle.std.specs.Option.{option_map, option_or}
use Rattle.std.specs.Str.{bytes_eq}
use Rattle.std.specs.String.{string_eq}
use Rattle.std.proofs.lemmas.List.{length-map}
use Rattle.std.proofs.lemmas.List.Folds.{find-append}
use Rattle.std.proofs.lemmas.Map.Text.{hash_map_updates_text}
use Rattle.std.proofs.lemmas.Slice.Eq.{bytes_eq-Decides}
use Rattle.indexmap.specs.IndexMap.{get_by_text, insert_entry, IsUnique, Updates}
use Rattle.symbols_ast.specs.Graph.{ModuleView, Resolution, find_resolved_specifier}
use Rattle.symbols_graph.specs.Tables.{StringMap, resolutions_of_map_entries, string_pairs_bytes}
use Rattle.symbols_graph.specs.PutModules.{modules_with_put_module, resolution_with_referrer, is_resolution_of_other_referrer}
use Rattle.symbols_graph.specs.inner.Tables.{AreKeyedBySpecifier}
use Rattle.symbols_graph.proofs.GraphLookups.{find-keyed, inside, rows_found, lookup-string_pairs_bytes}

-- ---- modules

-- The module of an entry.
abbrev module_in : String Global × ModuleView → ModuleView
module_in e = e.1

-- The entries after an insertion are keyed, and their modules are those with the inserted one.
abbrev pub IsPutAmong : List (String Global × ModuleView) → String Global → ModuleView → Type 0
IsPutAmong entries key m = AreKeyedBySpecifier (insert_entry string_eq entries key m)
    × (map (λ (e : String Global × ModuleView). e.1) (insert_entry string_eq entries key m)
    ≡ modules_with_put_module m (map (λ (e : String Global × ModuleView). e.1) entries))

pub put_among : (entries : List (String Global × ModuleView)) (key : String Global) (m : ModuleView) → string_bytes key ≡ m.specifier
    → AreKeyedBySpecifier entries → IsPutAmong entries key m
put_among [] key m named keyed = (ap {B = List (List ℕ)} (λ (b : List ℕ). b ∷ []) named, refl)
put_among (e ∷ es) key m named keyed =
    let head : string_bytes e.0 ≡ e.1.specifier = ap (λ ns. get_or ns 0 []) keyed in
    let later : AreKeyedBySpecifier es = ap (drop 1) keyed in
    let same : string_eq key e.0 ≡ bytes_eq m.specifier e.1.specifier = (λ i. bytes_eq (named i) (head i)) in
    by (string_eq key e.0) refl head later same (put_among es key m named later)
  where
    by : (b : Bool) → string_eq key e.0 ≡ b → string_bytes e.0 ≡ e.1.specifier → AreKeyedBySpecifier es
        → string_eq key e.0 ≡ bytes_eq m.specifier e.1.specifier → IsPutAmong es key m
        → AreKeyedBySpecifier (if b then (e.0, m) ∷ es else e ∷ insert_entry string_eq es key m)
        × (map (λ (x : String Global × ModuleView). x.1) (if b then (e.0, m) ∷ es else e ∷ insert_entry string_eq es key m)
        ≡ modules_with_put_module m (e.1 ∷ map (λ (x : String Global × ModuleView). x.1) es))
    by true is head later same further =
        let there : bytes_eq m.specifier e.1.specifier ≡ true = sym same ∙ is in
        let equal : m.specifier ≡ e.1.specifier = (bytes_eq-Decides m.specifier e.1.specifier).0 there in
        let entry : string_bytes e.0 ≡ m.specifier = head ∙ sym equal in (
          (λ i. entry i ∷ later i),
          sym (ap (λ (b : Bool). if b then m ∷ map (λ (x : String Global × ModuleView). x.1) es else e.1 ∷ modules_with_put_module m
              (map (λ (x : String Global × ModuleView). x.1) es)) there),
        )
    by false is head later same further =
        let there : bytes_eq m.specifier e.1.specifier ≡ false = sym same ∙ is in (
          (λ i. head i ∷ further.0 i),
          ap {B = List ModuleView} (λ xs. e.1 ∷ xs) further.1 ∙ sym (ap (λ (b : Bool). if b then m ∷ map
              (λ (x : String Global × ModuleView). x.1) es else e.1 ∷ modules_with_put_module m (map (λ (x : String Global × ModuleView). x.1) es)) there),
        )

-- The number of modules with the put one: one more, if none has its specifier.
pub length_with : (m : ModuleView) (xs : List ModuleView) → length (modules_with_put_module m xs)
    ≡ cond (is_some (find (λ x. bytes_eq m.specifier x.specifier) xs)) (length xs) (length xs + 1)
length_with m [] = refl
length_with m (x ∷ xs) = by (bytes_eq m.specifier x.specifier) (is_some (find (λ y. bytes_eq m.specifier y.specifier) xs)) refl (length_with m xs)
  where
    by : (b c : Bool) → is_some (find (λ y. bytes_eq m.specifier y.specifier) xs) ≡ c
        → length (modules_with_put_module m xs) ≡ cond c (length xs) (length xs + 1)
        → length (if b then m ∷ xs else x ∷ modules_with_put_module m xs)
        ≡ cond (is_some (cond b (Some x) (find (λ y. bytes_eq m.specifier y.specifier) xs))) (length (x ∷ xs)) (length (x ∷ xs) + 1)
    by true c is later = refl
    by false true is later =
        let long : length (x ∷ modules_with_put_module m xs) ≡ length (x ∷ xs) = omega (arith, later) in
        long ∙ sym (ap (λ b. cond b (length (x ∷ xs)) (length (x ∷ xs) + 1)) is)
    by false false is later =
        let long : length (x ∷ modules_with_put_module m xs) ≡ length (x ∷ xs) + 1 = omega (arith, later) in
        long ∙ sym (ap (λ b. cond b (length (x ∷ xs)) (length (x ∷ xs) + 1)) is)

pub at_most_one_more : (m : ModuleView) (xs : List ModuleView) → length (modules_with_put_module m xs) ≤ length xs + 1
at_most_one_more m [] = omega arith
at_most_one_more m (x ∷ xs) = by (bytes_eq m.specifier x.specifier) (at_most_one_more m xs)
  where
    by : (b : Bool) → length (modules_with_put_module m xs) ≤ length xs + 1 → length (if b then m ∷ xs else x ∷ modules_with_put_module m xs) ≤ length
        (x ∷ xs) + 1
    by true later = omega arith
    by false later = omega (arith, later)

-- The same number, by a test for a key.
pub count_with : (entries : List (String Global × ModuleView)) (m : ModuleView) (b : Bool) → AreKeyedBySpecifier entries
    → b ≡ is_some (lookup (λ k. bytes_eq m.specifier (string_bytes k)) entries)
    → length (modules_with_put_module m (map (λ (e : String Global × ModuleView). e.1) entries)) ≡ cond b (length entries) (length entries + 1)
count_with entries m b keyed is =
    let test = ap is_some (find-keyed m.specifier entries keyed) ∙ sym is in
    let long = length-map entries (λ (e : String Global × ModuleView). e.1) in
    length_with m (map (λ (e : String Global × ModuleView). e.1) entries) ∙ (λ i. cond (test i) (long i) (long i + 1))

-- ---- resolutions

module _ (specifier r t : List ℕ) where
  -- The resolution has the queried referrer and specifier text.
  abbrev is_queried : Resolution → Bool
  is_queried z = bytes_eq r z.referrer && bytes_eq t z.specifier_text

  -- The former resolutions of the put module are not found.
  none_of_replaced : bytes_eq r specifier ≡ true → (olds : List Resolution) → find is_queried (filter (is_resolution_of_other_referrer specifier) olds) ≡ None
  none_of_replaced same [] = refl
  none_of_replaced same (z ∷ zs) = by (bytes_eq specifier z.referrer) refl (none_of_replaced same zs)
    where
      by : (b : Bool) → bytes_eq specifier z.referrer ≡ b → find is_queried (filter (is_resolution_of_other_referrer specifier) zs) ≡ None
          → find is_queried (if not b then z ∷ filter (is_resolution_of_other_referrer specifier) zs else filter (is_resolution_of_other_referrer specifier) zs)
          ≡ None
      by true is later = later
      by false is later =
          let other : bytes_eq r z.referrer ≡ false = ap (λ q. bytes_eq q z.referrer) ((bytes_eq-Decides r specifier).0 same) ∙ is in
          ap (λ b. cond (b && bytes_eq t z.specifier_text) (Some z) (find is_queried (filter (is_resolution_of_other_referrer specifier) zs))) other ∙ later

  -- Those of another referrer are found as before.
  found_in_remaining : bytes_eq r specifier ≡ false → (olds : List Resolution)
      → find is_queried (filter (is_resolution_of_other_referrer specifier) olds) ≡ find is_queried olds
  found_in_remaining other [] = refl
  found_in_remaining other (z ∷ zs) = by (bytes_eq specifier z.referrer) refl (found_in_remaining other zs)
    where
      by : (b : Bool) → bytes_eq specifier z.referrer ≡ b → find is_queried (filter (is_resolution_of_other_referrer specifier) zs) ≡ find is_queried zs
          → find is_queried (if not b then z ∷ filter (is_resolution_of_other_referrer specifier) zs else filter (is_resolution_of_other_referrer specifier) zs)
          ≡ find is_queried (z ∷ zs)
      by true is later =
          let apart : bytes_eq r z.referrer ≡ false = sym (ap (bytes_eq r) ((bytes_eq-Decides specifier z.referrer).0 is)) ∙ other in
          later ∙ sym (ap (λ b. cond (b && bytes_eq t z.specifier_text) (Some z) (find is_queried zs)) apart)
      by false is later = ap (cond (is_queried z) (Some z)) later

  -- The new resolutions are found by their specifier texts.
  found_in_new : bytes_eq r specifier ≡ true → (resolved : List (List ℕ × List ℕ))
      → option_map (λ z. z.specifier) (find is_queried (map (resolution_with_referrer specifier) resolved)) ≡ lookup (bytes_eq t) resolved
  found_in_new same [] = refl
  found_in_new same (x ∷ xs) = ap (λ b. option_map (λ (z : Resolution). z.specifier) (cond (b && bytes_eq t x.0) (Some (resolution_with_referrer specifier x))
      (find is_queried (map (resolution_with_referrer specifier) xs)))) same ∙ by (bytes_eq t x.0) (found_in_new same xs)
    where
      by : (b : Bool) → option_map (λ (z : Resolution). z.specifier) (find is_queried (map (resolution_with_referrer specifier) xs)) ≡ lookup (bytes_eq t) xs
          → option_map (λ (z : Resolution). z.specifier) (cond b (Some (resolution_with_referrer specifier x))
          (find is_queried (map (resolution_with_referrer specifier) xs)))
          ≡ cond b (Some x.1) (lookup (bytes_eq t) xs)
      by true later = refl
      by false later = later

  -- No other referrer has new ones.
  none_in_new : bytes_eq r specifier ≡ false → (resolved : List (List ℕ × List ℕ)) → find is_queried (map (resolution_with_referrer specifier) resolved) ≡ None
  none_in_new other [] = refl
  none_in_new other (x ∷ xs) = ap (λ b. cond (b && bytes_eq t x.0) (Some (resolution_with_referrer specifier x))
      (find is_queried (map (resolution_with_referrer specifier) xs))) other ∙ none_in_new other xs

  or_none : {A : Type 0} (o : Option A) → option_or o None ≡ o
  or_none None = refl
  or_none (Some a) = refl

  -- What a specifier text resolves to after a module is put with its resolutions.
  pub resolved_with : (olds : List Resolution) (resolved : List (List ℕ × List ℕ))
      → find_resolved_specifier (filter (is_resolution_of_other_referrer specifier) olds ++ map (resolution_with_referrer specifier) resolved) r t
      ≡ cond (bytes_eq r specifier) (lookup (bytes_eq t) resolved) (find_resolved_specifier olds r t)
  resolved_with olds resolved =
      ap (option_map (λ z. z.specifier)) (find-append is_queried (filter (is_resolution_of_other_referrer specifier) olds)
      (map (resolution_with_referrer specifier) resolved))
      ∙ by (bytes_eq r specifier) refl
    where
      by : (b : Bool) → bytes_eq r specifier ≡ b
          → option_map (λ (z : Resolution). z.specifier) (option_or (find is_queried (filter (is_resolution_of_other_referrer specifier) olds))
          (find is_queried (map (resolution_with_referrer specifier) resolved)))
          ≡ cond b (lookup (bytes_eq t) resolved) (find_resolved_specifier olds r t)
      by true is = ap (λ o. option_map (λ (z : Resolution). z.specifier) (option_or o (find is_queried (map (resolution_with_referrer specifier) resolved))))
          (none_of_replaced is olds) ∙ found_in_new is resolved
      by false is = ap (λ o. option_map (λ (z : Resolution). z.specifier)
          (option_or (find is_queried (filter (is_resolution_of_other_referrer specifier) olds)) o))
          (none_in_new is resolved)
          ∙ ap (option_map (λ (z : Resolution). z.specifier)) (or_none (find is_queried (filter (is_resolution_of_other_referrer specifier) olds))
          ∙ found_in_remaining is olds)

-- The maps with a new table for the put module resolve as the list with its resolutions.
pub put_resolves : (old new : StringMap (StringMap (String Global))) (referrer : String Global) (table : StringMap (String Global))
    (resolved : List (List ℕ × List ℕ)) (specifier : List ℕ) → string_bytes referrer ≡ specifier → string_pairs_bytes table.entries ≡ resolved
    → IsUnique string_eq old → IsUnique string_eq new → Updates string_eq old new referrer (Some table) → (r t : List ℕ)
    → find_resolved_specifier (resolutions_of_map_entries new.entries) r t
    ≡ find_resolved_specifier (filter (is_resolution_of_other_referrer specifier) (resolutions_of_map_entries old.entries) ++ map
    (resolution_with_referrer specifier) resolved) r t
put_resolves old new referrer table resolved specifier named rows before after updates r t =
    sym (rows_found r t new.entries after)
    ∙ ap (inside r t) (hash_map_updates_text (string_bytes referrer) old new (Some table) updates r)
    ∙ by (bytes_eq (string_bytes referrer) r) refl
    ∙ sym (resolved_with specifier r t (resolutions_of_map_entries old.entries) resolved)
  where
    same : bytes_eq r specifier ≡ bytes_eq (string_bytes referrer) r
    same = nat_list_eq_equiv.symm r specifier ∙ ap (λ q. bytes_eq q r) (sym named)

    by : (b : Bool) → bytes_eq (string_bytes referrer) r ≡ b
        → inside r t (cond b (Some table) (get_by_text old r))
        ≡ cond (bytes_eq r specifier) (lookup (bytes_eq t) resolved) (find_resolved_specifier (resolutions_of_map_entries old.entries) r t)
    by true is = sym (lookup-string_pairs_bytes t table.entries) ∙ ap (lookup (bytes_eq t)) rows
        ∙ sym (ap (λ b. cond b (lookup (bytes_eq t) resolved) (find_resolved_specifier (resolutions_of_map_entries old.entries) r t)) (same ∙ is))
    by false is = rows_found r t old.entries before
        ∙ sym (ap (λ b. cond b (lookup (bytes_eq t) resolved) (find_resolved_specifier (resolutions_of_map_entries old.entries) r t)) (same ∙ is))
