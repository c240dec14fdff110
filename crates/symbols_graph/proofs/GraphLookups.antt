-- Lookups in the maps of a graph give what the lists in its view give.
use Rattle.std.proofs.Common.{◌≡◌, ℕ, Bool, true, false, cond, ◌&&◌, List, [], ◌∷◌, Option, None, Some, get_or, drop, map, find, refl, sym, ap, ◌∙◌}
use Rattle.std.specs.Prelude.{String, string_bytes, option_and_then, unwrap_or}
use Rattle.std.specs.Global.{Global}
use Rattle.std.specs.List.{IsDistinct, AllByRecursion}
use Rattle.std.specs.Map.{lookup, keys_of}
use Rattle.std.specs.Option.{option_map, option_or}
use Rattle.std.specs.Str.{bytes_eq}
use Rattle.std.specs.String.{string_eq}
use Rattle.std.proofs.lemmas.List.Folds.{find-append}
use Rattle.std.proofs.lemmas.Slice.Eq.{bytes_eq-Decides}
use Rattle.symbols_ast.specs.Graph.{ModuleView, Resolution, find_resolved_specifier, module_after_redirect}
use Rattle.symbols_graph.specs.Tables.{StringMap, resolutions_of_referrer, resolutions_of_map_entries, string_pairs_bytes}
use Rattle.symbols_graph.specs.inner.Tables.{AreKeyedBySpecifier}

-- A lookup of a redirect's target in the map is one in the list.
pub lookup-string_pairs_bytes : (s : List ℕ) (es : List (String Global × String Global))
    → lookup (bytes_eq s) (string_pairs_bytes es) ≡ option_map string_bytes (lookup (λ k. bytes_eq s (string_bytes k)) es)
lookup-string_pairs_bytes s [] = refl
lookup-string_pairs_bytes s (e ∷ es) = by (bytes_eq s (string_bytes e.0)) (lookup-string_pairs_bytes s es)
  where
    by : (b : Bool) → lookup (bytes_eq s) (string_pairs_bytes es) ≡ option_map string_bytes (lookup (λ k. bytes_eq s (string_bytes k)) es)
        → cond b (Some (string_bytes e.1)) (lookup (bytes_eq s) (string_pairs_bytes es))
        ≡ option_map string_bytes (cond b (Some e.1) (lookup (λ k. bytes_eq s (string_bytes k)) es))
    by true rest = refl
    by false rest = rest

-- A search for a module by its specifier is a lookup, if each module's key is its specifier.
pub find-keyed : (s : List ℕ) (es : List (String Global × ModuleView)) → AreKeyedBySpecifier es
    → find (λ m. bytes_eq s m.specifier) (map (λ e. e.1) es) ≡ lookup (λ k. bytes_eq s (string_bytes k)) es
find-keyed s [] keyed = refl
find-keyed s (e ∷ es) keyed =
    ap (λ n. cond (bytes_eq s n) (Some e.1) (find (λ m. bytes_eq s m.specifier) (map (λ x. x.1) es))) (sym (ap (λ ns. get_or ns 0 []) keyed))
    ∙ ap (cond (bytes_eq s (string_bytes e.0)) (Some e.1)) (find-keyed s es (ap (drop 1) keyed))

-- The module of a specifier, after one redirect.
pub module_found : (modules : List (String Global × ModuleView)) (redirects : List (String Global × String Global)) (resolutions : List Resolution)
    → AreKeyedBySpecifier modules → (s name : List ℕ) → unwrap_or (option_map string_bytes (lookup (λ k. bytes_eq s (string_bytes k)) redirects)) s ≡ name
    → lookup (λ k. bytes_eq name (string_bytes k)) modules
    ≡ module_after_redirect (record { modules = map (λ e. e.1) modules; redirects = string_pairs_bytes redirects; resolutions = resolutions }) s
module_found modules redirects resolutions keyed s name is =
    sym (find-keyed name modules keyed) ∙ sym (ap (λ n. find (λ m. bytes_eq n m.specifier) (map (λ e. e.1) modules))
    (ap (λ o. unwrap_or o s) (lookup-string_pairs_bytes s redirects) ∙ is))

module _ (r t : List ℕ) where
  -- The resolution has the queried referrer and specifier text.
  abbrev predicate : Resolution → Bool
  predicate z = bytes_eq r z.referrer && bytes_eq t z.specifier_text

  -- The resolution of an entry in the map of a referrer.
  abbrev row : String Global → String Global × String Global → Resolution
  row k x = record { referrer = string_bytes k; specifier_text = string_bytes x.0; specifier = string_bytes x.1 }

  -- For the queried referrer, the search in its entries is a lookup in its map.
  found_here : (k : String Global) → bytes_eq r (string_bytes k) ≡ true → (es : List (String Global × String Global))
      → option_map (λ z. z.specifier) (find predicate (map (row k) es)) ≡ option_map string_bytes (lookup (λ s. bytes_eq t (string_bytes s)) es)
  found_here k is [] = refl
  found_here k is (x ∷ es) = ap (λ b. option_map (λ (z : Resolution). z.specifier) (cond (b && bytes_eq t (string_bytes x.0)) (Some (row k x))
      (find predicate (map (row k) es)))) is ∙ by (bytes_eq t (string_bytes x.0)) (found_here k is es)
    where
      by : (b : Bool) → option_map (λ (z : Resolution). z.specifier) (find predicate (map (row k) es))
          ≡ option_map string_bytes (lookup (λ s. bytes_eq t (string_bytes s)) es)
          → option_map (λ (z : Resolution). z.specifier) (cond b (Some (row k x)) (find predicate (map (row k) es)))
          ≡ option_map string_bytes (cond b (Some x.1) (lookup (λ s. bytes_eq t (string_bytes s)) es))
      by true rest = refl
      by false rest = rest

  -- The entries of another referrer have no match.
  none_here : (k : String Global) → bytes_eq r (string_bytes k) ≡ false → (es : List (String Global × String Global)) → find predicate (map (row k) es) ≡ None
  none_here k is [] = refl
  none_here k is (x ∷ es) = ap (λ b. cond (b && bytes_eq t (string_bytes x.0)) (Some (row k x)) (find predicate (map (row k) es))) is ∙ none_here k is es

  -- If all remaining referrers are others, their entries have no match.
  none_there : (k : String Global) → bytes_eq r (string_bytes k) ≡ true → (es : List (String Global × StringMap (String Global)))
      → AllByRecursion (λ y. string_eq k y ≡ false) (keys_of es) → find predicate (resolutions_of_map_entries es) ≡ None
  none_there k is [] other_items = refl
  none_there k is (e ∷ es) other_items =
      find-append predicate (resolutions_of_referrer e) (resolutions_of_map_entries es) ∙ ap (λ o. option_or o (find predicate (resolutions_of_map_entries es)))
      (none_here e.0
      (ap (λ s. bytes_eq s (string_bytes e.0)) ((bytes_eq-Decides r (string_bytes k)).0 is) ∙ other_items.0) e.1.entries) ∙ none_there k is es other_items.1

  -- The value of the specifier text in an optional map.
  abbrev pub inside : Option (StringMap (String Global)) → Option (List ℕ)
  inside o = option_map string_bytes (option_and_then (λ table. lookup (λ s. bytes_eq t (string_bytes s)) table.entries) o)

  -- The lookup in the maps gives the result of the search in the list.
  pub rows_found : (es : List (String Global × StringMap (String Global))) → IsDistinct string_eq (keys_of es)
      → inside (lookup (λ s. bytes_eq r (string_bytes s)) es) ≡ find_resolved_specifier (resolutions_of_map_entries es) r t
  unfolding IsDistinct
  rows_found [] distinct = refl
  rows_found (e ∷ es) distinct =
      by (bytes_eq r (string_bytes e.0)) refl (rows_found es distinct.1)
      ∙ sym (ap (option_map (λ (z : Resolution). z.specifier)) (find-append predicate (resolutions_of_referrer e) (resolutions_of_map_entries es)))
    where
      or_none : {A : Type 0} (o : Option A) → option_or o None ≡ o
      or_none None = refl
      or_none (Some a) = refl

      by : (b : Bool) → bytes_eq r (string_bytes e.0) ≡ b
          → inside (lookup (λ s. bytes_eq r (string_bytes s)) es) ≡ find_resolved_specifier (resolutions_of_map_entries es) r t
          → inside (cond b (Some e.1) (lookup (λ s. bytes_eq r (string_bytes s)) es))
          ≡ option_map (λ (z : Resolution). z.specifier) (option_or (find predicate (resolutions_of_referrer e))
          (find predicate (resolutions_of_map_entries es)))
      by true is rest = sym (ap (λ o. option_map (λ (z : Resolution). z.specifier) (option_or (find predicate (resolutions_of_referrer e)) o)) (none_there e.0
          is es distinct.0) ∙ ap (option_map (λ (z : Resolution). z.specifier)) (or_none (find predicate (resolutions_of_referrer e)))
          ∙ found_here e.0 is e.1.entries)
      by false is rest = rest ∙ sym (ap (λ o. option_map (λ (z : Resolution). z.specifier) (option_or o (find predicate (resolutions_of_map_entries es))))
          (none_here e.0 is e.1.entries))
