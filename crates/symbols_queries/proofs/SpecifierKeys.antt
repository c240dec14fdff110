-- The list of specifiers that a set with a first one shows.
use Rattle.std.proofs.Common.{◌≡◌, ℕ, suc, Bool, true, false, ◌||◌, List, [], ◌∷◌, ◌++◌, slice_get}
use Rattle.std.proofs.Common.{option_map, refl, sym, ap, ◌∙◌}
use Rattle.std.specs.Prelude.{if◌then◌else◌}
use Rattle.std.specs.Borrow.{Bor}
use Rattle.std.specs.List.{list_any}
use Rattle.std.specs.Str.{bytes_eq}
use Rattle.std.proofs.lemmas.List.{map-append}
use Rattle.std.proofs.lemmas.Option.{slice_get-map}
use Rattle.indexmap.specs.IndexSet.{insert_key}
use Rattle.symbols_root.specs.Specifiers.{contains_specifier}
use Rattle.symbols_answers.specs.Questions.{append_specifier_if_absent}
use Rattle.symbols_queries.specs.inner.SpecifierLists.{specifiers_of_keys}

-- a specifier after the first
pub later_at : (first : List ℕ) (keys : List (Bor (List ℕ))) (index before : ℕ) → index ≡ suc before
    → slice_get (first ∷ specifiers_of_keys keys) index ≡ option_map (λ (key : Bor (List ℕ)). key.now) (slice_get keys before)
later_at first keys index before is =
    ap (slice_get (first ∷ specifiers_of_keys keys)) is ∙ slice_get-map (λ (key : Bor (List ℕ)). key.now) keys before

among_keys : (keys : List (Bor (List ℕ))) (q : List ℕ)
    → list_any (λ (key : Bor (List ℕ)). bytes_eq q key.now) keys ≡ contains_specifier (specifiers_of_keys keys) q
among_keys [] q = refl
among_keys (key ∷ keys) q = ap (λ b. bytes_eq q key.now || b) (among_keys keys q)

inserted : (keys : List (Bor (List ℕ))) (key : Bor (List ℕ))
    → specifiers_of_keys (insert_key (λ (x y : Bor (List ℕ)). bytes_eq x.now y.now) keys key) ≡ append_specifier_if_absent (specifiers_of_keys keys) key.now
inserted keys key = by (list_any (λ (x : Bor (List ℕ)). bytes_eq key.now x.now) keys) (contains_specifier (specifiers_of_keys keys) key.now)
    (among_keys keys key.now)
  where
    by : (b c : Bool) → b ≡ c
        → specifiers_of_keys (if b then keys else keys ++ key ∷ []) ≡ (if c then specifiers_of_keys keys else specifiers_of_keys keys ++ key.now ∷ [])
    by b c same = from b ∙ ap (λ d. if d then specifiers_of_keys keys else specifiers_of_keys keys ++ key.now ∷ []) same
      where
        from : (d : Bool) → specifiers_of_keys (if d then keys else keys ++ key ∷ []) ≡ (if d then specifiers_of_keys keys
            else specifiers_of_keys keys ++ key.now ∷ [])
        from true = refl
        from false = map-append (λ (x : Bor (List ℕ)). x.now) keys (key ∷ [])

-- the list after another specifier than the first was inserted in the set
pub added_other : (first : List ℕ) (keys new : List (Bor (List ℕ))) (key : Bor (List ℕ)) → bytes_eq key.now first ≡ false
    → new ≡ insert_key (λ (x y : Bor (List ℕ)). bytes_eq x.now y.now) keys key
    → first ∷ specifiers_of_keys new ≡ append_specifier_if_absent (first ∷ specifiers_of_keys keys) key.now
added_other first keys new key other is =
    ap (λ (ks : List (Bor (List ℕ))). first ∷ specifiers_of_keys ks) is
    ∙ (ap (λ (xs : List (List ℕ)). first ∷ xs) (inserted keys key) ∙ (by (contains_specifier (specifiers_of_keys keys) key.now)
    ∙ ap (λ b. if (b || contains_specifier (specifiers_of_keys keys) key.now) then first ∷ specifiers_of_keys keys
    else first ∷ specifiers_of_keys keys ++ key.now ∷ []) (sym other)))
  where
    by : (b : Bool) → first ∷ (if b then specifiers_of_keys keys else specifiers_of_keys keys ++ key.now ∷ [])
        ≡ (if b then first ∷ specifiers_of_keys keys else first ∷ specifiers_of_keys keys ++ key.now ∷ [])
    by true = refl
    by false = refl

-- the first specifier is in the list already
pub added_first : (first : List ℕ) (keys : List (Bor (List ℕ))) (s : List ℕ) → bytes_eq s first ≡ true
    → first ∷ specifiers_of_keys keys ≡ append_specifier_if_absent (first ∷ specifiers_of_keys keys) s
added_first first keys s same =
    ap (λ b. if (b || contains_specifier (specifiers_of_keys keys) s) then first ∷ specifiers_of_keys keys
    else first ∷ specifiers_of_keys keys ++ s ∷ []) (sym same)
