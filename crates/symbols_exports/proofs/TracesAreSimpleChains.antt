-- The traces from a module are exactly its simple chains, and those with the index of an unresolved statement added, in chain order.
use Rattle.std.proofs.Common.{◌≡◌, ℕ, zero, suc, ◌+◌, ◌<◌, ◌≤◌, ◌⊎◌, inl, inr, Bool, true, false, List, []}
use Rattle.std.proofs.Common.{◌∷◌, ◌++◌, length, map, get_or, Option, None, Some, refl, sym, ap, subst, arith}
use Rattle.std.specs.Prelude.{Contains, if◌then◌else◌}
use Rattle.std.proofs.lemmas.Option.{none-some, same_Some}
use Rattle.std.proofs.lemmas.List.Elements.{Contains-append_left, Contains-append_right, Contains-append_cases}
use Rattle.symbols_root.specs.Specifiers.{contains_specifier}
use Rattle.symbols_exports.specs.Chains.{StarTargets, IsChainBefore}
use Rattle.symbols_exports.specs.Traces.{StarWalkVisit, visit_with_first_statement, visits_along_statements, star_walk_visits_from}
use Rattle.symbols_exports.proofs.SortedLists.{IsSorted, first_or_later, contains_first, contains_later}
use Rattle.symbols_exports.proofs.SortedLists.{contains_nothing, contains_mapped, mapped_from, sorted_both, sorted_map}

-- ---- along the statements of a module

abbrev pub leaf : List ℕ → ℕ → StarWalkVisit
leaf here k = record { chain = k ∷ []; end = here; unresolved_at = Some k }

abbrev pub ComesBefore : StarWalkVisit → StarWalkVisit → Type 0
ComesBefore x y = IsChainBefore x.chain y.chain

pub along_from : (further : List ℕ → List StarWalkVisit) (here : List ℕ) (p : ℕ) (statements : List (Option (List ℕ))) (w : StarWalkVisit)
    → Contains (visits_along_statements further here p statements) w
    → (k : ℕ) × (i : ℕ) × (k ≡ p + i) × (i < length statements) × (((get_or statements i None ≡ None) × (w ≡ leaf here k))
    ⊎ ((v : List ℕ) × (get_or statements i None ≡ Some v) × ((m : StarWalkVisit) × Contains (further v) m × (w ≡ visit_with_first_statement k m))))
along_from further here p [] w has = absurd (contains_nothing w has)
along_from further here p (None ∷ rest) w has = elim (first_or_later (leaf here p) (visits_along_statements further here (p + 1) rest) w has) [
  | inl is ↦ (p, 0, omega arith, omega arith, inl (refl, sym is))
  | inr later ↦ let from = along_from further here (p + 1) rest w later in (from.0, suc from.1, omega (arith, from.2), omega (arith, from.3), from.4)
]
along_from further here p (Some v ∷ rest) w has =
    elim (Contains-append_cases (map (visit_with_first_statement p) (further v)) (visits_along_statements further here (p + 1) rest) w has) [
      | inl here_on ↦ let from = mapped_from (visit_with_first_statement p) (further v) w here_on in
          (p, 0, omega arith, omega arith, inr (v, refl, (from.0, from.1, sym from.2)))
      | inr later ↦ let from = along_from further here (p + 1) rest w later in (from.0, suc from.1, omega (arith, from.2), omega (arith, from.3), from.4)
    ]

pub along_leaf : (further : List ℕ → List StarWalkVisit) (here : List ℕ) (p : ℕ) (statements : List (Option (List ℕ))) (i k : ℕ) → k ≡ p + i → i
    < length statements
    → get_or statements i None ≡ None → Contains (visits_along_statements further here p statements) (leaf here k)
along_leaf further here p [] i k at within none = absurd (omega (arith, within))
along_leaf further here p (None ∷ rest) zero k at within none = let same : p ≡ k = omega (arith, at) in
    subst (λ n. Contains (visits_along_statements further here p (None ∷ rest)) (leaf here n)) same
    (contains_first (leaf here p) (visits_along_statements further here (p + 1) rest))
along_leaf further here p (None ∷ rest) (suc i) k at within none = contains_later (leaf here p) (visits_along_statements further here (p + 1) rest)
    (leaf here k)
    (along_leaf further here (p + 1) rest i k (omega (arith, at)) (omega (arith, within)) none)
along_leaf further here p (Some v ∷ rest) zero k at within none = absurd (none-some v (sym none))
along_leaf further here p (Some v ∷ rest) (suc i) k at within none = Contains-append_right (map (visit_with_first_statement p) (further v))
    (visits_along_statements further here (p + 1) rest) (leaf here k) (along_leaf further here (p + 1) rest i k (omega (arith, at))
    (omega (arith, within)) none)

pub along_further : (further : List ℕ → List StarWalkVisit) (here : List ℕ) (p : ℕ) (statements : List (Option (List ℕ))) (i k : ℕ) (v : List ℕ)
    (m : StarWalkVisit)
    → k ≡ p + i
    → get_or statements i None ≡ Some v → Contains (further v) m → Contains (visits_along_statements further here p statements) (visit_with_first_statement k m)
along_further further here p [] i k v m at ends_at has = absurd (none-some v ends_at)
along_further further here p (None ∷ rest) zero k v m at ends_at has = absurd (none-some v ends_at)
along_further further here p (None ∷ rest) (suc i) k v m at ends_at has = contains_later (leaf here p) (visits_along_statements further here (p + 1) rest)
    (visit_with_first_statement k m) (along_further further here (p + 1) rest i k v m (omega (arith, at)) ends_at has)
along_further further here p (Some u ∷ rest) zero k v m at ends_at has =
    let same : p ≡ k = omega (arith, at) in
    let moved : Contains (further u) m = subst (λ q. Contains (further q) m) (sym (same_Some u v ends_at)) has in
    subst (λ n. Contains (visits_along_statements further here p (Some u ∷ rest)) (visit_with_first_statement n m)) same
    (Contains-append_left (map (visit_with_first_statement p) (further u))
    (visits_along_statements further here (p + 1) rest) (visit_with_first_statement p m) (contains_mapped (visit_with_first_statement p) (further u) m moved))
along_further further here p (Some u ∷ rest) (suc i) k v m at ends_at has = Contains-append_right (map (visit_with_first_statement p) (further u))
    (visits_along_statements further here (p + 1) rest) (visit_with_first_statement k m) (along_further further here (p + 1) rest i k v m
    (omega (arith, at)) ends_at has)

-- each begins with an index from the given one on
along_begins : (further : List ℕ → List StarWalkVisit) (here : List ℕ) (p : ℕ) (statements : List (Option (List ℕ))) (w : StarWalkVisit)
    → Contains (visits_along_statements further here p statements) w → (j : ℕ) × (c : List ℕ) × (w.chain ≡ j ∷ c) × (p ≤ j)
along_begins further here p statements w has =
    let from = along_from further here p statements w has in
    elim from.4 [
      | inl none ↦ (from.0, [], ap (λ (x : StarWalkVisit). x.chain) none.1, omega (arith, from.2))
      | inr some ↦ (from.0, some.2.0.chain, ap (λ (x : StarWalkVisit). x.chain) some.2.2, omega (arith, from.2))
    ]

along_sorted : (further : List ℕ → List StarWalkVisit) (here : List ℕ) → ((v : List ℕ) → IsSorted ComesBefore (further v))
    → (p : ℕ) (statements : List (Option (List ℕ))) → IsSorted ComesBefore (visits_along_statements further here p statements)
along_sorted further here sorted p [] = tt
along_sorted further here sorted p (None ∷ rest) = (first, along_sorted further here sorted (p + 1) rest)
  where
    first : (w : StarWalkVisit) → Contains (visits_along_statements further here (p + 1) rest) w → IsChainBefore (p ∷ []) w.chain
    first w has = let begins = along_begins further here (p + 1) rest w has in subst (IsChainBefore (p ∷ [])) (sym begins.2) (inl (omega (arith, begins.3)))
along_sorted further here sorted p (Some v ∷ rest) =
    sorted_both ComesBefore (map (visit_with_first_statement p) (further v)) (visits_along_statements further here (p + 1) rest)
    (sorted_map ComesBefore ComesBefore (visit_with_first_statement p) (λ x y less. inr (refl, less)) (further v) (sorted v))
    (along_sorted further here sorted (p + 1) rest)
    across
  where
    across : (x y : StarWalkVisit) → Contains (map (visit_with_first_statement p) (further v)) x → Contains
        (visits_along_statements further here (p + 1) rest) y
        → IsChainBefore x.chain y.chain
    across x y has_x has_y =
        let from = mapped_from (visit_with_first_statement p) (further v) x has_x in
        let begins = along_begins further here (p + 1) rest y has_y in
        subst (λ (z : StarWalkVisit). IsChainBefore z.chain y.chain) from.2
        (subst (IsChainBefore (p ∷ from.0.chain)) (sym begins.2) (inl (omega (arith, begins.3))))

pub traces_sorted : (statements : StarTargets) (n : ℕ) (before : List (List ℕ)) (here : List ℕ) → IsSorted ComesBefore
    (star_walk_visits_from statements n before here)
traces_sorted statements zero before here = tt
traces_sorted statements (suc n) before here =
    by (contains_specifier before here) (along_sorted further here (λ v. traces_sorted statements n (before ++ here ∷ []) v) 0 (statements here))
  where
    further : List ℕ → List StarWalkVisit
    further next = star_walk_visits_from statements n (before ++ here ∷ []) next

    first : (w : StarWalkVisit) → Contains (visits_along_statements further here 0 (statements here)) w → IsChainBefore [] w.chain
    first w has = let begins = along_begins further here 0 (statements here) w has in subst (IsChainBefore []) (sym begins.2) tt

    by : (b : Bool) → IsSorted ComesBefore (visits_along_statements further here 0 (statements here))
        → IsSorted ComesBefore (if b then [] else record { chain = []; end = here; unresolved_at = None } ∷ visits_along_statements further here 0
        (statements here))
    by true rest = tt
    by false rest = (first, rest)
