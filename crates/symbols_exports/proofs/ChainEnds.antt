-- The ends of chains.
use Rattle.std.proofs.Common.{◌≡◌, ℕ, zero, suc, ◌<◌, ◌⊎◌, inl, inr, List, [], ◌∷◌, ◌++◌, length, take, Option, None, Some, refl, sym, ◌∙◌, ap}
use Rattle.std.specs.Option.{option_and_then}
use Rattle.std.proofs.lemmas.Bool.{cases_lt}
use Rattle.std.proofs.lemmas.List.{get_or_past}
use Rattle.symbols_exports.specs.Chains.{StarTargets, star_target_at, chain_end_module}

pub none_or_some : (found : Option (List ℕ)) → (found ≡ None) ⊎ ((v : List ℕ) × (found ≡ Some v))
none_or_some None = inl refl
none_or_some (Some v) = inr (v, refl)

itself : (found : Option (List ℕ)) → option_and_then (λ v. Some v) found ≡ found
itself None = refl
itself (Some v) = refl

-- a chain with one more statement ends where that statement resolves to from the chain's end
end_by_last : (statements : StarTargets) (start : List ℕ) (chain : List ℕ) (k : ℕ)
    → chain_end_module statements start (chain ++ k ∷ []) ≡ option_and_then (λ v. star_target_at statements v k) (chain_end_module statements start chain)
end_by_last statements start [] k = itself (star_target_at statements start k)
end_by_last statements start (i ∷ chain) k =
    elim (star_target_at statements start i) as (λ found. option_and_then (λ v. chain_end_module statements v (chain ++ k ∷ [])) found
    ≡ option_and_then (λ v. star_target_at statements v k) (option_and_then (λ v. chain_end_module statements v chain) found)) [
      | None ↦ refl
      | Some v ↦ end_by_last statements v chain k
    ]

pub goes_further : (statements : StarTargets) (start u v : List ℕ) (chain : List ℕ) (k : ℕ) → chain_end_module statements start chain ≡ Some u
    → star_target_at statements u k ≡ Some v → chain_end_module statements start (chain ++ k ∷ []) ≡ Some v
goes_further statements start u v chain k ends_at next =
    end_by_last statements start chain k ∙ (ap (option_and_then (λ w. star_target_at statements w k)) ends_at ∙ next)

was_some : (f : List ℕ → Option (List ℕ)) (found : Option (List ℕ)) (v : List ℕ) → option_and_then f found ≡ Some v
    → (u : List ℕ) × (found ≡ Some u) × (f u ≡ Some v)
was_some f None v same = absurd cc
was_some f (Some u) v same = (u, refl, same)

pub ends_back : (statements : StarTargets) (start v : List ℕ) (chain : List ℕ) (k : ℕ) → chain_end_module statements start (chain ++ k ∷ []) ≡ Some v
    → (u : List ℕ) × (chain_end_module statements start chain ≡ Some u) × (star_target_at statements u k ≡ Some v)
ends_back statements start v chain k ends_at =
    was_some (λ w. star_target_at statements w k) (chain_end_module statements start chain) v (sym (end_by_last statements start chain k) ∙ ends_at)

pub beginning_ends : (statements : StarTargets) (start v : List ℕ) (chain : List ℕ) (k : ℕ) → chain_end_module statements start chain ≡ Some v
    → (u : List ℕ) × (chain_end_module statements start (take k chain) ≡ Some u)
beginning_ends statements start v chain zero ends_at = (start, refl)
beginning_ends statements start v [] (suc k) ends_at = (start, refl)
beginning_ends statements start v (i ∷ chain) (suc k) ends_at =
    let next = was_some (λ w. chain_end_module statements w chain) (star_target_at statements start i) v ends_at in
    let there = beginning_ends statements next.0 v chain k next.2 in
    (there.0, ap (option_and_then (λ w. chain_end_module statements w (take k chain))) next.1 ∙ there.1)

-- a resolved statement is one of its module
pub cursor_is_there : (statements : StarTargets) (u v : List ℕ) (k : ℕ) → star_target_at statements u k ≡ Some v → k < length (statements u)
cursor_is_there statements u v k ends_at = elim (cases_lt k (length (statements u))) [
  | inl below ↦ below
  | inr past ↦ let none : None ≡ Some v = sym (get_or_past (statements u) k None past) ∙ ends_at in absurd cc
]

-- so is the first statement of a chain that has an end
pub first_is_there : (statements : StarTargets) (start v : List ℕ) (k : ℕ) (rest : List ℕ) → chain_end_module statements start (k ∷ rest) ≡ Some v
    → k < length (statements start)
first_is_there statements start v k rest ends_at =
    let next = was_some (λ w. chain_end_module statements w rest) (star_target_at statements start k) v ends_at in
    cursor_is_there statements start next.0 k next.1
