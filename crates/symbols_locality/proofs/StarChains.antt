-- Chains of `export *` statements are the same if the statements are the same in all modules that are reached.
use Rattle.std.proofs.Common.{◌≡◌, ℕ, List, [], ◌∷◌, take, get_or, Option, None, Some, refl, sym, ap, subst, ◌∙◌}
use Rattle.std.specs.Option.{option_and_then}
use Rattle.symbols_exports.specs.Chains.{StarTargets, star_target_at, chain_end_module, IsSimpleChain, IsLeastChain, IsReachedByStars}
use Rattle.symbols_exports.specs.Exports.{ExplicitExports}
use Rattle.symbols_locality.proofs.StarReach.{IsReachedAlongStars, at_start, by_star, AreAlikeAlongStars}

-- ---- chains from one graph are chains in the other

module _ (s t : StarTargets) (start : List ℕ) (same : (v : List ℕ) → IsReachedAlongStars s start v → s v ≡ t v) where
  pub same_target : (u : List ℕ) → IsReachedAlongStars s start u → (k : ℕ) → star_target_at s u k ≡ star_target_at t u k
  same_target u along k = ap (λ (list : List (Option (List ℕ))). get_or list k None) (same u along)

  pub same_end : (u : List ℕ) → IsReachedAlongStars s start u → (chain : List ℕ) → chain_end_module s u chain ≡ chain_end_module t u chain
  same_end u along [] = refl
  same_end u along (k ∷ remaining) =
      by (star_target_at s u k) refl (λ v along_v. same_end v along_v remaining)
      ∙ ap (option_and_then (λ w. chain_end_module t w remaining)) (same_target u along k)
    where
      by : (found : Option (List ℕ)) → star_target_at s u k ≡ found
          → ((v : List ℕ) → IsReachedAlongStars s start v → chain_end_module s v remaining ≡ chain_end_module t v remaining)
          → option_and_then (λ w. chain_end_module s w remaining) found ≡ option_and_then (λ w. chain_end_module t w remaining) found
      by None is further = refl
      by (Some v) is further = further v (by_star u k along is)

  pub other_along : (v : List ℕ) → IsReachedAlongStars t start v → IsReachedAlongStars s start v
  other_along v at_start = at_start
  other_along v (by_star u k along is) = let here = other_along u along in by_star u k here (same_target u here k ∙ is)

  pub simple_there : (chain end : List ℕ) → IsSimpleChain s start chain end → IsSimpleChain t start chain end
  simple_there chain end simple = record {
    ends_at = sym (same_end start at_start chain) ∙ simple.ends_at;
    has_no_duplicates = λ j k j_in k_in e. simple.has_no_duplicates j k j_in k_in (same_end start at_start (take j chain) ∙
        (e ∙ sym (same_end start at_start (take k chain))));
  }

-- the end of a chain is reached along `export *`
pub chain_along : (s : StarTargets) (start u : List ℕ) → IsReachedAlongStars s start u → (chain end : List ℕ) → chain_end_module s u chain ≡ Some end
    → IsReachedAlongStars s start end
chain_along s start u along [] end is = subst (IsReachedAlongStars s start) (some_is is) along
  where
    some_is : {x y : List ℕ} → Some x ≡ Some y → x ≡ y
    some_is e = cc
chain_along s start u along (k ∷ remaining) end is = by (star_target_at s u k) refl is (λ v along_v. chain_along s start v along_v remaining end)
  where
    by : (found : Option (List ℕ)) → star_target_at s u k ≡ found → option_and_then (λ w. chain_end_module s w remaining) found ≡ Some end
        → ((v : List ℕ) → IsReachedAlongStars s start v → chain_end_module s v remaining ≡ Some end → IsReachedAlongStars s start end)
        → IsReachedAlongStars s start end
    by None at e further = absurd cc
    by (Some v) at e further = further v (by_star u k along at) e

pub swapped : (s : StarTargets) (o : ExplicitExports) (t : StarTargets) (p : ExplicitExports) (start : List ℕ) → AreAlikeAlongStars s o t p start
    → AreAlikeAlongStars t p s o start
swapped s o t p start alike = record {
  same_statements = λ v along. sym (alike.same_statements v (other_along s t start alike.same_statements v along));
  same_explicit = λ v along. sym (alike.same_explicit v (other_along s t start alike.same_statements v along));
}

-- ---- so are least chains

module _ (s : StarTargets) (o : ExplicitExports) (t : StarTargets) (p : ExplicitExports) (start : List ℕ) (alike : AreAlikeAlongStars s o t p start) where
  back : (chain end : List ℕ) → IsSimpleChain t start chain end → IsSimpleChain s start chain end
  back = simple_there t s start (swapped s o t p start alike).same_statements

  pub least_there : (chain end : List ℕ) → IsLeastChain s start chain end → IsLeastChain t start chain end
  least_there chain end least = record {
    is_chain = simple_there s t start alike.same_statements chain end least.is_chain;
    least = λ other simple. least.least other (back other end simple);
  }

  pub reached_there : (end : List ℕ) → IsReachedByStars s start end → IsReachedByStars t start end
  reached_there end reached = (reached.0, simple_there s t start alike.same_statements reached.0 end reached.1)

-- a module at the end of a simple chain is reached along `export *`
pub reached_along : (s : StarTargets) (start end : List ℕ) → IsReachedByStars s start end → IsReachedAlongStars s start end
reached_along s start end reached = chain_along s start start at_start reached.0 end reached.1.ends_at
