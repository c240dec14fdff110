-- Chains of `export *` statements: lists of indexes, each of a statement of the module that the statements before it reach.
use Rattle.std.specs.Prelude.{◌≡◌, ℕ, ◌<◌, ◌≤◌, ◌⊎◌, List, [], ◌∷◌, length, take, Contains, AllPairs, ◌↔◌, Option, None, Some, slice_index_or}
use Rattle.std.specs.Option.{option_and_then}

-- for each module, by its specifier, the module that each of its statements resolves to, if it resolves to one
abbrev pub StarTargets : Type 0
StarTargets = List ℕ → List (Option (List ℕ))

-- the module that the statement at the index resolves to; none if it is unresolved or there is no such statement
abbrev pub star_target_at : StarTargets → List ℕ → ℕ → Option (List ℕ)
star_target_at statements specifier position = slice_index_or (statements specifier) position None

-- the module at the end of the chain from a module; none if one of its statements is unresolved or missing
abbrev pub chain_end_module : StarTargets → List ℕ → List ℕ → Option (List ℕ)
chain_end_module statements specifier [] = Some specifier
chain_end_module statements specifier (position ∷ rest) =
    option_and_then (λ next. chain_end_module statements next rest) (star_target_at statements specifier position)

-- a chain from one module to another that visits no module twice
pub record IsSimpleChain (statements : StarTargets) (start : List ℕ) (chain : List ℕ) (end : List ℕ) : Type 0 where
  pub ends_at : chain_end_module statements start chain ≡ Some end
  pub has_no_duplicates : (j k : ℕ) → j ≤ length chain → k ≤ length chain
      → chain_end_module statements start (take j chain) ≡ chain_end_module statements start (take k chain) → j ≡ k

-- chain order: the first index that differs decides, and a proper prefix of a chain comes before it
abbrev pub IsChainBefore : List ℕ → List ℕ → Type 0
IsChainBefore _ [] = ⊥
IsChainBefore [] (_ ∷ _) = Unit {0}
IsChainBefore (i ∷ chain) (j ∷ other) = (i < j) ⊎ ((i ≡ j) × IsChainBefore chain other)

abbrev pub IsChainBeforeOrEqual : List ℕ → List ℕ → Type 0
IsChainBeforeOrEqual chain other = (chain ≡ other) ⊎ IsChainBefore chain other

-- the first in chain order of the simple chains to the module
pub record IsLeastChain (statements : StarTargets) (start : List ℕ) (chain : List ℕ) (end : List ℕ) : Type 0 where
  pub is_chain : IsSimpleChain statements start chain end
  pub least : (other : List ℕ) → IsSimpleChain statements start other end → IsChainBeforeOrEqual chain other

-- some simple chain ends at the module
abbrev pub IsReachedByStars : StarTargets → List ℕ → List ℕ → Type 0
IsReachedByStars statements start end = (chain : List ℕ) × IsSimpleChain statements start chain end

-- the reachable modules, each with its least chain, in chain order
pub record AreReachedByStars (statements : StarTargets) (start : List ℕ) (visited : List (List ℕ × List ℕ)) : Type 0 where
  pub all : (chain end : List ℕ) → Contains visited (chain, end) ↔ IsLeastChain statements start chain end
  pub reached : (end : List ℕ) → IsReachedByStars statements start end → (chain : List ℕ) × Contains visited (chain, end)
  pub ordered : AllPairs (λ x y. IsChainBefore x.0 y.0) visited
