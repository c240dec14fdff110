-- The loop that sets the depth of a list of nodes.
use Rattle.std.proofs.Common.{◌≡◌, ◌≢◌, ℕ, ◌+◌, ◌<◌, ◌≤◌, inl, inr, List, [], ◌∷◌, ◌++◌, length, get_or, take, refl, sym, ◌∙◌, subst, arith, below_more}
use Rattle.std.proofs.Math.ListN.{set, length-set}
use Rattle.std.specs.List.{Contains, SomeIndex}
use Rattle.std.proofs.lemmas.List.{get_or_default, get_or-set_same, get_or-set_other, take_more, take_all}
use Rattle.std.proofs.lemmas.List.Elements.{Contains-push, Contains-push_cases, Contains-append_left}
use Rattle.std.proofs.lemmas.Bool.Decides.{eqb_tells}
use Rattle.symbols_graph.specs.inner.Depths.{IsSharedChildByDepths, SetsDepth}

-- The first i nodes have their depth, and none of them is shared.
pub record HasGiven (ids old depths : List ℕ) (depth i : ℕ) : Type 0 where
  pub same_len : length depths ≡ length old
  pub given : SetsDepth old depths (take i ids) depth
  pub single : (j : ℕ) → j < i → IsSharedChildByDepths old ids j → ⊥

pub HasGiven-none : (ids old : List ℕ) (depth : ℕ) → HasGiven ids old old depth 0
HasGiven-none ids old depth = record {
  same_len = refl;
  given = λ c. inr (λ h. let below : h.0 < 0 = h.1 in absurd (omega arith), refl);
  single = λ j below. absurd (omega arith);
}

-- The depths after one more node is set.
SetsDepth-push : (old depths ids : List ℕ) (depth id : ℕ) → id < length depths → SetsDepth old depths ids depth
    → SetsDepth old (set depths id depth) (ids ++ id ∷ []) depth
SetsDepth-push old depths ids depth id inside given c = elim (eqb_tells id c) [
  | inl same ↦ inl (
    subst (λ x. Contains (ids ++ id ∷ []) x) same.1 (Contains-push ids id),
    subst (λ x. get_or (set depths id depth) x 0 ≡ depth) same.1 (get_or-set_same depths id depth 0 inside),
  )
  | inr other ↦
      let apart : c ≢ id = λ e. other.1 (sym e) in
      let stays = get_or-set_other depths id c depth 0 apart in
      elim (given c) [
        | inl h ↦ inl (Contains-append_left _ _ _ h.0, stays ∙ h.1)
        | inr h ↦ inr (λ k. elim (Contains-push_cases ids id c k) [ inl k' ↦ h.0 k' | inr e ↦ other.1 e ], stays ∙ h.1)
      ]
]

module _ (ids old depths : List ℕ) (depth i : ℕ) (h : HasGiven ids old depths depth i) where
  -- A node whose depth is not 1 at its turn is shared.
  pub shared_where_given : (get_or depths (get_or ids i 0) 0 ≡ 1 → ⊥) → IsSharedChildByDepths old ids i
  shared_where_given more = elim (h.given (get_or ids i 0)) [ inl k ↦ inr k.0 | inr k ↦ inl (λ e. more (k.1 ∙ e)) ]

  single_where_one : 2 ≤ depth → get_or depths (get_or ids i 0) 0 ≡ 1 → IsSharedChildByDepths old ids i → ⊥
  single_where_one deep one shared_already = elim (h.given (get_or ids i 0)) [
    | inl k ↦ omega (arith, k.1, one)
    | inr k ↦ elim shared_already [ inl more ↦ more (sym k.1 ∙ one) | inr twice ↦ k.0 twice ]
  ]

  pub HasGiven-more : (id : ℕ) → id ≡ get_or ids i id → 2 ≤ depth → i < length ids → id < length depths → get_or depths id 0 ≡ 1
      → HasGiven ids old (set depths id depth) depth (i + 1)
  HasGiven-more id at deep below inside one =
      let here : get_or ids i 0 ≡ id = get_or_default ids i 0 id below ∙ sym at in
      record {
        same_len = length-set depths id depth ∙ h.same_len;
        given = rw (take_more ids i 0 below, here) (SetsDepth-push old depths (take i ids) depth id inside h.given);
        single = below_more _ _ h.single (single_where_one deep (rw here one));
      }

  -- After the last node of the list, all have their depth.
  pub SetsDepth-whole : length ids ≤ i → SetsDepth old depths ids depth
  SetsDepth-whole end = let all : take i ids ≡ ids = take_all i ids end in rw all at h.given

  pub shared_unresolved : length ids ≤ i → SomeIndex ids (IsSharedChildByDepths old ids) → ⊥
  shared_unresolved end shared_already = h.single shared_already.0 (omega (arith, shared_already.1)) shared_already.2
