-- A tree without a fault is well formed.
use Rattle.std.proofs.Common.{◌≡◌, ℕ, ◌^◌, ◌<◌, ◌≤◌, List, length, Bool, true, false, refl, arith}
use Rattle.symbols_ast.specs.declared.tree.arena.Node.{Node}
use Rattle.symbols_ast.specs.declared.graph.faults.TreeFault.TheVariants.{NoProgram, TooManyNodes, BadChild, SharedChild, BadShape}
use Rattle.symbols_ast.specs.TreeFaults.{IsFaultlessTree}
use Rattle.symbols_ast.specs.WellFormed.{IsWellFormedTree}
use Rattle.symbols_graph.proofs.DepthLemmas.{child_order, no_lower_parent}

-- A test that isn't true is false, and one that isn't false is true.
is_false : (b : Bool) → (b ≡ true → ⊥) → b ≡ false
is_false true refused = absurd (refused refl)
is_false false refused = refl

is_true : (b : Bool) → (b ≡ false → ⊥) → b ≡ true
is_true true refused = refl
is_true false refused = absurd (refused refl)

pub well_formed_where_faultless : (text : List ℕ) (nodes : List Node) → IsFaultlessTree text nodes → IsWellFormedTree nodes
well_formed_where_faultless text nodes none = record {
  begins = is_true _ (none NoProgram);
  few = let some : 2 ^ 32 ≤ length nodes → ⊥ = none TooManyNodes in omega arith;
  ordered = λ m c _ child. child_order nodes m c (none (BadChild m)) child;
  has_one_parent = λ m q c _ _ child child'.
      let not_below : m < q → ⊥ = λ lower. no_lower_parent nodes m q c (none (SharedChild q)) lower child child' in
      let not_ancestor : q < m → ⊥ = λ lower. no_lower_parent nodes q m c (none (SharedChild m)) lower child' child in
      omega arith;
  is_well_shaped = λ n. is_false _ (none (BadShape n));
}
