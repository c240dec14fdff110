use Rattle.std.proofs.Common.{refl, sym, arith}
use Rattle.symbols_graph.proofs.DepthLemmas.{depth_in_range, over_is_too_deep, AreDepthsAfterCheckedNodes-next}
use Rattle.symbols_graph.proofs.NodeSteps.{no_bad_child, children_inside, clear_of_bad, has_shared_child}
use Rattle.symbols_graph.proofs.NodeSteps.{clear_of_shared, has_bad_range, clear_of_range, clear_of_shape, clear_of_all}
use Rattle.symbols_graph.proofs.tree_check.first_fault_at.Goals as goal

pub overflow_add-depth : goal.overflow_add-depth
overflow_add-depth c = omega (arith, depth_in_range _ _ _ _ c.requires.clear c.requires.deep c.requires.room)

pub gives_twice-requires-clause-inside : goal.gives_twice-requires-clause-inside
gives_twice-requires-clause-inside c = children_inside _ _ _ c.requires.clear _ c.requires.listed c.if-any_bad_child.ensures _ c.requires.deep.covers

pub returns-then-gives_twice-clause-first : goal.returns-then-gives_twice-clause-first
returns-then-gives_twice-clause-first c = (
  has_shared_child _ _ _ c.requires.clear _ c.requires.listed c.if-any_bad_child.ensures _ c.requires.deep c.requires.room
      c.if-gives_twice.ensures.shared_already,
  clear_of_bad _ _ _ c.requires.clear _ c.requires.listed c.if-any_bad_child.ensures,
)

pub returns-then-not-lies_in-clause-first : goal.returns-then-not-lies_in-clause-first
returns-then-not-lies_in-clause-first c = (
  has_bad_range _ _ _ c.index-nodes-n.result c.requires.room c.if-not-lies_in.ensures,
  clear_of_shared _ _ _ c.requires.clear _ c.requires.listed c.if-any_bad_child.ensures _ c.requires.deep c.requires.room
      c.if-gives_twice.ensures.shared_already,
)

pub returns-then-has_misplaced_child_or_breaks_rule-clause-first : goal.returns-then-has_misplaced_child_or_breaks_rule-clause-first
returns-then-has_misplaced_child_or_breaks_rule-clause-first c = (
  sym c.if-has_misplaced_child_or_breaks_rule.ensures,
  clear_of_range _ _ _ c.requires.clear _ c.requires.listed c.if-any_bad_child.ensures _ c.requires.deep c.requires.room c.if-gives_twice.ensures.shared_already
      c.index-nodes-n.result c.if-not-lies_in.ensures,
)

pub returns-then-depth-gt-DEEPEST-clause-first : goal.returns-then-depth-gt-DEEPEST-clause-first
returns-then-depth-gt-DEEPEST-clause-first c = (
  over_is_too_deep _ _ _ _ c.requires.clear c.requires.deep c.requires.room c.if-depth-gt-DEEPEST.true,
  clear_of_shape _ _ _ c.requires.clear _ c.requires.listed c.if-any_bad_child.ensures _ c.requires.deep c.requires.room c.if-gives_twice.ensures.shared_already
      c.index-nodes-n.result c.if-not-lies_in.ensures c.if-has_misplaced_child_or_breaks_rule.ensures,
)

pub returns-clause-clear : goal.returns-clause-clear
returns-clause-clear c =
    clear_of_all _ _ _ c.requires.clear _ c.requires.listed c.if-any_bad_child.ensures _ c.requires.deep c.requires.room c.if-gives_twice.ensures.shared_already
    c.index-nodes-n.result c.if-not-lies_in.ensures c.if-has_misplaced_child_or_breaks_rule.ensures c.if-depth-gt-DEEPEST.false

pub returns-clause-deep : goal.returns-clause-deep
returns-clause-deep c =
    let fine = no_bad_child _ _ _ c.requires.clear _ c.requires.listed c.if-any_bad_child.ensures in
    AreDepthsAfterCheckedNodes-next _ _ _ _ c.requires.clear c.requires.deep c.requires.room fine c.gives_twice.new.depths c.if-gives_twice.ensures.len
    (rw c.requires.listed at c.if-gives_twice.ensures.given refl)
