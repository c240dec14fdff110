-- The function that computes the list gives exactly the dependencies.
use Rattle.std.proofs.Common.{◌≡◌, ℕ, zero, suc, ◌+◌, ◌≤◌, Bool, true, false, List, [], ◌∷◌, ◌++◌, map, length, Some, refl, arith, append_assoc, unwrap_or}
use Rattle.std.specs.Prelude.{slice_get, if◌then◌else◌}
use Rattle.std.proofs.lemmas.List.{append-nil}
use Rattle.symbols_nodes.specs.declared.deps.dep.ReferenceNamespace.{ReferenceNamespace}
use Rattle.symbols_nodes.specs.declared.deps.dep.ResolveDepsMode.{ResolveDepsMode}
use Rattle.symbols_deps.specs.DepPaths.{ReferenceGraphVertex, ReferenceGraphStep, is_step_followed_in_mode, ReferenceGraph, DependencyOccurrence}
use Rattle.symbols_deps.specs.DepPaths.{AreAllDependencyOccurrencesInOrder}
use Rattle.symbols_deps.specs.DepPaths.{occurrences_at_vertex, prepend_step, occurrences_after_steps, occurrences_within_steps, path_length_bound}
use Rattle.symbols_deps.proofs.PathLists.{AreAt, at_vertex, AreAfter, before_any, after_closed, after_open, after_all}
use Rattle.symbols_deps.proofs.StepLemmas.{IsBelow, levels_at, levels_below}

-- Every step enters a node of a greater number in the same tree.
abbrev pub GoesDown : ReferenceGraph → Type 0
GoesDown graph = (vertex : ReferenceGraphVertex) (i : ℕ) (step : ReferenceGraphStep) → slice_get (graph.steps vertex) i ≡ Some step
    → IsBelow vertex.node step.to.node

module _ (graph : ReferenceGraph) (mode : ResolveDepsMode) (namespace : ReferenceNamespace) (all_of : List ReferenceGraphStep) (inner : ReferenceNamespace
    → ReferenceGraphVertex
    → List DependencyOccurrence) where
  at_step : (i : ℕ) (step : ReferenceGraphStep) (all : List DependencyOccurrence) (test : Bool) → is_step_followed_in_mode mode step ≡ test
      → slice_get all_of i ≡ Some step
      → AreAt graph mode (unwrap_or step.mark namespace) step.to (inner (unwrap_or step.mark namespace) step.to)
      → AreAfter graph mode namespace all_of i all
      → AreAfter graph mode namespace all_of (i + 1) (all ++ (if test then map (prepend_step i) (inner (unwrap_or step.mark namespace) step.to) else []))
  at_step i step all true is occurs deeper so_far =
      after_open graph mode namespace all_of i step all (inner (unwrap_or step.mark namespace) step.to) occurs is so_far deeper
  at_step i step all false is occurs deeper so_far = rw (append-nil all) (after_closed graph mode namespace all_of i step all occurs is so_far)

  at_steps : (i : ℕ) (steps : List ReferenceGraphStep) (all : List DependencyOccurrence)
      → ((k : ℕ) (step : ReferenceGraphStep) → slice_get steps k ≡ Some step → slice_get all_of (i + k) ≡ Some step)
      → ((k : ℕ) (step : ReferenceGraphStep) → slice_get steps k ≡ Some step
      → AreAt graph mode (unwrap_or step.mark namespace) step.to (inner (unwrap_or step.mark namespace) step.to))
      → AreAfter graph mode namespace all_of i all
      → AreAfter graph mode namespace all_of (i + length steps) (all ++ occurrences_after_steps mode inner namespace i steps)
  at_steps i [] all occur deeper so_far = rw (append-nil all) (let e : i + 0 ≡ i = omega arith in rw e so_far)
  at_steps i (step ∷ steps) all occur deeper so_far =
      let here = if is_step_followed_in_mode mode step then map (prepend_step i) (inner (unwrap_or step.mark namespace) step.to) else [] in
      let occurs : slice_get all_of i ≡ Some step = (let e : i + 0 ≡ i = omega arith in rw e at (occur 0 step refl)) in
      let next = at_step i step all (is_step_followed_in_mode mode step) refl occurs (deeper 0 step refl) so_far in
      let rest = at_steps (i + 1) steps (all ++ here)
      (λ k s is. let e : i + suc k ≡ i + 1 + k = omega arith in rw e at (occur (suc k) s is))
      (λ k s is. deeper (suc k) s is) next in
      let e : i + 1 + length steps ≡ i + suc (length steps) = omega arith in
      rw (← append_assoc all here (occurrences_after_steps mode inner namespace (i + 1) steps)) (rw e at rest)

no_levels : (graph : ReferenceGraph) (mode : ResolveDepsMode) (namespace : ReferenceNamespace) (steps : List ReferenceGraphStep) → path_length_bound steps ≤ 0
    → AreAllDependencyOccurrencesInOrder graph mode namespace steps []
no_levels graph mode namespace [] enough = after_all graph mode namespace [] 0 [] (omega arith) (before_any graph mode namespace [])
no_levels graph mode namespace (step ∷ steps) enough = absurd (omega arith)

pub computed_are : (graph : ReferenceGraph) (mode : ResolveDepsMode) → GoesDown graph
    → (levels : ℕ) (namespace : ReferenceNamespace) (steps : List ReferenceGraphStep)
    → path_length_bound steps ≤ levels
    → AreAllDependencyOccurrencesInOrder graph mode namespace steps (occurrences_within_steps graph mode levels namespace steps)
unfolding occurrences_within_steps
computed_are graph mode below zero namespace steps enough = no_levels graph mode namespace steps enough
computed_are graph mode below (suc levels) namespace steps enough =
    let inner = λ (marked : ReferenceNamespace) (vertex : ReferenceGraphVertex). occurrences_at_vertex marked (graph.reference vertex)
    ++ occurrences_within_steps graph mode levels marked (graph.steps vertex) in
    after_all graph mode namespace steps (0 + length steps) (occurrences_after_steps mode inner namespace 0 steps) (omega arith)
    (at_steps graph mode namespace steps inner 0 steps []
    (λ k step is. let e : 0 + k ≡ k = omega arith in rw e is)
    (λ k step is.
    let marked = unwrap_or step.mark namespace in
    let here = levels_at steps k step is in
    let deeper = levels_below step.to.node (graph.steps step.to) (below step.to) in
    at_vertex graph mode marked step.to (occurrences_within_steps graph mode levels marked (graph.steps step.to))
    (computed_are graph mode below levels marked (graph.steps step.to) (omega arith)))
    (before_any graph mode namespace steps))
