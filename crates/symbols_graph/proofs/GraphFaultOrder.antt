-- The faults of a graph, rank by rank.
use Rattle.std.proofs.Common.{◌≡◌, ◌≢◌, ℕ, zero, suc, ◌+◌, ◌<◌, ◌≤◌, ◌^◌, ◌⊎◌, ⊎_elim, List, length, subst, ◌∙◌, arith}
use Rattle.std.specs.Prelude.{string_bytes}
use Rattle.symbols_ast.specs.declared.graph.faults.TreeFault.{TreeFault}
use Rattle.symbols_ast.specs.declared.graph.faults.GraphFault.{GraphFault}
use Rattle.symbols_ast.specs.declared.graph.faults.GraphFault.TheVariants as fault
use Rattle.symbols_ast.specs.Graph.{GraphView}
use Rattle.symbols_graph.specs.GraphFaults.{module_specifiers, redirect_sources, resolution_keys, IsRedirectToRedirect}
use Rattle.symbols_graph.specs.GraphFaults.{IsTreeFaultAt, IsFaultAt, graph_fault_rank, IsFaultlessGraph, IsFirstGraphFault}
use Rattle.symbols_graph.specs.Repeats.{IsRepeatedEntryAt}
use Rattle.symbols_graph.specs.inner.CheckSteps.{HasNoGraphFaultOfRank, IsFirstGraphFaultOfRank}

-- The condition of a fault of this rank at entry i.
abbrev pub AtRank : GraphView → ℕ → ℕ → Type 0
AtRank graph zero i = 2 ^ 32 ≤ length graph.modules
AtRank graph (suc zero) i = (x : List ℕ) × IsRepeatedEntryAt (module_specifiers graph.modules) i x
AtRank graph (suc (suc zero)) i = (x : List ℕ) × IsRepeatedEntryAt (redirect_sources graph.redirects) i x
AtRank graph (suc (suc (suc zero))) i = (x : List ℕ) × IsRedirectToRedirect graph.redirects i x
AtRank graph (suc (suc (suc (suc zero)))) i = (x : List ℕ × List ℕ) × IsRepeatedEntryAt (resolution_keys graph.resolutions) i x
AtRank graph (suc (suc (suc (suc (suc _))))) i = (x : List ℕ × TreeFault) × IsTreeFaultAt graph.modules i x

at_rank : (graph : GraphView) (i : ℕ) (f : GraphFault) → IsFaultAt graph i f → AtRank graph (graph_fault_rank f) i
at_rank graph i fault.OutOfMemory occurs = absurd occurs
at_rank graph i fault.TooManyModules occurs = occurs
at_rank graph i (fault.DuplicateSpecifier s) occurs = (string_bytes s, occurs)
at_rank graph i (fault.DuplicateRedirect s) occurs = (string_bytes s, occurs)
at_rank graph i (fault.RedirectToRedirect s) occurs = (string_bytes s, occurs)
at_rank graph i (fault.DuplicateResolution r t) occurs = ((string_bytes r, string_bytes t), occurs)
at_rank graph i (fault.Tree s found) occurs = ((string_bytes s, found), occurs)

module _ (graph : GraphView) (at : ℕ) where
  -- If the condition of the rank holds at no entry, the graph has no fault of this rank.
  pub none_of : ((i : ℕ) → AtRank graph at i → ⊥) → HasNoGraphFaultOfRank graph at
  none_of none i f is occurs = none i (subst (λ p. AtRank graph p i) is (at_rank graph i f occurs))

  -- If the graph has the fault, and its rank's condition holds at no earlier entry, it is the first of its rank.
  pub first_of_rank : (g : GraphFault) → graph_fault_rank g ≡ at → (j : ℕ) → IsFaultAt graph j g → ((i : ℕ) → i < j → AtRank graph at i → ⊥)
      → IsFirstGraphFaultOfRank graph at g
  first_of_rank g of j occurs none _ = (of, (j, occurs, λ i f is below other. none i below (subst (λ p. AtRank graph p i) is (at_rank graph i f other))))

-- The graph has no fault of a lower rank.
abbrev pub NoneBefore : GraphView → ℕ → Type 0
NoneBefore graph at = (i : ℕ) (f : GraphFault) → graph_fault_rank f < at → IsFaultAt graph i f → ⊥

module _ (graph : GraphView) where
  -- No fault has a rank lower than 0.
  pub none_before_first : NoneBefore graph 0
  none_before_first i f below occurs = absurd (omega (arith, below))

  -- If the graph has no fault of a lower rank and none of this rank, it has none below the next rank.
  pub none_before_more : (at : ℕ) → NoneBefore graph at → HasNoGraphFaultOfRank graph at → NoneBefore graph (at + 1)
  none_before_more at before here i f below occurs = ⊎_elim (λ lower. before i f lower occurs) (λ is. here i f is occurs) (split (graph_fault_rank f) at below)
    where
      split : (p at : ℕ) → p < at + 1 → (p < at) ⊎ (p ≡ at)
      split p at below = grind arith

  -- The first fault of a rank is the first of all, if there is none of a lower rank.
  pub first_of_all : (at : ℕ) (g : GraphFault) → NoneBefore graph at → IsFirstGraphFaultOfRank graph at g → g ≢ fault.OutOfMemory → IsFirstGraphFault graph g
  first_of_all at g before first some =
      let found = first some in (
        found.1.0,
        found.1.1,
        λ i f earlier occurs.
            ⊎_elim (λ lower. before i f (omega (arith, found.0, lower)) occurs) (λ same. found.1.2 i f (same.0 ∙ found.0) same.1 occurs) earlier,
      )

  -- A graph without a fault of any rank is faultless.
  pub none_at_all : NoneBefore graph 6 → IsFaultlessGraph graph
  none_at_all before i f occurs = before i f (early f) occurs
    where
      early : (f : GraphFault) → graph_fault_rank f < 6
      early fault.OutOfMemory = omega arith
      early fault.TooManyModules = omega arith
      early (fault.DuplicateSpecifier s) = omega arith
      early (fault.DuplicateRedirect s) = omega arith
      early (fault.RedirectToRedirect s) = omega arith
      early (fault.DuplicateResolution r t) = omega arith
      early (fault.Tree s found) = omega arith
