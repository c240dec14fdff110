-- The first trace to each module in chain order: these are the reachable modules, each with its least chain, and no other list is.
use Rattle.std.proofs.Common.{◌≡◌, ℕ, ◌⊎◌, inl, inr, List, [], ◌∷◌, Option, None, Some, refl, sym, ap, subst, ◌∙◌}
use Rattle.std.specs.Prelude.{Contains, filter_map}
use Rattle.symbols_ast.specs.Graph.{GraphView}
use Rattle.symbols_exports.specs.Chains.{IsChainBefore, IsLeastChain, AreReachedByStars}
use Rattle.symbols_exports.specs.SharedNameLists.{module_reached_unless_unresolved, star_reached_modules_of}
use Rattle.symbols_exports.specs.StarStatements.{star_targets_of}
use Rattle.symbols_exports.specs.Traces.{StarWalkVisit, star_walk_visits_of, first_distinct_by, is_same_visit_end}
use Rattle.symbols_exports.proofs.TraceLists.{arrives, arrival_there}
use Rattle.symbols_exports.proofs.ChainOrder.{never_before_itself, before_then_before, same_both_traces}
use Rattle.symbols_exports.proofs.Cursors.{Visit, VisitsInOrder}
use Rattle.symbols_exports.proofs.SortedLists.{IsSorted, first_or_later, contains_first, contains_later}
use Rattle.symbols_exports.proofs.SortedLists.{contains_nothing, sorted_pairs, pairs_sorted, same_sorted, first_sorted}
use Rattle.symbols_exports.proofs.UnresolvedLists.{end_of, ends_here, all_sorted, was_trace, first_trace, first_up_to, least_there}
use Rattle.symbols_exports.proofs.TracesAreSimpleChains.{ComesBefore}

-- ---- the arrivals of traces

arrival_from : (traces : List StarWalkVisit) (m : Visit) → Contains (filter_map module_reached_unless_unresolved traces) m
    → Contains traces (record { chain = m.0; end = m.1; unresolved_at = None })
arrival_from [] m has = absurd (contains_nothing m has)
arrival_from (w ∷ traces) m has = by w.unresolved_at refl has (arrival_from traces m)
  where
    by : (unresolved_at : Option ℕ) → w.unresolved_at ≡ unresolved_at
        → Contains (filter_map module_reached_unless_unresolved (record { chain = w.chain; end = w.end; unresolved_at = unresolved_at } ∷ traces)) m
        → (Contains (filter_map module_reached_unless_unresolved traces) m → Contains traces (record { chain = m.0; end = m.1; unresolved_at = None }))
        → Contains (w ∷ traces) (record { chain = m.0; end = m.1; unresolved_at = None })
    by (Some k) is later rest = contains_later w traces (record { chain = m.0; end = m.1; unresolved_at = None }) (rest later)
    by None is some rest = elim (first_or_later (w.chain, w.end) (filter_map module_reached_unless_unresolved traces) m some) [
      | inl same ↦
          let this : w ≡ record { chain = m.0; end = m.1; unresolved_at = None } =
          (λ i. record { chain = (same i).0; end = (same i).1; unresolved_at = is i }) in
          subst (Contains (w ∷ traces)) this (contains_first w traces)
      | inr later ↦ contains_later w traces (record { chain = m.0; end = m.1; unresolved_at = None }) (rest later)
    ]

arrives_there : (traces : List StarWalkVisit) (chain end : List ℕ) → Contains traces (record { chain = chain; end = end; unresolved_at = None })
    → Contains {X = Visit} (filter_map module_reached_unless_unresolved traces) (chain, end)
arrives_there [] chain end has = absurd (contains_nothing (record { chain = chain; end = end; unresolved_at = None }) has)
arrives_there (w ∷ traces) chain end has =
    by (first_or_later w traces (record { chain = chain; end = end; unresolved_at = None }) has) (arrives_there traces chain end)
  where
    following : (unresolved_at : Option ℕ) → Contains {X = Visit} (filter_map module_reached_unless_unresolved traces) (chain, end)
        → Contains {X = Visit} (filter_map module_reached_unless_unresolved (record { chain = w.chain; end = w.end; unresolved_at = unresolved_at } ∷ traces))
        (chain, end)
    following None later = contains_later (w.chain, w.end) (filter_map module_reached_unless_unresolved traces) (chain, end) later
    following (Some j) later = later

    by : (w ≡ record { chain = chain; end = end; unresolved_at = None }) ⊎ Contains traces (record { chain = chain; end = end; unresolved_at = None })
        → (Contains traces (record { chain = chain; end = end; unresolved_at = None })
        → Contains {X = Visit} (filter_map module_reached_unless_unresolved traces) (chain, end))
        → Contains {X = Visit} (filter_map module_reached_unless_unresolved (w ∷ traces)) (chain, end)
    by (inl same) rest = subst (λ (x : StarWalkVisit). Contains {X = Visit} (filter_map module_reached_unless_unresolved (x ∷ traces)) (chain, end)) (sym same)
        (contains_first (chain, end) (filter_map module_reached_unless_unresolved traces))
    by (inr later) rest = following w.unresolved_at (rest later)

arrivals_sorted : (traces : List StarWalkVisit) → IsSorted ComesBefore traces → IsSorted VisitsInOrder (filter_map module_reached_unless_unresolved traces)
arrivals_sorted [] sorted = tt
arrivals_sorted (w ∷ traces) sorted = by w.unresolved_at (arrivals_sorted traces sorted.1)
  where
    first : (m : Visit) → Contains (filter_map module_reached_unless_unresolved traces) m → IsChainBefore w.chain m.0
    first m has = sorted.0 (record { chain = m.0; end = m.1; unresolved_at = None }) (arrival_from traces m has)

    by : (unresolved_at : Option ℕ) → IsSorted VisitsInOrder (filter_map module_reached_unless_unresolved traces)
        → IsSorted VisitsInOrder (filter_map module_reached_unless_unresolved (record { chain = w.chain; end = w.end; unresolved_at = unresolved_at } ∷ traces))
    by None rest = (first, rest)
    by (Some k) rest = rest

-- ---- the reachable modules

module _ (graph : GraphView) (start : List ℕ) where
  abbrev first_traces : List StarWalkVisit
  first_traces = first_distinct_by is_same_visit_end (star_walk_visits_of graph start)

  -- the first trace to a module is the least chain to it
  first_is_least : (f : StarWalkVisit) → Contains first_traces f → (u : List ℕ) → f ≡ record { chain = f.chain; end = u; unresolved_at = None } → (c : List ℕ)
      → IsLeastChain (star_targets_of graph) start c u → f.chain ≡ c
  first_is_least f has u is c least =
      let simple = arrives graph start f.chain u (subst (Contains (star_walk_visits_of graph start)) is (was_trace graph start f has)) in
      same_both_traces f.chain c (first_up_to graph start f has (ap end_of is) c least.is_chain) (least.least f.chain simple)

  visited_is_least : (chain end : List ℕ) → Contains (star_reached_modules_of graph start) (chain, end) → IsLeastChain (star_targets_of graph) start chain end
  visited_is_least chain end has =
      let w : StarWalkVisit = record { chain = chain; end = end; unresolved_at = None } in
      let there : Contains first_traces w = arrival_from first_traces (chain, end) has in
      record {
        is_chain = arrives graph start chain end (was_trace graph start w there);
        least = λ other simple. first_up_to graph start w there refl other simple;
      }

  least_is_visited : (chain end : List ℕ) → IsLeastChain (star_targets_of graph) start chain end → Contains (star_reached_modules_of graph start) (chain, end)
  least_is_visited chain end least =
      let found = first_trace graph start chain end None (arrival_there graph start chain end least.is_chain) in
      let is : found.0 ≡ record { chain = found.0.chain; end = end; unresolved_at = None } =
      (λ i. record { chain = found.0.chain; end = (found.2 i).0; unresolved_at = (found.2 i).1 }) in
      let chains : found.0.chain ≡ chain = first_is_least found.0 found.1 end is chain least in
      arrives_there first_traces chain end (subst (Contains first_traces) (is ∙ (λ i. record { chain = chains i; end = end; unresolved_at = None })) found.1)

  pub reached_are_listed : AreReachedByStars (star_targets_of graph) start (star_reached_modules_of graph start)
  reached_are_listed = record {
    all = λ chain end. (visited_is_least chain end, least_is_visited chain end);
    reached = λ end by. let least = least_there graph start end by in (least.0, least_is_visited least.0 end least.1);
    ordered = sorted_pairs VisitsInOrder (star_reached_modules_of graph start)
        (arrivals_sorted first_traces (first_sorted is_same_visit_end end_of ends_here ComesBefore (star_walk_visits_of graph start) (all_sorted graph start)));
  }

  -- no other list has them
  pub reached_are_one : (visited : List Visit) → AreReachedByStars (star_targets_of graph) start visited → visited ≡ star_reached_modules_of graph start
  reached_are_one visited are = same_sorted VisitsInOrder visited (star_reached_modules_of graph start)
      (λ x y has_x has_y before following. never_before_itself x.0
      (before_then_before x.0 y.0 x.0 before following)) (pairs_sorted VisitsInOrder visited are.ordered)
      (pairs_sorted VisitsInOrder (star_reached_modules_of graph start)
      reached_are_listed.ordered) (λ m. (
        λ has. (reached_are_listed.all m.0 m.1).1 ((are.all m.0 m.1).0 has),
        λ has. (are.all m.0 m.1).1 ((reached_are_listed.all m.0 m.1).0 has),
      ))
