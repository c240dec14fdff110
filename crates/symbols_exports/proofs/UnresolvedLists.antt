-- The first trace to each unresolved statement in chain order: these are the unresolved statements, and no other list is.
use Rattle.std.proofs.Common.{◌≡◌, ℕ, suc, ◌+◌, ◌⊎◌, inl, inr, Bool, true, false, ◌&&◌, List, [], ◌∷◌, ◌++◌}
use Rattle.std.proofs.Common.{length, take, Option, None, Some, refl, sym, ap, subst, ◌∙◌, arith, true≢false}
use Rattle.std.specs.Prelude.{Contains, filter_map}
use Rattle.std.specs.Bool.{Decides}
use Rattle.std.specs.Str.{bytes_eq}
use Rattle.std.proofs.lemmas.Bool.{eqb-true, eq-eqb, and_from}
use Rattle.std.proofs.lemmas.List.{take_all, take_at, length-append}
use Rattle.std.proofs.lemmas.Option.{none-some, same_Some}
use Rattle.std.proofs.lemmas.Slice.Eq.{bytes_eq-Decides}
use Rattle.symbols_ast.specs.Graph.{GraphView}
use Rattle.symbols_exports.specs.Chains.{chain_end_module, IsSimpleChain, IsChainBefore, IsChainBeforeOrEqual, IsLeastChain, IsReachedByStars}
use Rattle.symbols_exports.specs.Exports.{StarPosition, IsUnresolvedStar, IsStarStatementBefore, AreUnresolvedStars}
use Rattle.symbols_exports.specs.StarStatements.{star_targets_of}
use Rattle.symbols_exports.specs.Traces.{StarWalkVisit, star_walk_visits_of, first_distinct_by, is_same_optional_index, is_same_visit_end}
use Rattle.symbols_exports.specs.Traces.{unresolved_star_at_visit, unresolved_stars_of}
use Rattle.symbols_exports.proofs.TraceLists.{arrives, arrival_there, ends_dead, dead_end_there}
use Rattle.symbols_exports.proofs.ChainOrder.{never_before_itself, before_then_before, up_to_then_before, with_one_more}
use Rattle.symbols_exports.proofs.SortedLists.{IsSorted, first_or_later, contains_first, contains_later, contains_nothing, sorted_pairs}
use Rattle.symbols_exports.proofs.SortedLists.{pairs_sorted, same_sorted, first_is_one, first_sorted, first_once, first_covers}
use Rattle.symbols_exports.proofs.TracesAreSimpleChains.{ComesBefore, traces_sorted}

-- ---- the same end

abbrev pub TraceEnd : Type 0
TraceEnd = List ℕ × Option ℕ

abbrev pub end_of : StarWalkVisit → TraceEnd
end_of trace = (trace.end, trace.unresolved_at)

positions : (x y : Option ℕ) → Decides (is_same_optional_index x y) (x ≡ y)
positions None None = (λ is. refl, λ same. refl)
positions None (Some k) = (λ is. absurd (true≢false (sym is)), λ same. absurd (none-some k same))
positions (Some j) None = (λ is. absurd (true≢false (sym is)), λ same. absurd (none-some j (sym same)))
positions (Some j) (Some k) = (λ is. ap (λ n. Some n) (eqb-true j k is), λ same. eq-eqb j k (same_Some j k same))

pub ends_here : (x y : StarWalkVisit) → Decides (is_same_visit_end x y) (◌≡◌ {A = TraceEnd} (end_of x) (end_of y))
ends_here x y = (
  λ is. to (bytes_eq x.end y.end) (is_same_optional_index x.unresolved_at y.unresolved_at) refl refl is,
  λ same. and_from (bytes_eq x.end y.end)
      (is_same_optional_index x.unresolved_at y.unresolved_at) ((bytes_eq-Decides x.end y.end).1 (ap (λ (s : TraceEnd). s.0) same))
      ((positions x.unresolved_at y.unresolved_at).1 (ap (λ (s : TraceEnd). s.1) same)),
)
  where
    to : (b c : Bool) → bytes_eq x.end y.end ≡ b → is_same_optional_index x.unresolved_at y.unresolved_at ≡ c → (b && c) ≡ true
        → ◌≡◌ {A = TraceEnd} (end_of x) (end_of y)
    to true true ends cursors is = (λ i. ((bytes_eq-Decides x.end y.end).0 ends i, (positions x.unresolved_at y.unresolved_at).0 cursors i))
    to true false ends cursors is = absurd (true≢false (sym is))
    to false c ends cursors is = absurd (true≢false (sym is))

-- ---- the statements of traces

statements_from : (traces : List StarWalkVisit) (at : StarPosition) → Contains (filter_map unresolved_star_at_visit traces) at
    → (chain : List ℕ) × Contains traces (record { chain = chain; end = at.0; unresolved_at = Some at.1 })
statements_from [] at has = absurd (contains_nothing at has)
statements_from (w ∷ traces) at has = by w.unresolved_at refl has (statements_from traces at)
  where
    by : (unresolved_at : Option ℕ) → w.unresolved_at ≡ unresolved_at
        → Contains (filter_map unresolved_star_at_visit (record { chain = w.chain; end = w.end; unresolved_at = unresolved_at } ∷ traces)) at
        → (Contains (filter_map unresolved_star_at_visit traces) at → (chain : List ℕ)
        × Contains traces (record { chain = chain; end = at.0; unresolved_at = Some at.1 }))
        → (chain : List ℕ) × Contains (w ∷ traces) (record { chain = chain; end = at.0; unresolved_at = Some at.1 })
    by None is later rest = let found = rest later in
        (found.0, contains_later w traces (record { chain = found.0; end = at.0; unresolved_at = Some at.1 }) found.1)
    by (Some k) is some rest = elim (first_or_later (w.end, k) (filter_map unresolved_star_at_visit traces) at some) [
      | inl same ↦
          (w.chain, (0, omega arith, λ i. record { chain = w.chain; end = (same i).0; unresolved_at = (is ∙ ap (λ (s : StarPosition). Some s.1) same) i }))
      | inr later ↦ let found = rest later in (found.0, contains_later w traces (record { chain = found.0; end = at.0; unresolved_at = Some at.1 }) found.1)
    ]

statement_there : (traces : List StarWalkVisit) (chain end : List ℕ) (k : ℕ) → Contains traces (record { chain = chain; end = end; unresolved_at = Some k })
    → Contains (filter_map unresolved_star_at_visit traces) (end, k)
statement_there [] chain end k has = absurd (contains_nothing (record { chain = chain; end = end; unresolved_at = Some k }) has)
statement_there (w ∷ traces) chain end k has =
    by (first_or_later w traces (record { chain = chain; end = end; unresolved_at = Some k }) has) (statement_there traces chain end k)
  where
    following : (unresolved_at : Option ℕ) → Contains (filter_map unresolved_star_at_visit traces) (end, k)
        → Contains (filter_map unresolved_star_at_visit (record { chain = w.chain; end = w.end; unresolved_at = unresolved_at } ∷ traces)) (end, k)
    following None later = later
    following (Some j) later = contains_later (w.end, j) (filter_map unresolved_star_at_visit traces) (end, k) later

    by : (w ≡ record { chain = chain; end = end; unresolved_at = Some k }) ⊎ Contains traces (record { chain = chain; end = end; unresolved_at = Some k })
        → (Contains traces (record { chain = chain; end = end; unresolved_at = Some k }) → Contains (filter_map unresolved_star_at_visit traces) (end, k))
        → Contains (filter_map unresolved_star_at_visit (w ∷ traces)) (end, k)
    by (inl same) rest = subst (λ (x : StarWalkVisit). Contains (filter_map unresolved_star_at_visit (x ∷ traces)) (end, k)) (sym same)
        (contains_first (end, k) (filter_map unresolved_star_at_visit traces))
    by (inr later) rest = following w.unresolved_at (rest later)

statements_sorted : (R : StarWalkVisit → StarWalkVisit → Type 0) (S : StarPosition → StarPosition → Type 0) (traces : List StarWalkVisit) →
    ((c d u v : List ℕ) (j k : ℕ)
    → Contains traces (record { chain = c; end = u; unresolved_at = Some j }) → Contains traces (record { chain = d; end = v; unresolved_at = Some k })
    → R (record { chain = c; end = u; unresolved_at = Some j }) (record { chain = d; end = v; unresolved_at = Some k }) → S (u, j) (v, k)) → IsSorted R traces
    → IsSorted S (filter_map unresolved_star_at_visit traces)
statements_sorted R S [] keeps sorted = tt
statements_sorted R S (w ∷ traces) keeps sorted = by w.unresolved_at refl (statements_sorted R S traces (λ c d u v j k has_x has_y. keeps c d u v j k
    (contains_later w traces (record { chain = c; end = u; unresolved_at = Some j }) has_x)
    (contains_later w traces (record { chain = d; end = v; unresolved_at = Some k }) has_y)) sorted.1)
  where
    by : (unresolved_at : Option ℕ) → w.unresolved_at ≡ unresolved_at → IsSorted S (filter_map unresolved_star_at_visit traces)
        → IsSorted S (filter_map unresolved_star_at_visit (record { chain = w.chain; end = w.end; unresolved_at = unresolved_at } ∷ traces))
    by None is rest = rest
    by (Some k) is rest = (first, rest)
      where
        this : w ≡ record { chain = w.chain; end = w.end; unresolved_at = Some k }
        this = λ i. record { chain = w.chain; end = w.end; unresolved_at = is i }

        first : (at : StarPosition) → Contains (filter_map unresolved_star_at_visit traces) at → S (w.end, k) at
        first at has =
            let later = statements_from traces at has in
            let other : StarWalkVisit = record { chain = later.0; end = at.0; unresolved_at = Some at.1 } in
            keeps w.chain later.0 w.end at.0 k at.1 (subst (Contains (w ∷ traces)) this (contains_first w traces)) (contains_later w traces other later.1)
            (subst (λ (x : StarWalkVisit). R x other) this (sorted.0 other later.1))

-- ---- the unresolved statements

module _ (graph : GraphView) (start : List ℕ) where
  abbrev pub firsts : List StarWalkVisit
  firsts = first_distinct_by is_same_visit_end (star_walk_visits_of graph start)

  pub all_sorted : IsSorted ComesBefore (star_walk_visits_of graph start)
  all_sorted = traces_sorted (star_targets_of graph) (length graph.modules + 1) [] start

  pub was_trace : (w : StarWalkVisit) → Contains firsts w → Contains (star_walk_visits_of graph start) w
  was_trace w has = first_is_one is_same_visit_end end_of ends_here (star_walk_visits_of graph start) w has

  is_unresolved : (at : StarPosition) → Contains (unresolved_stars_of graph start) at → IsUnresolvedStar (star_targets_of graph) start at
  is_unresolved at has =
      let by = statements_from firsts at has in
      let dead = ends_dead graph start by.0 at.0 at.1 (was_trace (record { chain = by.0; end = at.0; unresolved_at = Some at.1 }) by.1) in
      ((dead.0, dead.2), dead.3, dead.4)

  -- the first trace to an end isn't after any trace to it
  pub first_trace : (chain end : List ℕ) (unresolved_at : Option ℕ) → Contains (star_walk_visits_of graph start) (record {
    chain = chain;
    end = end;
    unresolved_at = unresolved_at;
  }) → (f : StarWalkVisit) × Contains firsts f × ◌≡◌ {A = TraceEnd} (end_of f) (end, unresolved_at) × IsChainBeforeOrEqual f.chain chain
  first_trace chain end unresolved_at has =
      let found = first_covers is_same_visit_end end_of ends_here ComesBefore (star_walk_visits_of graph start) all_sorted
      (record { chain = chain; end = end; unresolved_at = unresolved_at }) has in
      (found.0, found.1, found.2, by found.0 found.3)
    where
      by : (f : StarWalkVisit) → (f ≡ record { chain = chain; end = end; unresolved_at = unresolved_at })
          ⊎ ComesBefore f (record { chain = chain; end = end; unresolved_at = unresolved_at }) → IsChainBeforeOrEqual f.chain chain
      by f (inl same) = inl (ap (λ (w : StarWalkVisit). w.chain) same)
      by f (inr before) = inr before

  is_listed : (at : StarPosition) → IsUnresolvedStar (star_targets_of graph) start at → Contains (unresolved_stars_of graph start) at
  is_listed at none =
      let found = first_trace (none.0.0 ++ at.1 ∷ []) at.0 (Some at.1) (dead_end_there graph start none.0.0 at.0 at.1 none.0.1 none.1 none.2) in
      statement_there firsts found.0.chain at.0 at.1
      (subst (Contains firsts) (λ i. record { chain = found.0.chain; end = (found.2 i).0; unresolved_at = (found.2 i).1 }) found.1)

  -- the first trace to a statement has the least chain to its module
  by_least : (chain u c : List ℕ) (k : ℕ) → Contains firsts (record { chain = chain; end = u; unresolved_at = Some k })
      → IsLeastChain (star_targets_of graph) start c u → chain ≡ c ++ k ∷ []
  by_least chain u c k has least =
      let dead = ends_dead graph start chain u k (was_trace (record { chain = chain; end = u; unresolved_at = Some k }) has) in
      let found = first_trace (c ++ k ∷ []) u (Some k) (dead_end_there graph start c u k least.is_chain dead.3 dead.4) in
      let is_this : found.0 ≡ record { chain = chain; end = u; unresolved_at = Some k } = first_once is_same_visit_end end_of ends_here
      (star_walk_visits_of graph
      start) found.0 (record { chain = chain; end = u; unresolved_at = Some k }) found.1 has found.2 in
      let up_to : IsChainBeforeOrEqual (dead.0 ++ k ∷ []) (c ++ k ∷ []) =
      subst (λ q. IsChainBeforeOrEqual q (c ++ k ∷ [])) dead.1 (subst (λ (w : StarWalkVisit). IsChainBeforeOrEqual w.chain (c ++ k ∷ [])) is_this found.3) in
      dead.1 ∙ ap (λ q. q ++ k ∷ []) (sym (same dead.0 dead.2 up_to (least.least dead.0 dead.2)))
    where
      -- a simple chain doesn't visit its last module earlier
      no_longer : (d : List ℕ) (x : ℕ) (rest : List ℕ) → IsSimpleChain (star_targets_of graph) start d u → d ≡ c ++ x ∷ rest → ⊥
      no_longer d x rest simple longer =
          let counted : length d ≡ length c + suc (length rest) = ap length longer ∙ length-append c (x ∷ rest) in
          let begins : take (length c) d ≡ c = ap (take (length c)) longer ∙ take_at c (x ∷ rest) (length c) refl in
          let ends : chain_end_module (star_targets_of graph) start (take (length c) d) ≡ chain_end_module (star_targets_of graph) start (take (length d) d) =
          ap (chain_end_module (star_targets_of graph) start) begins
          ∙ (least.is_chain.ends_at ∙ (sym simple.ends_at ∙ ap (chain_end_module (star_targets_of graph) start) (sym (take_all (length d) d (omega arith))))) in
          let equal : length c ≡ length d = simple.has_no_duplicates (length c) (length d) (omega (arith, counted)) (omega arith) ends in
          omega (arith, counted, equal)

      same : (d : List ℕ) → IsSimpleChain (star_targets_of graph) start d u → IsChainBeforeOrEqual (d ++ k ∷ []) (c ++ k ∷ []) → IsChainBeforeOrEqual c d → c
          ≡ d
      same d simple up_to (inl equal) = equal
      same d simple up_to (inr before) = elim (with_one_more c d k before) [
        | inl still ↦ absurd (never_before_itself (d ++ k ∷ []) (up_to_then_before (d ++ k ∷ []) (c ++ k ∷ []) (d ++ k ∷ []) up_to still))
        | inr longer ↦ absurd (no_longer d longer.0 longer.1 simple longer.2)
      ]

  in_order : (c d u v : List ℕ) (j k : ℕ) → Contains firsts (record { chain = c; end = u; unresolved_at = Some j })
      → Contains firsts (record { chain = d; end = v; unresolved_at = Some k }) → IsChainBefore c d
      → IsStarStatementBefore (star_targets_of graph) start (u, j) (v, k)
  in_order c d u v j k has_x has_y before =
      λ e f least_x least_y. subst (λ q. IsChainBefore q (f ++ k ∷ [])) (by_least c u e j has_x least_x)
      (subst (IsChainBefore c) (by_least d v f k has_y least_y) before)

  listed_sorted : IsSorted (IsStarStatementBefore (star_targets_of graph) start) (unresolved_stars_of graph start)
  listed_sorted = statements_sorted ComesBefore (IsStarStatementBefore (star_targets_of graph) start) firsts in_order
      (first_sorted is_same_visit_end end_of ends_here ComesBefore (star_walk_visits_of graph start) all_sorted)

  pub unresolved_are_listed : AreUnresolvedStars (star_targets_of graph) start (unresolved_stars_of graph start)
  unresolved_are_listed = record {
    all = λ at. (is_unresolved at, is_listed at);
    ordered = sorted_pairs (IsStarStatementBefore (star_targets_of graph) start) (unresolved_stars_of graph start) listed_sorted;
  }

  -- the first trace to a module isn't after any simple chain to it
  pub first_up_to : (f : StarWalkVisit) → Contains firsts f → {u : List ℕ} → ◌≡◌ {A = TraceEnd} (end_of f) (u, None) → (other : List ℕ)
      → IsSimpleChain (star_targets_of graph) start other u → IsChainBeforeOrEqual f.chain other
  first_up_to f has {u} same other simple =
      let first = first_trace other u None (arrival_there graph start other u simple) in
      let is_f : first.0 ≡ f = first_once is_same_visit_end end_of ends_here (star_walk_visits_of graph start) first.0 f first.1 has (first.2 ∙ sym same) in
      subst (λ (w : StarWalkVisit). IsChainBeforeOrEqual w.chain other) is_f first.3

  -- each reachable module has a least chain
  pub least_there : (u : List ℕ) → IsReachedByStars (star_targets_of graph) start u → (c : List ℕ) × IsLeastChain (star_targets_of graph) start c u
  least_there u reached =
      let found = first_trace reached.0 u None (arrival_there graph start reached.0 u reached.1) in
      let arrives_so : found.0 ≡ record { chain = found.0.chain; end = u; unresolved_at = None } =
      (λ i. record { chain = found.0.chain; end = (found.2 i).0; unresolved_at = (found.2 i).1 }) in (
        found.0.chain,
        record {
          is_chain = arrives graph start found.0.chain u (subst (Contains (star_walk_visits_of graph start)) arrives_so (was_trace found.0 found.1));
          least = first_up_to found.0 found.1 found.2;
        },
      )

  -- no other list has them
  pub unresolved_are_one : (unresolved : List StarPosition) → AreUnresolvedStars (star_targets_of graph) start unresolved
      → unresolved ≡ unresolved_stars_of graph start
  unresolved_are_one unresolved are = same_sorted (IsStarStatementBefore (star_targets_of graph) start) unresolved (unresolved_stars_of graph start) apart
      (pairs_sorted (IsStarStatementBefore (star_targets_of graph) start) unresolved are.ordered) listed_sorted
      (λ at. (λ has. is_listed at ((are.all at).0 has), λ has. (are.all at).1 (is_unresolved at has)))
    where
      apart : (x y : StarPosition) → Contains unresolved x → Contains unresolved y → IsStarStatementBefore (star_targets_of graph) start x y
          → IsStarStatementBefore (star_targets_of graph) start y x → ⊥
      apart x y has_x has_y there back =
          let c = least_there x.0 ((are.all x).0 has_x).0 in
          let d = least_there y.0 ((are.all y).0 has_y).0 in
          never_before_itself (c.0 ++ x.1 ∷ [])
          (before_then_before (c.0 ++ x.1 ∷ []) (d.0 ++ y.1 ∷ []) (c.0 ++ x.1 ∷ []) (there c.0 d.0 c.1 d.1) (back d.0 c.0 d.1 c.1))
