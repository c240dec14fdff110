-- The traces from a module: simple chains to modules, and to unresolved statements.
use Rattle.std.proofs.Common.{◌≡◌, ℕ, zero, suc, ◌+◌, ◌<◌, inl, inr, Bool, true, false, List, [], ◌∷◌}
use Rattle.std.proofs.Common.{◌++◌, length, Option, None, Some, refl, sym, ap, subst, ◌∙◌, arith}
use Rattle.std.specs.Prelude.{Contains, if◌then◌else◌}
use Rattle.symbols_ast.specs.Graph.{GraphView}
use Rattle.symbols_root.specs.Specifiers.{contains_specifier}
use Rattle.symbols_exports.specs.Chains.{StarTargets, star_target_at, IsSimpleChain}
use Rattle.symbols_exports.specs.StarStatements.{star_targets_of}
use Rattle.symbols_exports.specs.Traces.{StarWalkVisit, visits_along_statements, star_walk_visits_from, star_walk_visits_of}
use Rattle.symbols_exports.proofs.SimpleChainSteps.{Goes, goes_simple, simple_goes, goes_enough}
use Rattle.symbols_exports.proofs.SortedLists.{first_or_later, contains_first, contains_later, contains_nothing}
use Rattle.symbols_exports.proofs.TracesAreSimpleChains.{leaf, along_from, along_leaf, along_further}

abbrev arrival : List ℕ → List ℕ → StarWalkVisit
arrival chain end = record { chain = chain; end = end; unresolved_at = None }

abbrev dead_end : List ℕ → List ℕ → ℕ → StarWalkVisit
dead_end chain end k = record { chain = chain ++ k ∷ []; end = end; unresolved_at = Some k }

abbrev GoesUnresolved : StarTargets → List (List ℕ) → List ℕ → List ℕ → List ℕ → ℕ → Type 0
GoesUnresolved statements before here chain end k =
    (c : List ℕ) × (chain ≡ c ++ k ∷ []) × Goes statements before here c end × (k < length (statements end)) × (star_target_at statements end k ≡ None)

abbrev IsTrace : StarTargets → List (List ℕ) → List ℕ → List ℕ → List ℕ → Option ℕ → Type 0
IsTrace statements before here chain end None = Goes statements before here chain end
IsTrace statements before here chain end (Some k) = GoesUnresolved statements before here chain end k

one_further : (statements : StarTargets) (before : List (List ℕ)) (here v : List ℕ) (k : ℕ) (chain end : List ℕ) (unresolved_at : Option ℕ)
    → contains_specifier before here ≡ false → star_target_at statements here k ≡ Some v → IsTrace statements (before ++ here ∷ []) v chain end unresolved_at
    → IsTrace statements before here (k ∷ chain) end unresolved_at
one_further statements before here v k chain end None fresh ends_at goes = (fresh, (v, ends_at, goes))
one_further statements before here v k chain end (Some j) fresh ends_at goes =
    (k ∷ goes.0, ap (λ c. k ∷ c) goes.1, (fresh, (v, ends_at, goes.2)), goes.3, goes.4)

traces_are : (statements : StarTargets) (n : ℕ) (before : List (List ℕ)) (here : List ℕ) (w : StarWalkVisit) → Contains
    (star_walk_visits_from statements n before here) w
    → IsTrace statements before here w.chain w.end w.unresolved_at
traces_are statements zero before here w has = absurd (contains_nothing w has)
traces_are statements (suc n) before here w has =
    by (contains_specifier before here) refl has (λ v m has_m. traces_are statements n (before ++ here ∷ []) v m has_m)
  where
    further : List ℕ → List StarWalkVisit
    further next = star_walk_visits_from statements n (before ++ here ∷ []) next

    on : contains_specifier before here ≡ false
        → ((v : List ℕ) (m : StarWalkVisit) → Contains (further v) m → IsTrace statements (before ++ here ∷ []) v m.chain m.end
        m.unresolved_at) → Contains (visits_along_statements further here 0 (statements here)) w → IsTrace statements before here w.chain w.end w.unresolved_at
    on fresh rest later =
        let from = along_from further here 0 (statements here) w later in
        let cursor : from.0 ≡ from.1 = omega (arith, from.2) in
        elim from.4 [
          | inl none ↦ subst (λ (x : StarWalkVisit). IsTrace statements before here x.chain x.end x.unresolved_at) (sym
              none.1) ([], refl, (fresh, refl), omega (arith, cursor, from.3), ap (λ k. star_target_at statements here k) cursor ∙ none.0)
          | inr some ↦ subst (λ (x : StarWalkVisit). IsTrace statements before here x.chain x.end x.unresolved_at) (sym some.2.2)
              (one_further statements before here
              some.0 from.0 some.2.0.chain some.2.0.end some.2.0.unresolved_at fresh (ap (λ k. star_target_at statements here k) cursor
              ∙ some.1) (rest some.0 some.2.0 some.2.1))
        ]

    by : (b : Bool) → contains_specifier before here ≡ b → Contains (if b then [] else arrival [] here ∷ visits_along_statements further here 0
        (statements here)) w
        → ((v : List ℕ) (m : StarWalkVisit) → Contains (further v) m → IsTrace statements (before ++ here ∷ []) v m.chain m.end m.unresolved_at)
        → IsTrace statements before here w.chain w.end w.unresolved_at
    by true is none rest = absurd (contains_nothing w none)
    by false is some rest = elim (first_or_later (arrival [] here) (visits_along_statements further here 0 (statements here)) w some) [
      | inl same ↦ subst (λ (x : StarWalkVisit). IsTrace statements before here x.chain x.end x.unresolved_at) same (is, refl)
      | inr later ↦ on is rest later
    ]

-- each such chain is listed, if the number is large enough for it
in_traces : (statements : StarTargets) (n : ℕ) (before : List (List ℕ)) (here : List ℕ) (w : StarWalkVisit) → contains_specifier before here ≡ false
    → Contains (arrival [] here ∷ visits_along_statements (λ next. star_walk_visits_from statements n (before ++ here ∷ []) next) here 0 (statements here)) w
    → Contains (star_walk_visits_from statements (suc n) before here) w
in_traces statements n before here w fresh has = subst (λ b. Contains (if b then []
    else arrival [] here ∷ visits_along_statements (λ next. star_walk_visits_from statements n (before ++ here ∷ []) next) here 0
    (statements here)) w) (sym fresh) has

arrivals_there : (statements : StarTargets) (n : ℕ) (before : List (List ℕ)) (here chain end : List ℕ) → Goes statements before here chain end
    → length chain < n
    → Contains (star_walk_visits_from statements n before here) (arrival chain end)
arrivals_there statements zero before here chain end goes enough = absurd (omega (arith, enough))
arrivals_there statements (suc n) before here [] end goes enough = in_traces statements n before here (arrival [] end) goes.0
    (subst (λ u. Contains (arrival [] here ∷ visits_along_statements (λ next. star_walk_visits_from statements n (before ++ here ∷ []) next) here 0
    (statements here))
    (arrival [] u)) goes.1 (contains_first (arrival [] here)
    (visits_along_statements (λ next. star_walk_visits_from statements n (before ++ here ∷ []) next) here 0 (statements here))))
arrivals_there statements (suc n) before here (k ∷ chain) end goes enough =
    let rest = arrivals_there statements n (before ++ here ∷ []) goes.1.0 chain end goes.1.2 (omega (arith, enough)) in
    in_traces statements n before here (arrival (k ∷ chain) end) goes.0 (contains_later (arrival [] here)
    (visits_along_statements (λ next. star_walk_visits_from statements n (before ++ here ∷ []) next) here 0 (statements here)) (arrival (k ∷ chain) end)
    (along_further (λ next. star_walk_visits_from statements n (before ++ here ∷ []) next) here 0 (statements here) k k goes.1.0 (arrival chain end)
    (omega arith)
    goes.1.1 rest))

dead_ends_there : (statements : StarTargets) (n : ℕ) (before : List (List ℕ)) (here chain end : List ℕ) (j : ℕ) → Goes statements before here chain end
    → length chain < n → j < length (statements end) → star_target_at statements end j ≡ None
    → Contains (star_walk_visits_from statements n before here) (dead_end chain end j)
dead_ends_there statements zero before here chain end j goes enough within none = absurd (omega (arith, enough))
dead_ends_there statements (suc n) before here [] end j goes enough within none =
    let w : StarWalkVisit = leaf here j in
    let short : j < length (statements here) = subst (λ u. j < length (statements u)) (sym goes.1) within in
    let unresolved_at : star_target_at statements here j ≡ None = subst (λ u. star_target_at statements u j ≡ None) (sym goes.1) none in
    subst (λ u. Contains (star_walk_visits_from statements (suc n) before here) (dead_end [] u j)) goes.1
    (in_traces statements n before here w goes.0
    (contains_later (arrival [] here) (visits_along_statements (λ next. star_walk_visits_from statements n (before ++ here ∷ []) next)
    here 0 (statements here)) w (along_leaf (λ next. star_walk_visits_from statements n (before ++ here ∷ []) next) here 0 (statements here) j j
    (omega arith) short
    unresolved_at)))
dead_ends_there statements (suc n) before here (k ∷ chain) end j goes enough within none =
    let rest = dead_ends_there statements n (before ++ here ∷ []) goes.1.0 chain end j goes.1.2 (omega (arith, enough)) within none in
    in_traces statements n before here (dead_end (k ∷ chain) end j) goes.0 (contains_later (arrival [] here)
    (visits_along_statements (λ next. star_walk_visits_from statements n (before ++ here ∷ []) next) here 0 (statements here)) (dead_end (k ∷ chain) end j)
    (along_further (λ next. star_walk_visits_from statements n (before ++ here ∷ []) next) here 0 (statements here) k k goes.1.0 (dead_end chain end j)
    (omega arith)
    goes.1.1 rest))

-- ---- the traces from a module of a graph

module _ (graph : GraphView) (start : List ℕ) where
  pub arrives : (chain end : List ℕ) → Contains (star_walk_visits_of graph start) (record { chain = chain; end = end; unresolved_at = None })
      → IsSimpleChain (star_targets_of graph) start chain end
  arrives chain end has = goes_simple (star_targets_of graph) start chain end
      (traces_are (star_targets_of graph) (length graph.modules + 1) [] start (arrival chain end) has)

  pub arrival_there : (chain end : List ℕ) → IsSimpleChain (star_targets_of graph) start chain end
      → Contains (star_walk_visits_of graph start) (record { chain = chain; end = end; unresolved_at = None })
  arrival_there chain end simple =
      let goes = simple_goes (star_targets_of graph) start chain end simple in
      arrivals_there (star_targets_of graph) (length graph.modules + 1) [] start chain end goes (goes_enough graph start chain end goes)

  pub ends_dead : (chain end : List ℕ) (k : ℕ) → Contains (star_walk_visits_of graph start) (record { chain = chain; end = end; unresolved_at = Some k }) →
      (c : List ℕ)
      × (chain ≡ c ++ k ∷ []) × IsSimpleChain (star_targets_of graph) start c end × (k < length (star_targets_of graph end))
      × (star_target_at (star_targets_of graph) end k ≡ None)
  ends_dead chain end k has =
      let trace = traces_are (star_targets_of graph) (length graph.modules + 1) [] start (record { chain = chain; end = end; unresolved_at = Some k }) has in
      (trace.0, trace.1, goes_simple (star_targets_of graph) start trace.0 end trace.2, trace.3, trace.4)

  pub dead_end_there : (chain end : List ℕ) (k : ℕ) → IsSimpleChain (star_targets_of graph) start chain end → k < length (star_targets_of graph end)
      → star_target_at (star_targets_of graph) end k ≡ None
      → Contains (star_walk_visits_of graph start) (record { chain = chain ++ k ∷ []; end = end; unresolved_at = Some k })
  dead_end_there chain end k simple within none =
      let goes = simple_goes (star_targets_of graph) start chain end simple in
      dead_ends_there (star_targets_of graph) (length graph.modules + 1) [] start chain end k goes (goes_enough graph start chain end goes) within none
