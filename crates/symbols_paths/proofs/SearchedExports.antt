-- The modules that the search for an export comes to, and among them the module that exports the name.
use Rattle.std.proofs.Common.{◌≡◌, ℕ, zero, suc, ◌+◌, inl, inr, Bool, true, false, not, cond, List, [], ◌∷◌, ◌++◌, length, map, find}
use Rattle.std.proofs.Common.{Option, None, Some, refl, sym, ap, subst, ◌∙◌, arith}
use Rattle.std.specs.Prelude.{filter, flat_map, slice_index_or, if◌then◌else◌}
use Rattle.std.specs.List.{AllByRecursion}
use Rattle.std.specs.Option.{option_map_or, option_and_then}
use Rattle.std.specs.Str.{bytes_eq}
use Rattle.std.proofs.lemmas.Option.{none-some, same_Some}
use Rattle.symbols_ast.specs.declared.ids.SymbolId.{SymbolId}
use Rattle.symbols_ast.specs.Graph.{GraphView}
use Rattle.symbols_root.specs.Specifiers.{contains_specifier}
use Rattle.symbols_exports.specs.Exports.{ExportEntry, StarPosition}
use Rattle.symbols_exports.specs.Chains.{StarTargets, star_target_at, chain_end_module, IsLeastChain}
use Rattle.symbols_exports.specs.OneName.{find_export, last_searched_chain, IsChainNotAfterLastSearched, IsStarLookedUp}
use Rattle.symbols_exports.specs.StarStatements.{star_targets_of, explicit_exports_of}
use Rattle.symbols_exports.specs.Traces.{StarWalkVisit, visit_with_first_statement, visits_along_statements, star_walk_visits_from, star_walk_visits_of}
use Rattle.symbols_exports.specs.Traces.{first_distinct_by}
use Rattle.symbols_exports.specs.Traces.{is_re_exported_along_chain, export_candidates_along_chain, export_candidates_at_visit, is_same_export_name, exports_of}
use Rattle.symbols_paths.specs.NeededModules.{IsModuleSearchedForExport}

-- ---- what holds of all items of a list

all_append : {A : Type 0} (P : A → Type 0) (xs ys : List A) → AllByRecursion P xs → AllByRecursion P ys → AllByRecursion P (xs ++ ys)
all_append P [] ys all rest = rest
all_append P (x ∷ xs) ys all rest = (all.0, all_append P xs ys all.1 rest)

all_retained : {A : Type 0} (P : A → Type 0) (test : A → Bool) (xs : List A) → AllByRecursion P xs → AllByRecursion P (filter test xs)
all_retained P test [] all = tt
all_retained {A} P test (x ∷ xs) all = by (test x) (all_retained P test xs all.1)
  where
    by : (b : Bool) → AllByRecursion P (filter test xs) → AllByRecursion P (cond b (x ∷ filter test xs) (filter test xs))
    by true rest = (all.0, rest)
    by false rest = rest

all_first : {A : Type 0} (P : A → Type 0) (same : A → A → Bool) (xs : List A) → AllByRecursion P xs → AllByRecursion P (first_distinct_by same xs)
all_first P same [] all = tt
all_first P same (x ∷ xs) all = (all.0, all_retained P (λ y. not (same x y)) (first_distinct_by same xs) (all_first P same xs all.1))

found_holds : {A : Type 0} (P : A → Type 0) (test : A → Bool) (xs : List A) (x : A) → AllByRecursion P xs → find test xs ≡ Some x → P x
found_holds P test [] x all found = absurd (none-some x found)
found_holds {A} P test (y ∷ xs) x all found = by (test y) found (λ later. found_holds P test xs x all.1 later)
  where
    by : (b : Bool) → cond b (Some y) (find test xs) ≡ Some x → (find test xs ≡ Some x → P x) → P x
    by true is rest = subst P (same_Some y x is) all.0
    by false is rest = rest is

-- ---- the ends of chains

itself : (found : Option (List ℕ)) → option_and_then (λ v. Some v) found ≡ found
itself None = refl
itself (Some v) = refl

-- a chain with one more statement ends where that statement resolves to from the chain's end
end_by_last : (statements : StarTargets) (start : List ℕ) (chain : List ℕ) (k : ℕ)
    → chain_end_module statements start (chain ++ k ∷ []) ≡ option_and_then (λ v. star_target_at statements v k) (chain_end_module statements start chain)
end_by_last statements start [] k = itself (star_target_at statements start k)
end_by_last statements start (i ∷ chain) k =
    elim (star_target_at statements start i) as (λ found. option_and_then (λ v. chain_end_module statements v (chain ++ k ∷ [])) found
    ≡ option_and_then (λ v. star_target_at statements v k) (option_and_then (λ v. chain_end_module statements v chain) found)) [
      | None ↦ refl
      | Some v ↦ end_by_last statements v chain k
    ]

goes_further : (statements : StarTargets) (start u v : List ℕ) (chain : List ℕ) (k : ℕ) → chain_end_module statements start chain ≡ Some u
    → star_target_at statements u k ≡ Some v → chain_end_module statements start (chain ++ k ∷ []) ≡ Some v
goes_further statements start u v chain k ends_at next =
    end_by_last statements start chain k ∙ (ap (option_and_then (λ w. star_target_at statements w k)) ends_at ∙ next)

goes_first : (statements : StarTargets) (here next end : List ℕ) (position : ℕ) (chain : List ℕ) → star_target_at statements here position ≡ Some next
    → chain_end_module statements next chain ≡ Some end → chain_end_module statements here (position ∷ chain) ≡ Some end
goes_first statements here next end position chain at ends_at = ap (option_and_then (λ v. chain_end_module statements v chain)) at ∙ ends_at

-- ---- the modules that a search comes to

first_is_searched : (last : Option (List ℕ)) → IsChainNotAfterLastSearched last []
first_is_searched None = tt
first_is_searched (Some []) = inl refl
first_is_searched (Some (k ∷ chain)) = inr tt

pub searched_itself : (graph : GraphView) (m name : List ℕ) → IsModuleSearchedForExport graph m name m
searched_itself graph m name = ([], refl, first_is_searched (last_searched_chain name (find_export graph m name)))

pub searched_by_chain : (graph : GraphView) (m name chain end : List ℕ) → IsLeastChain (star_targets_of graph) m chain end
    → IsChainNotAfterLastSearched (last_searched_chain name (find_export graph m name)) chain → IsModuleSearchedForExport graph m name end
searched_by_chain graph m name chain end least up_to = (chain, least.is_chain.ends_at, up_to)

pub searched_by_statement : (graph : GraphView) (m name : List ℕ) (at : StarPosition) (v : List ℕ)
    → IsStarLookedUp (star_targets_of graph) m (last_searched_chain name (find_export graph m name)) at
    → star_target_at (star_targets_of graph) at.0 at.1 ≡ Some v → IsModuleSearchedForExport graph m name v
searched_by_statement graph m name at v looked_up target =
    (looked_up.0 ++ at.1 ∷ [], goes_further (star_targets_of graph) m at.0 v looked_up.0 at.1 looked_up.1.is_chain.ends_at target, looked_up.3)

-- ---- the chains from a module

-- the statements after the first
later : (targets : ℕ → Option (List ℕ)) (position : ℕ) (first : Option (List ℕ)) (rest : List (Option (List ℕ)))
    → ((k : ℕ) (v : List ℕ) → slice_index_or (first ∷ rest) k None ≡ Some v → targets (k + position) ≡ Some v)
    → (k : ℕ) (v : List ℕ) → slice_index_or rest k None ≡ Some v → targets (k + (position + 1)) ≡ Some v
later targets position first rest are k v at = subst (λ (i : ℕ). targets i ≡ Some v) (omega arith) (are (suc k) v at)

module _ (graph : GraphView) where
  abbrev IsEnd : List ℕ → StarWalkVisit → Type 0
  IsEnd here trace = trace.unresolved_at ≡ None → chain_end_module (star_targets_of graph) here trace.chain ≡ Some trace.end

  abbrev AreEnds : List ℕ → List StarWalkVisit → Type 0
  AreEnds here traces = AllByRecursion (IsEnd here) traces

  abbrev AreExporters : List ℕ → List ExportEntry → Type 0
  AreExporters here entries =
      AllByRecursion (λ (entry : ExportEntry). chain_end_module (star_targets_of graph) here entry.chain ≡ Some entry.exporter) entries

  all_after : (here next : List ℕ) (position : ℕ) → star_target_at (star_targets_of graph) here position ≡ Some next → (traces : List StarWalkVisit)
      → AreEnds next traces → AreEnds here (map (visit_with_first_statement position) traces)
  all_after here next position at [] all = tt
  all_after here next position at (trace ∷ traces) all = (
    λ resolved. goes_first (star_targets_of graph) here next trace.end position trace.chain at (all.0 resolved),
    all_after here next position at traces all.1,
  )

  ends_along : (further : List ℕ → List StarWalkVisit) (here : List ℕ) (position : ℕ) (rest : List (Option (List ℕ)))
      → ((v : List ℕ) → AreEnds v (further v))
      → ((k : ℕ) (v : List ℕ) → slice_index_or rest k None ≡ Some v → star_target_at (star_targets_of graph) here (k + position) ≡ Some v)
      → AreEnds here (visits_along_statements further here position rest)
  ends_along further here position [] on targets = tt
  ends_along further here position (None ∷ rest) on targets = (
    (λ resolved. absurd (none-some position (sym resolved))),
    ends_along further here (position + 1) rest on (later (star_target_at (star_targets_of graph) here) position None rest targets),
  )
  ends_along further here position (Some next ∷ rest) on targets =
      all_append (IsEnd here) (map (visit_with_first_statement position) (further next)) (visits_along_statements further here (position + 1) rest)
      (all_after here next position (subst (λ (i : ℕ). star_target_at (star_targets_of graph) here i ≡ Some next) (omega arith) (targets 0 next refl))
      (further next) (on next))
      (ends_along further here (position + 1) rest on (later (star_target_at (star_targets_of graph) here) position (Some next) rest targets))

  ends_from : (n : ℕ) (before : List (List ℕ)) (here : List ℕ) → AreEnds here (star_walk_visits_from (star_targets_of graph) n before here)
  ends_from zero before here = tt
  ends_from (suc n) before here = by (contains_specifier before here)
      (ends_along further here 0 (star_targets_of graph here) (λ v. ends_from n (before ++ here ∷ []) v) first)
    where
      further : List ℕ → List StarWalkVisit
      further next = star_walk_visits_from (star_targets_of graph) n (before ++ here ∷ []) next

      first : (k : ℕ) (v : List ℕ) → slice_index_or (star_targets_of graph here) k None ≡ Some v
          → star_target_at (star_targets_of graph) here (k + 0) ≡ Some v
      first k v at = subst (λ (i : ℕ). star_target_at (star_targets_of graph) here i ≡ Some v) (omega arith) at

      by : (b : Bool) → AreEnds here (visits_along_statements further here 0 (star_targets_of graph here))
          → AreEnds here (if b then []
          else record { chain = []; end = here; unresolved_at = None } ∷ visits_along_statements further here 0 (star_targets_of graph here))
      by true rest = tt
      by false rest = ((λ resolved. refl), rest)

  -- ---- the candidates of these chains

  candidates_end : (here chain end : List ℕ) (exported : List (List ℕ × SymbolId)) → chain_end_module (star_targets_of graph) here chain ≡ Some end
      → AreExporters here (map (λ (x : List ℕ × SymbolId). record { name = x.0; chain = chain; exporter = end; symbol = x.1 }) exported)
  candidates_end here chain end [] is = tt
  candidates_end here chain end (x ∷ exported) is = (is, candidates_end here chain end exported is)

  candidates_of_end : (here : List ℕ) (trace : StarWalkVisit) → IsEnd here trace → AreExporters here
      (export_candidates_at_visit (explicit_exports_of graph) trace)
  candidates_of_end here trace is = by trace.unresolved_at refl
    where
      by : (unresolved_at : Option ℕ) → trace.unresolved_at ≡ unresolved_at → AreExporters here (option_map_or (λ position. []) unresolved_at
          (export_candidates_along_chain trace.chain trace.end (explicit_exports_of graph trace.end)))
      by (Some position) resolved = tt
      by None resolved = candidates_end here trace.chain trace.end (filter (is_re_exported_along_chain trace.chain) (explicit_exports_of graph trace.end))
          (is resolved)

  all_candidates : (here : List ℕ) (traces : List StarWalkVisit) → AreEnds here traces
      → AreExporters here (flat_map (export_candidates_at_visit (explicit_exports_of graph)) traces)
  all_candidates here [] all = tt
  all_candidates here (trace ∷ traces) all =
      all_append (λ (entry : ExportEntry). chain_end_module (star_targets_of graph) here entry.chain ≡ Some entry.exporter)
      (export_candidates_at_visit (explicit_exports_of graph) trace) (flat_map (export_candidates_at_visit (explicit_exports_of graph)) traces)
      (candidates_of_end here trace all.0) (all_candidates here traces all.1)

  pub exporter_searched : (m name : List ℕ) (entry : ExportEntry) → find_export graph m name ≡ Some entry
      → IsModuleSearchedForExport graph m name entry.exporter
  exporter_searched m name entry found =
      let candidates = flat_map (export_candidates_at_visit (explicit_exports_of graph)) (star_walk_visits_of graph m) in
      let all = all_candidates m (star_walk_visits_of graph m) (ends_from (length graph.modules + 1) [] m) in
      let ends_at =
      found_holds (λ (e : ExportEntry). chain_end_module (star_targets_of graph) m e.chain ≡ Some e.exporter) (λ (e : ExportEntry). bytes_eq name e.name)
      (exports_of graph m) entry
      (all_first (λ (e : ExportEntry). chain_end_module (star_targets_of graph) m e.chain ≡ Some e.exporter) is_same_export_name candidates all) found in
      (entry.chain, ends_at, subst (λ (o : Option ExportEntry). IsChainNotAfterLastSearched (last_searched_chain name o) entry.chain) (sym found) (inl refl))
