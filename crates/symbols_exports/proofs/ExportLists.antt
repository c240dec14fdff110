-- The first candidate of each name in chain order: these are the exports, and no other list is.
use Rattle.std.proofs.Common.{◌≡◌, ℕ, zero, suc, ◌+◌, ◌<◌, ◌⊎◌, inl, inr, Bool, true, false, not, List, [], ◌∷◌}
use Rattle.std.proofs.Common.{length, take, get_or, Option, None, Some, refl, sym, ap, subst, ◌∙◌, arith, true≢false}
use Rattle.std.specs.Prelude.{Contains, AllPairs, filter, flat_map}
use Rattle.std.specs.Option.{option_map_or}
use Rattle.std.specs.Str.{bytes_eq}
use Rattle.std.proofs.lemmas.Cmp.{nat_list_eq_equiv}
use Rattle.std.proofs.lemmas.Option.{slice_get-get_or, slice_get_within, get_or_from_slice_get, same_Some}
use Rattle.std.proofs.lemmas.Slice.Eq.{bytes_eq-Decides}
use Rattle.std.proofs.lemmas.List.Elements.{Contains-append_left, Contains-append_right, Contains-append_cases}
use Rattle.symbols_ast.specs.declared.ids.SymbolId.{SymbolId}
use Rattle.symbols_ast.specs.Graph.{GraphView}
use Rattle.symbols_table.specs.Events.{default_export_name}
use Rattle.symbols_exports.specs.Chains.{chain_end_module, IsChainBefore, IsChainBeforeOrEqual}
use Rattle.symbols_exports.specs.Exports.{ExplicitExports, ExportEntry, IsExportCandidate, IsExport, IsListedBefore, IsExportEntryBefore, AreExports}
use Rattle.symbols_exports.specs.StarStatements.{star_targets_of, explicit_exports_of}
use Rattle.symbols_exports.specs.Traces.{StarWalkVisit, star_walk_visits_of, is_re_exported_along_chain, export_candidates_along_chain}
use Rattle.symbols_exports.specs.Traces.{export_candidates_at_visit, is_same_export_name}
use Rattle.symbols_exports.specs.Traces.{exports_of}
use Rattle.symbols_exports.proofs.DistinctNames.{exports_once, explicit_cursor}
use Rattle.symbols_exports.proofs.TraceLists.{arrives, arrival_there}
use Rattle.symbols_exports.proofs.ChainOrder.{never_before_itself, before_then_before, up_to_then_before}
use Rattle.symbols_exports.proofs.SortedLists.{IsSorted, first_or_later, contains_first, contains_later, contains_nothing, contains_mapped}
use Rattle.symbols_exports.proofs.SortedLists.{mapped_from, filtered_from, contains_filtered, sorted_pairs, pairs_sorted, sorted_both}
use Rattle.symbols_exports.proofs.SortedLists.{sorted_map, sorted_filter, same_sorted, first_is_one, first_sorted, first_once, first_covers}
use Rattle.symbols_exports.proofs.TracesAreSimpleChains.{ComesBefore, traces_sorted}

-- ---- lists of lists

pub flat_from : {A B : Type 0} (f : A → List B) (xs : List A) (y : B) → Contains (flat_map f xs) y → (x : A) × Contains xs x × Contains (f x) y
flat_from f [] y has = absurd (contains_nothing y has)
flat_from f (x ∷ xs) y has = elim (Contains-append_cases (f x) (flat_map f xs) y has) [
  | inl here ↦ (x, contains_first x xs, here)
  | inr later ↦ let from = flat_from f xs y later in (from.0, contains_later x xs from.0 from.1, from.2)
]

pub contains_flat : {A B : Type 0} (f : A → List B) (xs : List A) (x : A) (y : B) → Contains xs x → Contains (f x) y → Contains (flat_map f xs) y
contains_flat f [] x y has has_y = absurd (contains_nothing x has)
contains_flat f (w ∷ xs) x y has has_y = elim (first_or_later w xs x has) [
  | inl same ↦ Contains-append_left (f w) (flat_map f xs) y (subst (λ z. Contains (f z) y) (sym same) has_y)
  | inr later ↦ Contains-append_right (f w) (flat_map f xs) y (contains_flat f xs x y later has_y)
]

pub flat_sorted : {A B : Type 0} (R : A → A → Type 0) (S : B → B → Type 0) (f : A → List B) → ((x : A) → IsSorted S (f x))
    → ((x y : A) → R x y → (a b : B) → Contains (f x) a → Contains (f y) b → S a b) → (xs : List A) → IsSorted R xs → IsSorted S (flat_map f xs)
flat_sorted R S f each across [] sorted = tt
flat_sorted {A} {B} R S f each across (x ∷ xs) sorted = sorted_both S (f x) (flat_map f xs) (each x) (flat_sorted R S f each across xs sorted.1) following
  where
    following : (a b : B) → Contains (f x) a → Contains (flat_map f xs) b → S a b
    following a b has_a has_b = let from = flat_from f xs b has_b in across x from.0 (sorted.0 from.0 from.1) a b has_a from.2

-- ---- the candidates of a trace

pub passes : (chain : List ℕ) (exported : List ℕ × SymbolId) → is_re_exported_along_chain chain exported ≡ true → exported.0 ≡ default_export_name → chain ≡ []
passes [] exported is same = refl
passes (k ∷ chain) exported is same = absurd (true≢false (sym is ∙ ap not (subst (λ q. bytes_eq exported.0 q ≡ true) same (nat_list_eq_equiv.refl exported.0))))

pub is_passed : (chain : List ℕ) (exported : List ℕ × SymbolId) → (exported.0 ≡ default_export_name → chain ≡ []) → is_re_exported_along_chain chain exported
    ≡ true
is_passed [] exported passed = refl
is_passed (k ∷ chain) exported passed = by (bytes_eq exported.0 default_export_name) refl
  where
    never : k ∷ chain ≡ [] → ⊥
    never same = cc

    by : (b : Bool) → bytes_eq exported.0 default_export_name ≡ b → not b ≡ true
    by true is = absurd (never (passed ((bytes_eq-Decides exported.0 default_export_name).0 is)))
    by false is = refl

abbrev pub entry_by : List ℕ → List ℕ → List ℕ × SymbolId → ExportEntry
entry_by chain end x = record { name = x.0; chain = chain; exporter = end; symbol = x.1 }

pub occurs_before : {A : Type 0} (xs : List A) → AllPairs (IsListedBefore xs) xs
occurs_before xs i j d less within = (j, slice_get-get_or xs j d within, front xs j i d less within)
  where
    front : {B : Type 0} (ys : List B) (n k : ℕ) (e : B) → k < n → n < length ys → Contains (take n ys) (get_or ys k e)
    front [] n k e below short = absurd (omega (arith, short))
    front (y ∷ ys) zero k e below short = absurd (omega (arith, below))
    front (y ∷ ys) (suc n) zero e below short = contains_first y (take n ys)
    front (y ∷ ys) (suc n) (suc k) e below short = contains_later y (take n ys) (get_or ys k e) (front ys n k e (omega (arith, below)) (omega (arith, short)))

module _ (explicit : ExplicitExports) where
  pub candidate_from : (w : StarWalkVisit) (e : ExportEntry) → Contains (export_candidates_at_visit explicit w) e → (w.unresolved_at ≡ None) ×
      (e.chain ≡ w.chain)
      × (e.exporter ≡ w.end) × Contains (explicit w.end) (e.name, e.symbol) × (e.name ≡ default_export_name → w.chain ≡ [])
  candidate_from w e has = by w.unresolved_at refl has
    where
      by : (unresolved_at : Option ℕ) → w.unresolved_at ≡ unresolved_at
          → Contains (option_map_or (λ (k : ℕ). []) unresolved_at (export_candidates_along_chain w.chain w.end
          (explicit w.end))) e → (w.unresolved_at ≡ None) × (e.chain ≡ w.chain) × (e.exporter ≡ w.end) × Contains (explicit w.end) (e.name, e.symbol)
          × (e.name ≡ default_export_name → w.chain ≡ [])
      by (Some k) is none = absurd (contains_nothing e none)
      by None is some =
          let from = mapped_from (entry_by w.chain w.end) (filter (is_re_exported_along_chain w.chain) (explicit w.end)) e some in
          let retained = filtered_from (is_re_exported_along_chain w.chain) (explicit w.end) from.0 from.1 in
          subst (λ (x : ExportEntry). (w.unresolved_at ≡ None) × (x.chain ≡ w.chain) × (x.exporter ≡ w.end) × Contains (explicit w.end) (x.name, x.symbol)
          × (x.name ≡ default_export_name → w.chain ≡ [])) from.2
          (is, refl, refl, retained.0, passes w.chain from.0 retained.1)

  pub candidate_there : (chain end name : List ℕ) (symbol : SymbolId) → Contains (explicit end) (name, symbol) → (name ≡ default_export_name → chain ≡ [])
      → Contains (export_candidates_at_visit explicit
      (record { chain = chain; end = end; unresolved_at = None })) (record { name = name; chain = chain; exporter = end; symbol = symbol })
  candidate_there chain end name symbol exporter_exports_name_explicitly passed = contains_mapped (entry_by chain end)
      (filter (is_re_exported_along_chain chain) (explicit end))
      (name, symbol)
      (contains_filtered (is_re_exported_along_chain chain) (explicit end) (name, symbol) exporter_exports_name_explicitly
      (is_passed chain (name, symbol) passed))

  pub candidate_sorted : (w : StarWalkVisit) → IsSorted (IsExportEntryBefore explicit) (export_candidates_at_visit explicit w)
  candidate_sorted w = by w.unresolved_at
    where
      in_order : (x y : List ℕ × SymbolId) → IsListedBefore (explicit w.end) x y
          → IsExportEntryBefore explicit (entry_by w.chain w.end x) (entry_by w.chain w.end y)
      in_order x y occurs = inr (refl, occurs)

      by : (unresolved_at : Option ℕ)
          → IsSorted (IsExportEntryBefore explicit) (option_map_or (λ (k : ℕ). []) unresolved_at (export_candidates_along_chain w.chain w.end (explicit w.end)))
      by (Some k) = tt
      by None = sorted_map (IsListedBefore (explicit w.end)) (IsExportEntryBefore explicit) (entry_by w.chain w.end) in_order
          (filter (is_re_exported_along_chain w.chain) (explicit w.end))
          (sorted_filter (IsListedBefore (explicit w.end)) (is_re_exported_along_chain w.chain) (explicit w.end)
          (pairs_sorted (IsListedBefore (explicit w.end)) (explicit w.end) (occurs_before (explicit w.end))))

  candidate_across : (x y : StarWalkVisit) → ComesBefore x y → (a b : ExportEntry) → Contains (export_candidates_at_visit explicit x) a
      → Contains (export_candidates_at_visit explicit y) b
      → IsExportEntryBefore explicit a b
  candidate_across x y before a b has_a has_b =
      let from_a = candidate_from x a has_a in
      let from_b = candidate_from y b has_b in
      inl (subst (λ c. IsChainBefore c b.chain) (sym from_a.1) (subst (IsChainBefore x.chain) (sym from_b.1) before))

-- an element of the first n has an index below n
in_front : {A : Type 0} (xs : List A) (n : ℕ) (a : A) → Contains (take n xs) a → (k : ℕ) × (k < n) × (k < length xs) × (get_or xs k a ≡ a)
in_front [] zero a has = absurd (contains_nothing a has)
in_front [] (suc n) a has = absurd (contains_nothing a has)
in_front (z ∷ xs) zero a has = absurd (contains_nothing a has)
in_front (z ∷ xs) (suc n) a has = elim (first_or_later z (take n xs) a has) [
  | inl is ↦ (0, omega arith, omega arith, is)
  | inr later ↦ let from = in_front xs n a later in (suc from.0, omega (arith, from.1), omega (arith, from.2), from.3)
]

-- in a list of distinct elements no two occur both before one another
both_traces : {A : Type 0} (xs : List A) → ((i j : ℕ) (d : A) → i < length xs → j < length xs → get_or xs i d ≡ get_or xs j d → i ≡ j) → (a b : A)
    → IsListedBefore xs a b → IsListedBefore xs b a → ⊥
both_traces xs cursor a b before following =
    let a_at = in_front xs before.0 a before.2 in
    let b_at = in_front xs following.0 b following.2 in
    let b_in : before.0 < length xs = slice_get_within xs before.0 b before.1 in
    let a_in : following.0 < length xs = slice_get_within xs following.0 a following.1 in
    let same_a : a_at.0 ≡ following.0 = cursor a_at.0 following.0 a a_at.2 a_in (a_at.3 ∙ sym (get_or_from_slice_get xs following.0 a a following.1)) in
    let same_b : b_at.0 ≡ before.0 = cursor b_at.0 before.0 b b_at.2 b_in (b_at.3 ∙ sym (get_or_from_slice_get xs before.0 b b before.1)) in
    omega (arith, a_at.1, b_at.1, same_a, same_b)

-- ---- the first of each name

module _ (graph : GraphView) (start : List ℕ) where
  abbrev candidates : List ExportEntry
  candidates = flat_map (export_candidates_at_visit (explicit_exports_of graph)) (star_walk_visits_of graph start)

  candidates_sorted : IsSorted (IsExportEntryBefore (explicit_exports_of graph)) candidates
  candidates_sorted = flat_sorted ComesBefore (IsExportEntryBefore (explicit_exports_of graph)) (export_candidates_at_visit (explicit_exports_of graph))
      (candidate_sorted (explicit_exports_of graph)) (candidate_across (explicit_exports_of graph)) (star_walk_visits_of graph start)
      (traces_sorted (star_targets_of graph) (length graph.modules + 1) [] start)

  is_candidate : (e : ExportEntry) → Contains candidates e → IsExportCandidate (star_targets_of graph) (explicit_exports_of graph) start e
  is_candidate e has =
      let from = flat_from (export_candidates_at_visit (explicit_exports_of graph)) (star_walk_visits_of graph start) e has in
      let by = candidate_from (explicit_exports_of graph) from.0 e from.2 in
      let trace : from.0 ≡ record { chain = e.chain; end = e.exporter; unresolved_at = None } =
      (λ i. record { chain = sym by.1 i; end = sym by.2 i; unresolved_at = by.0 i }) in
      record {
        ends_at = arrives graph start e.chain e.exporter (subst (Contains (star_walk_visits_of graph start)) trace from.1);
        exporter_exports_name_explicitly = subst (λ u. Contains (explicit_exports_of graph u) (e.name, e.symbol)) (sym by.2) by.3;
        default_has_empty_chain = λ same. by.1 ∙ by.4 same;
      }

  candidate_is_there : (e : ExportEntry) → IsExportCandidate (star_targets_of graph) (explicit_exports_of graph) start e → Contains candidates e
  candidate_is_there e one_candidate = contains_flat (export_candidates_at_visit (explicit_exports_of graph)) (star_walk_visits_of graph start)
      (record { chain = e.chain; end = e.exporter; unresolved_at = None }) e (arrival_there graph start e.chain e.exporter one_candidate.ends_at)
      (candidate_there (explicit_exports_of graph) e.chain e.exporter e.name e.symbol one_candidate.exporter_exports_name_explicitly
      one_candidate.default_has_empty_chain)

  abbrev name_of : ExportEntry → List ℕ
  name_of e = e.name

  pub covered : (e : ExportEntry) → IsExportCandidate (star_targets_of graph) (explicit_exports_of graph) start e
      → (f : ExportEntry) × Contains (exports_of graph start) f × (f.name ≡ e.name) × ((f ≡ e) ⊎ IsExportEntryBefore (explicit_exports_of graph) f e)
  covered e one_candidate = first_covers is_same_export_name name_of (λ x y. bytes_eq-Decides x.name y.name) (IsExportEntryBefore (explicit_exports_of graph))
      candidates
      candidates_sorted e (candidate_is_there e one_candidate)

  pub up_to : (f e : ExportEntry) → (f ≡ e) ⊎ IsExportEntryBefore (explicit_exports_of graph) f e → IsChainBeforeOrEqual f.chain e.chain
  up_to f e (inl same) = inl (ap (λ (x : ExportEntry). x.chain) same)
  up_to f e (inr (inl before)) = inr before
  up_to f e (inr (inr along)) = inl along.0

  was_candidate : (e : ExportEntry) → Contains (exports_of graph start) e → IsExportCandidate (star_targets_of graph) (explicit_exports_of graph) start e
  was_candidate e has = is_candidate e (first_is_one is_same_export_name name_of (λ x y. bytes_eq-Decides x.name y.name) candidates e has)

  pub is_export : (e : ExportEntry) → Contains (exports_of graph start) e → IsExport (star_targets_of graph) (explicit_exports_of graph) start e
  is_export e has = record { candidate = was_candidate e has; least = least }
    where
      least : (other : ExportEntry) → IsExportCandidate (star_targets_of graph) (explicit_exports_of graph) start other → other.name ≡ e.name
          → IsChainBeforeOrEqual e.chain other.chain
      least other one_candidate same =
          let first = covered other one_candidate in
          let is_e : first.0 ≡ e = first_once is_same_export_name name_of (λ x y. bytes_eq-Decides x.name y.name) candidates first.0 e first.1 has
          (first.2 ∙ same) in
          subst (λ (x : ExportEntry). IsChainBeforeOrEqual x.chain other.chain) is_e (up_to first.0 other first.3)

  is_listed : (e : ExportEntry) → IsExport (star_targets_of graph) (explicit_exports_of graph) start e → Contains (exports_of graph start) e
  is_listed e export = by (covered e export.candidate)
    where
      never : (f : ExportEntry) → Contains (exports_of graph start) f → f.name ≡ e.name → IsChainBefore f.chain e.chain → ⊥
      never f has same before = never_before_itself e.chain (up_to_then_before e.chain f.chain e.chain (export.least f (was_candidate f has) same) before)

      together : (f : ExportEntry) → Contains (exports_of graph start) f → f.name ≡ e.name → f.chain ≡ e.chain → f ≡ e
      together f has same chains =
          let one_candidate = was_candidate f has in
          let exporters : f.exporter ≡ e.exporter = same_Some f.exporter e.exporter (sym one_candidate.ends_at.ends_at
          ∙ (ap (chain_end_module (star_targets_of graph) start) chains ∙ export.candidate.ends_at.ends_at)) in
          let symbols : f.symbol ≡ e.symbol = exports_once graph e.exporter e.name f.symbol e.symbol (subst
          (λ q. Contains (explicit_exports_of graph e.exporter) (q, f.symbol)) same
          (subst (λ u. Contains (explicit_exports_of graph u)
          (f.name, f.symbol)) exporters one_candidate.exporter_exports_name_explicitly)) export.candidate.exporter_exports_name_explicitly in
          λ i. record { name = same i; chain = chains i; exporter = exporters i; symbol = symbols i }

      by : (f : ExportEntry) × Contains (exports_of graph start) f × (f.name ≡ e.name) × ((f ≡ e) ⊎ IsExportEntryBefore (explicit_exports_of graph) f e)
          → Contains (exports_of graph start) e
      by (f, has, same, inl is) = subst (Contains (exports_of graph start)) is has
      by (f, has, same, inr (inl before)) = absurd (never f has same before)
      by (f, has, same, inr (inr along)) = subst (Contains (exports_of graph start)) (together f has same along.0) has

  pub exports_are_listed : AreExports (star_targets_of graph) (explicit_exports_of graph) start (exports_of graph start)
  exports_are_listed = record {
    all = λ e. (is_export e, is_listed e);
    ordered = sorted_pairs (IsExportEntryBefore (explicit_exports_of graph)) (exports_of graph start)
        (first_sorted is_same_export_name name_of (λ x y. bytes_eq-Decides x.name y.name) (IsExportEntryBefore (explicit_exports_of graph)) candidates
        candidates_sorted);
  }

  -- ---- one list

  pub apart : (x y : ExportEntry) → IsExport (star_targets_of graph) (explicit_exports_of graph) start x → IsExport (star_targets_of graph) (explicit_exports_of
      graph) start y → IsExportEntryBefore (explicit_exports_of graph) x y → IsExportEntryBefore (explicit_exports_of graph) y x → ⊥
  apart x y export_x export_y (inl before) (inl following) = never_before_itself x.chain (before_then_before x.chain y.chain x.chain before following)
  apart x y export_x export_y (inl before) (inr along) = never_before_itself x.chain (subst (IsChainBefore x.chain) along.0 before)
  apart x y export_x export_y (inr along) (inl following) = never_before_itself y.chain (subst (IsChainBefore y.chain) along.0 following)
  apart x y export_x export_y (inr there) (inr back) =
      let exporters : y.exporter ≡ x.exporter = same_Some y.exporter x.exporter (sym export_y.candidate.ends_at.ends_at
      ∙ (ap (chain_end_module (star_targets_of graph) start) back.0 ∙ export_x.candidate.ends_at.ends_at)) in
      both_traces (explicit_exports_of graph x.exporter) (λ i j d i_in j_in same. explicit_cursor graph x.exporter i j d i_in j_in
      (ap (λ (p : List ℕ × SymbolId). p.0) same)) (x.name, x.symbol) (y.name, y.symbol) there.1
      (subst (λ u. IsListedBefore (explicit_exports_of graph u) (y.name, y.symbol) (x.name, x.symbol)) exporters back.1)

  pub apart_itself : (x : ExportEntry) → IsListedBefore (explicit_exports_of graph x.exporter) (x.name, x.symbol) (x.name, x.symbol) → ⊥
  apart_itself x occurs = both_traces (explicit_exports_of graph x.exporter) (λ i j d i_in j_in same.
      explicit_cursor graph x.exporter i j d i_in j_in (ap (λ (p : List ℕ × SymbolId). p.0) same)) (x.name, x.symbol) (x.name, x.symbol) occurs occurs

  pub exports_are_one : (entries : List ExportEntry) → AreExports (star_targets_of graph) (explicit_exports_of graph) start entries
      → entries ≡ exports_of graph start
  exports_are_one entries are = same_sorted (IsExportEntryBefore (explicit_exports_of graph)) entries (exports_of graph start) (λ x y has_x has_y.
      apart x y ((are.all x).0 has_x) ((are.all y).0 has_y)) (pairs_sorted (IsExportEntryBefore (explicit_exports_of graph)) entries are.ordered)
      (pairs_sorted (IsExportEntryBefore (explicit_exports_of graph)) (exports_of graph start) exports_are_listed.ordered)
      (λ e. (λ has. (exports_are_listed.all e).1 ((are.all e).0 has), λ has. (are.all e).1 ((exports_are_listed.all e).0 has)))
