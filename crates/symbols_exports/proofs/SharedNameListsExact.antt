-- The candidates of reachable modules, grouped by names that have two or more: these are the shared names, and no other list is.
use Rattle.std.proofs.Common.{◌≡◌, ℕ, ◌⊎◌, inl, inr, Bool, true, List, [], ◌∷◌, None, refl, sym, ap, subst, ◌∙◌, arith, true≢false}
use Rattle.std.specs.Prelude.{Contains, filter}
use Rattle.std.specs.Str.{bytes_eq}
use Rattle.std.proofs.lemmas.Slice.Eq.{bytes_eq-Decides}
use Rattle.std.proofs.lemmas.Option.{same_Some}
use Rattle.symbols_ast.specs.declared.ids.SymbolId.{SymbolId}
use Rattle.symbols_ast.specs.Graph.{GraphView}
use Rattle.symbols_table.specs.Events.{default_export_name}
use Rattle.symbols_exports.specs.Chains.{chain_end_module, IsSimpleChain, IsChainBefore, IsLeastChain}
use Rattle.symbols_exports.specs.Exports.{ExportEntry, IsExportCandidate, IsExport, IsExportEntryBefore}
use Rattle.symbols_exports.specs.SharedNames.{NameWithExporters, IsExporter, HasTwoExporters, IsSharedNameEntry, IsSharedNameBefore, AreSharedNames}
use Rattle.symbols_exports.specs.SharedNameLists.{star_reached_modules_of, export_candidates_along_chains, grouped_by_name}
use Rattle.symbols_exports.specs.SharedNameLists.{has_several_exporters_first_along_star, is_nonempty_chain, shared_names_of}
use Rattle.symbols_exports.specs.StarStatements.{star_targets_of, explicit_exports_of}
use Rattle.symbols_exports.specs.Traces.{StarWalkVisit, export_candidates_along_chain}
use Rattle.symbols_exports.proofs.DistinctNames.{exports_once}
use Rattle.symbols_exports.proofs.ExportLists.{flat_from, contains_flat, flat_sorted, candidate_from, candidate_there}
use Rattle.symbols_exports.proofs.ExportLists.{candidate_sorted, covered, is_export, apart, apart_itself}
use Rattle.symbols_exports.proofs.ChainOrder.{never_before_itself, before_then_before, same_both_traces, up_to_then_before, beginning_up_to}
use Rattle.symbols_exports.proofs.Cursors.{Visit}
use Rattle.symbols_exports.proofs.ReachedLists.{reached_are_listed}
use Rattle.symbols_exports.proofs.SortedLists.{IsSorted, first_or_later, contains_first, contains_later, contains_nothing, filtered_from}
use Rattle.symbols_exports.proofs.SortedLists.{contains_filtered, sorted_pairs, pairs_sorted, sorted_filter, same_sorted, only_one}
use Rattle.symbols_exports.proofs.GroupedByName.{IsFirst, exporters_are, has_group, FirstsInOrder, groups_sorted}

-- ---- lists

-- a list sorted by one relation is sorted by another that the first implies
sorted_so : {A : Type 0} (R S : A → A → Type 0) (xs : List A) → ((x y : A) → Contains xs x → Contains xs y → R x y → S x y) → IsSorted R xs → IsSorted S xs
sorted_so R S [] gives sorted = tt
sorted_so R S (x ∷ xs) gives sorted = (
  λ y has. gives x y (contains_first x xs) (contains_later x xs y has) (sorted.0 y has),
  sorted_so R S xs (λ a b has_a has_b. gives a b (contains_later x xs a has_a) (contains_later x xs b has_b)) sorted.1,
)

abbrev entry_name : ExportEntry → List ℕ
entry_name e = e.name

abbrev along : ExportEntry → Bool
along e = is_nonempty_chain e.chain

-- a shared group has two elements, the first along an `export *`
begins : (xs : List ExportEntry) → has_several_exporters_first_along_star along xs ≡ true
    → (x : ExportEntry) × (y : ExportEntry) × (rest : List ExportEntry) × (xs ≡ x ∷ y ∷ rest) × (is_nonempty_chain x.chain ≡ true)
begins [] is = absurd (true≢false (sym is))
begins (x ∷ []) is = absurd (true≢false (sym is))
begins (x ∷ y ∷ rest) is = (x, y, rest, refl, is)

-- a group with two different elements, and the first along an `export *`, is shared
exporters_are_different : (xs : List ExportEntry) (x y : ExportEntry) → Contains xs x → Contains xs y → (x ≡ y → ⊥) →
    ((e : ExportEntry) → Contains xs e → e.chain ≡ [] → ⊥)
    → has_several_exporters_first_along_star along xs ≡ true
exporters_are_different [] x y has_x has_y differ following = absurd (contains_nothing x has_x)
exporters_are_different (a ∷ []) x y has_x has_y differ following = absurd (differ (sym (only_one a x has_x) ∙ only_one a y has_y))
exporters_are_different (a ∷ b ∷ rest) x y has_x has_y differ following = by a.chain (following a (contains_first a (b ∷ rest)))
  where
    by : (chain : List ℕ) → (chain ≡ [] → ⊥) → is_nonempty_chain chain ≡ true
    by [] never = absurd (never refl)
    by (k ∷ chain) never = refl

chain_not_nothing : (chain : List ℕ) → is_nonempty_chain chain ≡ true → chain ≡ [] → ⊥
chain_not_nothing [] is none = true≢false (sym is)
chain_not_nothing (k ∷ chain) is none = cc

-- the module where the chains begin has the empty chain
nothing_is_least : (graph : GraphView) (start : List ℕ) → IsLeastChain (star_targets_of graph) start [] start
nothing_is_least graph start =
    record {
      is_chain = record { ends_at = refl; has_no_duplicates = λ j k j_in k_in same. omega (arith, j_in, k_in) };
      least =
          λ other simple. beginning_up_to 0 other;
    }

module _ (graph : GraphView) (start : List ℕ) where
  abbrev candidates : List ExportEntry
  candidates = export_candidates_along_chains (explicit_exports_of graph) (star_reached_modules_of graph start)

  -- ---- the candidates

  abbrev trace_to : Visit → StarWalkVisit
  trace_to m = record { chain = m.0; end = m.1; unresolved_at = None }

  -- a candidate is a local export of a reachable module, by its least chain
  is_one_candidate : (e : ExportEntry) → Contains candidates e → IsLeastChain (star_targets_of graph) start e.chain e.exporter
      × Contains (explicit_exports_of graph e.exporter) (e.name, e.symbol) × (e.name ≡ default_export_name → e.chain ≡ [])
  is_one_candidate e has =
      let from = flat_from (λ (m : Visit). export_candidates_along_chain m.0 m.1 (explicit_exports_of graph m.1)) (star_reached_modules_of graph start) e has in
      let by = candidate_from (explicit_exports_of graph) (trace_to from.0) e from.2 in
      let this : from.0 ≡ (e.chain, e.exporter) = (λ i. (sym by.1 i, sym by.2 i)) in (
        ((reached_are_listed graph start).all e.chain e.exporter).0 (subst (Contains (star_reached_modules_of graph start)) this from.1),
        subst (λ u. Contains (explicit_exports_of graph u) (e.name, e.symbol)) (sym by.2) by.3,
        λ same. by.1 ∙ by.4 same,
      )

  candidate_at_end : (e : ExportEntry) → IsLeastChain (star_targets_of graph) start e.chain e.exporter
      → Contains (explicit_exports_of graph e.exporter) (e.name, e.symbol) → (e.name ≡ default_export_name → e.chain ≡ []) → Contains candidates e
  candidate_at_end e least exporter_exports_name_explicitly passed = contains_flat (λ (m : Visit). export_candidates_along_chain m.0 m.1
      (explicit_exports_of graph m.1))
      (star_reached_modules_of graph start)
      (e.chain, e.exporter) e (((reached_are_listed graph start).all e.chain e.exporter).1 least)
      (candidate_there (explicit_exports_of graph) e.chain e.exporter e.name e.symbol exporter_exports_name_explicitly passed)

  was_candidate : (e : ExportEntry) → Contains candidates e → IsExportCandidate (star_targets_of graph) (explicit_exports_of graph) start e
  was_candidate e has = let is = is_one_candidate e has in record {
    ends_at = is.0.is_chain;
    exporter_exports_name_explicitly = is.1;
    default_has_empty_chain =
        is.2;
  }

  candidates_sorted : IsSorted (IsExportEntryBefore (explicit_exports_of graph)) candidates
  candidates_sorted = flat_sorted (λ (x y : Visit). IsChainBefore x.0 y.0) (IsExportEntryBefore (explicit_exports_of graph))
      (λ (m : Visit). export_candidates_along_chain m.0 m.1
      (explicit_exports_of graph m.1)) (λ m. candidate_sorted (explicit_exports_of graph) (trace_to m)) across (star_reached_modules_of graph start)
      (pairs_sorted (λ (x y : Visit). IsChainBefore x.0 y.0) (star_reached_modules_of graph start) (reached_are_listed graph start).ordered)
    where
      across : (x y : Visit) → IsChainBefore x.0 y.0 → (a b : ExportEntry) → Contains (export_candidates_along_chain x.0 x.1 (explicit_exports_of graph x.1)) a
          → Contains (export_candidates_along_chain y.0 y.1 (explicit_exports_of graph y.1)) b → IsExportEntryBefore (explicit_exports_of graph) a b
      across x y before a b has_a has_b =
          let from_a = candidate_from (explicit_exports_of graph) (trace_to x) a has_a in
          let from_b = candidate_from (explicit_exports_of graph) (trace_to y) b has_b in
          inl (subst (λ c. IsChainBefore c b.chain) (sym from_a.1) (subst (IsChainBefore x.0) (sym from_b.1) before))

  -- one exporter has one candidate of a name
  one_of_exporter : (x y : ExportEntry) → Contains candidates x → Contains candidates y → x.name ≡ y.name → x.exporter ≡ y.exporter → x ≡ y
  one_of_exporter x y has_x has_y names exporters =
      let is_x = is_one_candidate x has_x in
      let is_y = is_one_candidate y has_y in
      let simple : IsSimpleChain (star_targets_of graph) start y.chain x.exporter =
      subst (IsSimpleChain (star_targets_of graph) start y.chain) (sym exporters) is_y.0.is_chain in
      let simple_too : IsSimpleChain (star_targets_of graph) start x.chain y.exporter =
      subst (IsSimpleChain (star_targets_of graph) start x.chain) exporters is_x.0.is_chain in
      let chains : x.chain ≡ y.chain = same_both_traces x.chain y.chain (is_x.0.least y.chain simple) (is_y.0.least x.chain simple_too) in
      let symbols : x.symbol ≡ y.symbol = exports_once graph y.exporter y.name x.symbol y.symbol (subst (λ q. Contains (explicit_exports_of graph y.exporter)
      (q, x.symbol)) names (subst (λ u. Contains (explicit_exports_of graph u) (x.name, x.symbol)) exporters is_x.1)) is_y.1 in
      λ i. record { name = names i; chain = chains i; exporter = exporters i; symbol = symbols i }

  by_one_chain : (x y : ExportEntry) → Contains candidates x → Contains candidates y → x.chain ≡ y.chain → x.exporter ≡ y.exporter
  by_one_chain x y has_x has_y chains = same_Some x.exporter y.exporter (sym (is_one_candidate x has_x).0.is_chain.ends_at
      ∙ (ap (chain_end_module (star_targets_of graph) start) chains ∙ (is_one_candidate y has_y).0.is_chain.ends_at))

  -- no candidate is in order before itself
  candidates_not_itself : (x : ExportEntry) → Contains candidates x → IsExportEntryBefore (explicit_exports_of graph) x x → ⊥
  candidates_not_itself x has (inl before) = never_before_itself x.chain before
  candidates_not_itself x has (inr along_it) = apart_itself graph start x along_it.1

  -- ---- a group of one name

  module _ (group : NameWithExporters ExportEntry) (has_group_there : Contains (grouped_by_name entry_name candidates) group) where
    abbrev has_name : ExportEntry → Bool
    has_name e = bytes_eq group.name e.name

    are : group.exporters ≡ filter has_name candidates
    are = exporters_are entry_name candidates group has_group_there

    in_candidates : (e : ExportEntry) → Contains group.exporters e → Contains candidates e × (e.name ≡ group.name)
    in_candidates e has = let from = filtered_from has_name candidates e (subst (λ es. Contains es e) are has) in
        (from.0, sym ((bytes_eq-Decides group.name e.name).0 from.1))

    in_exporters : (e : ExportEntry) → Contains candidates e → e.name ≡ group.name → Contains group.exporters e
    in_exporters e has named = subst (λ es. Contains es e) (sym are)
        (contains_filtered has_name candidates e has ((bytes_eq-Decides group.name e.name).1 (sym named)))

    sorted : IsSorted (IsExportEntryBefore (explicit_exports_of graph)) group.exporters
    sorted = subst (IsSorted (IsExportEntryBefore (explicit_exports_of graph))) (sym are)
        (sorted_filter (IsExportEntryBefore (explicit_exports_of graph)) has_name candidates candidates_sorted)

    chains_sorted : IsSorted (λ (x y : ExportEntry). IsChainBefore x.chain y.chain) group.exporters
    chains_sorted = sorted_so (IsExportEntryBefore (explicit_exports_of graph)) (λ (x y : ExportEntry). IsChainBefore x.chain y.chain) group.exporters by_chain
        sorted
      where
        by_chain : (x y : ExportEntry) → Contains group.exporters x → Contains group.exporters y → IsExportEntryBefore (explicit_exports_of graph) x y
            → IsChainBefore x.chain y.chain
        by_chain x y has_x has_y (inl before) = before
        by_chain x y has_x has_y (inr along_it) =
            let from_x = in_candidates x has_x in
            let from_y = in_candidates y has_y in
            let same : x ≡ y = one_of_exporter x y from_x.0 from_y.0 (from_x.1 ∙ sym from_y.1) (by_one_chain x y from_x.0 from_y.0 along_it.0) in
            absurd (candidates_not_itself x from_x.0 (subst (IsExportEntryBefore (explicit_exports_of graph) x) (sym same) (inr along_it)))

    exporter_from : (e : ExportEntry) → Contains group.exporters e → IsExporter (star_targets_of graph) (explicit_exports_of graph) start group.name e
    exporter_from e has =
        let from = in_candidates e has in
        let is = is_one_candidate e from.0 in
        record {
          named = from.1;
          ends_at = is.0;
          exporter_exports_name_explicitly = subst (λ q. Contains (explicit_exports_of graph e.exporter)
              (q, e.symbol)) from.1 is.1;
        }

    exporter_there : (group.name ≡ default_export_name → ⊥) → (e : ExportEntry)
        → IsExporter (star_targets_of graph) (explicit_exports_of graph) start group.name e
        → Contains group.exporters e
    exporter_there passed e exporter = in_exporters e (candidate_at_end e exporter.ends_at (subst (λ q. Contains (explicit_exports_of graph e.exporter)
        (q, e.symbol)) (sym exporter.named) exporter.exporter_exports_name_explicitly) (λ default. absurd (passed
        (sym exporter.named ∙ default)))) exporter.named

    -- if the group is shared
    module _ (is : has_several_exporters_first_along_star along group.exporters ≡ true) where
      parts : (x : ExportEntry) × (y : ExportEntry) × (rest : List ExportEntry) × (group.exporters ≡ x ∷ y ∷ rest) × (is_nonempty_chain x.chain ≡ true)
      parts = begins group.exporters is

      has_first : Contains group.exporters parts.0
      has_first = subst (λ es. Contains es parts.0) (sym parts.3) (contains_first parts.0 (parts.1 ∷ parts.2))

      has_second : Contains group.exporters parts.1
      has_second = subst (λ es. Contains es parts.1) (sym parts.3) (contains_later parts.0 (parts.1 ∷ parts.2) parts.1 (contains_first parts.1 parts.2))

      first_before : IsChainBefore parts.0.chain parts.1.chain
      first_before = (subst (IsSorted (λ (x y : ExportEntry). IsChainBefore x.chain y.chain)) parts.3 chains_sorted).0 parts.1 (contains_first parts.1 parts.2)

      is_not_default : group.name ≡ default_export_name → ⊥
      is_not_default default = chain_not_nothing parts.0.chain parts.4
          ((is_one_candidate parts.0 (in_candidates parts.0 has_first).0).2 ((in_candidates parts.0 has_first).1 ∙ default))

      -- the first comes before all others, so the start isn't one of them
      is_not_exported_by_start : (symbol : SymbolId) → Contains (explicit_exports_of graph start) (group.name, symbol) → ⊥
      is_not_exported_by_start symbol exporter_exports_name_explicitly =
          let exported : ExportEntry = record { name = group.name; chain = []; exporter = start; symbol = symbol } in
          let has : Contains group.exporters exported =
          in_exporters exported (candidate_at_end exported (nothing_is_least graph start) exporter_exports_name_explicitly (λ default. refl)) refl in
          before_it exported has (first_or_later parts.0 (parts.1 ∷ parts.2) exported (subst (λ es. Contains es exported) parts.3 has)) refl
        where
          before_it : (exported : ExportEntry) → Contains group.exporters exported → (parts.0 ≡ exported) ⊎ Contains (parts.1 ∷ parts.2) exported
              → exported.chain ≡ [] → ⊥
          before_it exported has (inl same) none = chain_not_nothing parts.0.chain parts.4 (ap (λ (e : ExportEntry). e.chain) same ∙ none)
          before_it exported has (inr later) none =
              let before : IsChainBefore parts.0.chain exported.chain =
              (subst (IsSorted (λ (x y : ExportEntry). IsChainBefore x.chain y.chain)) parts.3 chains_sorted).0 exported later in
              subst (IsChainBefore parts.0.chain) none before

      two : HasTwoExporters (star_targets_of graph) (explicit_exports_of graph) start group.name
      two = record {
        one = parts.0;
        other = parts.1;
        one_is_exporter = exporter_from parts.0 has_first;
        other_is_exporter = exporter_from parts.1 has_second;
        exporters_are_different = λ exporters.
            let from = in_candidates parts.0 has_first in
            let from_other = in_candidates parts.1 has_second in
            let same = one_of_exporter parts.0 parts.1 from.0 from_other.0 (from.1 ∙ sym from_other.1) exporters in
            never_before_itself parts.0.chain (subst (λ (e : ExportEntry). IsChainBefore parts.0.chain e.chain) (sym same) first_before);
      }

      shared_there : IsSharedNameEntry (star_targets_of graph) (explicit_exports_of graph) start group
      shared_there = record {
        is_shared = record { is_not_default = is_not_default; is_not_exported_by_start = is_not_exported_by_start; two = two };
        exporters = λ e. (exporter_from e, exporter_there is_not_default e);
        ordered = sorted_pairs (λ (x y : ExportEntry). IsChainBefore x.chain y.chain) group.exporters chains_sorted;
      }

  -- ---- the shared names

  abbrev retained : NameWithExporters ExportEntry → Bool
  retained group = has_several_exporters_first_along_star along group.exporters

  is_shared : (shared : NameWithExporters ExportEntry) → Contains (shared_names_of graph start) shared
      → IsSharedNameEntry (star_targets_of graph) (explicit_exports_of graph) start shared
  is_shared shared has = let from = filtered_from retained (grouped_by_name entry_name candidates) shared has in shared_there shared from.0 from.1

  is_listed : (shared : NameWithExporters ExportEntry) → IsSharedNameEntry (star_targets_of graph) (explicit_exports_of graph) start shared
      → Contains (shared_names_of graph start) shared
  is_listed shared they =
      let two = they.is_shared.two in
      let one_there : Contains candidates two.one = candidate_at_end two.one two.one_is_exporter.ends_at
      (subst (λ q. Contains (explicit_exports_of graph two.one.exporter) (q, two.one.symbol)) (sym two.one_is_exporter.named)
      two.one_is_exporter.exporter_exports_name_explicitly)
      (λ default. absurd (they.is_shared.is_not_default (sym two.one_is_exporter.named ∙ default))) in
      let found = has_group entry_name candidates two.one one_there in
      let named : found.0.name ≡ shared.name = found.2 ∙ two.one_is_exporter.named in
      let passed : found.0.name ≡ default_export_name → ⊥ = (λ default. they.is_shared.is_not_default (sym named ∙ default)) in
      let exporters : found.0.exporters ≡ shared.exporters = same_sorted (λ (x y : ExportEntry). IsChainBefore x.chain y.chain) found.0.exporters
      shared.exporters
      (λ x y has_x has_y before following. never_before_itself x.chain (before_then_before x.chain y.chain x.chain before following)) (chains_sorted found.0
      found.1) (pairs_sorted (λ (x y : ExportEntry). IsChainBefore x.chain y.chain) shared.exporters they.ordered) (λ e. (
        λ has. (they.exporters e).1 (subst (λ q. IsExporter (star_targets_of graph) (explicit_exports_of graph) start q e) named
            (exporter_from found.0 found.1 e has)),
        λ has. exporter_there found.0 found.1 passed e
            (subst (λ q. IsExporter (star_targets_of graph) (explicit_exports_of graph) start q e) (sym named) ((they.exporters e).0 has)),
      )) in
      let same : found.0 ≡ shared = (λ i. record { name = named i; exporters = exporters i }) in
      let has_one : Contains found.0.exporters two.one = subst (λ es. Contains es two.one) (sym exporters) ((they.exporters two.one).1 two.one_is_exporter)
      in
      let has_other : Contains found.0.exporters two.other =
      subst (λ es. Contains es two.other) (sym exporters) ((they.exporters two.other).1 two.other_is_exporter) in
      let is : has_several_exporters_first_along_star along found.0.exporters ≡ true = exporters_are_different found.0.exporters two.one two.other has_one
      has_other (λ equal.
      two.exporters_are_different (ap (λ (e : ExportEntry). e.exporter) equal)) (following found.0 found.1 named) in
      subst (Contains (shared_names_of graph start)) same (contains_filtered retained (grouped_by_name entry_name candidates) found.0 found.1 is)
    where
      following : (group : NameWithExporters ExportEntry) → Contains (grouped_by_name entry_name candidates) group → group.name ≡ shared.name
          → (e : ExportEntry)
          → Contains group.exporters e → e.chain ≡ [] → ⊥
      following group has_it named e has none =
          let exporter = exporter_from group has_it e has in
          let at_start : start ≡ e.exporter =
          same_Some start e.exporter (sym (ap (chain_end_module (star_targets_of graph) start) none) ∙ exporter.ends_at.is_chain.ends_at) in
          they.is_shared.is_not_exported_by_start e.symbol (subst (λ u. Contains (explicit_exports_of graph u) (shared.name, e.symbol)) (sym at_start)
          (subst (λ q. Contains (explicit_exports_of graph e.exporter) (q, e.symbol)) named exporter.exporter_exports_name_explicitly))

  -- ---- their order

  -- the export of a shared name is its first exporter
  export_first : (group : NameWithExporters ExportEntry) → Contains (grouped_by_name entry_name candidates) group → (group.name ≡ default_export_name → ⊥)
      → (e : ExportEntry)
      → IsExport (star_targets_of graph) (explicit_exports_of graph) start e → e.name ≡ group.name → IsFirst e group.exporters
  export_first group has_it passed e export named =
      by group.exporters (in_exporters group has_it e there named) (chains_sorted group has_it) (λ f has. in_candidates group has_it f has)
    where
      candidate_too : (other : List ℕ) → IsSimpleChain (star_targets_of graph) start other e.exporter
          → IsExportCandidate (star_targets_of graph) (explicit_exports_of
          graph) start (record { name = e.name; chain = other; exporter = e.exporter; symbol = e.symbol })
      candidate_too other simple =
          record {
            ends_at = simple;
            exporter_exports_name_explicitly = export.candidate.exporter_exports_name_explicitly;
            default_has_empty_chain =
                λ default. absurd
                (passed (sym named ∙ default));
          }

      least : IsLeastChain (star_targets_of graph) start e.chain e.exporter
      least = record {
        is_chain = export.candidate.ends_at;
        least = λ other simple.
            export.least (record { name = e.name; chain = other; exporter = e.exporter; symbol = e.symbol }) (candidate_too other simple) refl;
      }

      there : Contains candidates e
      there = candidate_at_end e least export.candidate.exporter_exports_name_explicitly export.candidate.default_has_empty_chain

      by : (exporters : List ExportEntry) → Contains exporters e → IsSorted (λ (x y : ExportEntry). IsChainBefore x.chain y.chain) exporters
          → ((f : ExportEntry) → Contains exporters f → Contains candidates f × (f.name ≡ group.name)) → IsFirst e exporters
      by [] has in_chain_order from = absurd (contains_nothing e has)
      by (f ∷ rest) has in_chain_order from = elim (first_or_later f rest e has) [
        | inl same ↦ (rest, ap (λ g. g ∷ rest) same)
        | inr later ↦
            let is_f = from f (contains_first f rest) in
            absurd (never_before_itself e.chain
            (up_to_then_before e.chain f.chain e.chain (export.least f (was_candidate f is_f.0) (is_f.1 ∙ sym named)) (in_chain_order.0 e later)))
      ]

  listed_sorted : IsSorted (IsSharedNameBefore (star_targets_of graph) (explicit_exports_of graph) start) (shared_names_of graph start)
  listed_sorted = sorted_so (FirstsInOrder entry_name (IsExportEntryBefore (explicit_exports_of graph)))
      (IsSharedNameBefore (star_targets_of graph) (explicit_exports_of graph)
      start) (shared_names_of graph start) by_exports (sorted_filter (FirstsInOrder entry_name (IsExportEntryBefore (explicit_exports_of graph))) retained
      (grouped_by_name entry_name candidates) (groups_sorted entry_name (IsExportEntryBefore (explicit_exports_of graph)) candidates candidates_sorted))
    where
      by_exports : (x y : NameWithExporters ExportEntry) → Contains (shared_names_of graph start) x → Contains (shared_names_of graph start) y
          → FirstsInOrder entry_name (IsExportEntryBefore (explicit_exports_of graph)) x y
          → IsSharedNameBefore (star_targets_of graph) (explicit_exports_of graph) start x y
      by_exports x y has_x has_y firsts = λ e f export_e export_f named_e named_f.
          let from_x = filtered_from retained (grouped_by_name entry_name candidates) x has_x in
          let from_y = filtered_from retained (grouped_by_name entry_name candidates) y has_y in
          firsts e f (export_first x from_x.0 (is_not_default x from_x.0 from_x.1) e export_e named_e)
          (export_first y from_y.0 (is_not_default y from_y.0 from_y.1) f export_f named_f)

  pub shared_are_listed : AreSharedNames (star_targets_of graph) (explicit_exports_of graph) start (shared_names_of graph start)
  shared_are_listed = record {
    all = λ shared. (is_shared shared, is_listed shared);
    ordered = sorted_pairs (IsSharedNameBefore (star_targets_of graph) (explicit_exports_of graph) start) (shared_names_of graph start) listed_sorted;
  }

  -- a shared name is exported
  export_there : (shared : NameWithExporters ExportEntry) → IsSharedNameEntry (star_targets_of graph) (explicit_exports_of graph) start shared
      → (e : ExportEntry) × IsExport (star_targets_of graph) (explicit_exports_of graph) start e × (e.name ≡ shared.name)
  export_there shared they =
      let two = they.is_shared.two in
      let exporter_exports_name_explicitly : Contains (explicit_exports_of graph two.one.exporter) (two.one.name, two.one.symbol) =
      subst (λ q. Contains (explicit_exports_of graph two.one.exporter) (q, two.one.symbol)) (sym two.one_is_exporter.named)
      two.one_is_exporter.exporter_exports_name_explicitly in
      let found = covered graph start two.one (record {
        ends_at = two.one_is_exporter.ends_at.is_chain;
        exporter_exports_name_explicitly = exporter_exports_name_explicitly;
        default_has_empty_chain = λ default. absurd (they.is_shared.is_not_default (sym two.one_is_exporter.named ∙ default));
      }) in
      (found.0, is_export graph start found.0 found.1, found.2 ∙ two.one_is_exporter.named)

  -- no other list has them
  pub shared_are_one : (names : List (NameWithExporters ExportEntry)) → AreSharedNames (star_targets_of graph) (explicit_exports_of graph) start names
      → names ≡ shared_names_of graph start
  shared_are_one names are_they = same_sorted (IsSharedNameBefore (star_targets_of graph) (explicit_exports_of graph) start) names (shared_names_of graph start)
      names_apart
      (pairs_sorted (IsSharedNameBefore (star_targets_of graph) (explicit_exports_of graph) start) names are_they.ordered) listed_sorted
      (λ shared. (λ has. is_listed shared ((are_they.all shared).0 has), λ has. (are_they.all shared).1 (is_shared shared has)))
    where
      names_apart : (x y : NameWithExporters ExportEntry) → Contains names x → Contains names y
          → IsSharedNameBefore (star_targets_of graph) (explicit_exports_of graph) start x y
          → IsSharedNameBefore (star_targets_of graph) (explicit_exports_of graph) start y x → ⊥
      names_apart x y has_x has_y there back =
          let e = export_there x ((are_they.all x).0 has_x) in
          let f = export_there y ((are_they.all y).0 has_y) in
          apart graph start e.0 f.0 e.1 f.1 (there e.0 f.0 e.1 f.1 e.2 f.2) (back f.0 e.0 f.1 e.1 f.2 e.2)
