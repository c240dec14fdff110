-- One name among the exports, as a walk for that name alone finds it.
use Rattle.std.proofs.Common.{◌≡◌, ℕ, zero, suc, ◌<◌, ◌≤◌, inl, inr, Bool, true, false, cond, List, [], ◌∷◌, length, take}
use Rattle.std.proofs.Common.{get_or, find, option_to_list, Option, None, Some, refl, sym, ap, subst, ◌∙◌, arith, true≢false}
use Rattle.std.specs.Prelude.{Contains, AllPairs}
use Rattle.std.specs.Str.{bytes_eq}
use Rattle.std.proofs.lemmas.Option.{none-some, same_Some, slice_get_within}
use Rattle.std.proofs.lemmas.Slice.Eq.{bytes_eq-Decides}
use Rattle.symbols_ast.specs.declared.ids.SymbolId.{SymbolId}
use Rattle.symbols_table.specs.Events.{default_export_name}
use Rattle.symbols_exports.specs.Chains.{StarTargets, chain_end_module, IsChainBefore, IsChainBeforeOrEqual}
use Rattle.symbols_exports.specs.Exports.{ExplicitExports, ExportEntry, IsExportCandidate, IsExport, IsExportEntryBefore, AreExports}
use Rattle.symbols_exports.specs.OneName.{last_searched_chain, IsChainNotAfterLastSearched}
use Rattle.symbols_exports.proofs.FirstOfEachName.{ExplicitOnce, AreFound}
use Rattle.symbols_exports.proofs.LeastChainsVisited.{visited_so_far}
use Rattle.symbols_exports.proofs.ChainOrder.{never_before_itself, before_then_before, up_to_then_up_to, same_both_traces, up_to_or_after, up_to_nothing}
use Rattle.symbols_exports.proofs.Cursors.{Visit, OccursAt}
use Rattle.symbols_exports.proofs.SortedLists.{only_one, found_there}

-- ---- what is found in a list

none_there : {A : Type 0} (p : A → Bool) (xs : List A) → find p xs ≡ None → (x : A) → Contains xs x → p x ≡ true → ⊥
none_there p [] none x at passes = omega (arith, at.1)
none_there p (y ∷ xs) none x at passes = by (p y) refl none (λ same. none_there p xs same x)
  where
    by : (b : Bool) → p y ≡ b → cond b (Some y) (find p xs) ≡ None → (find p xs ≡ None → Contains xs x → p x ≡ true → ⊥) → ⊥
    by true is same rest = none-some y (sym same)
    by false is same rest = go at.0 at.1 at.2
      where
        go : (i : ℕ) → i < length (y ∷ xs) → get_or (y ∷ xs) i x ≡ x → ⊥
        go zero within here = true≢false (sym passes ∙ (ap p (sym here) ∙ is))
        go (suc i) within later = rest same (i, omega (arith, within), later) passes

pub find_only : {A : Type 0} (p : A → Bool) (xs : List A) (x : A) → Contains xs x → p x ≡ true → ((y : A) → Contains xs y → p y ≡ true → y ≡ x)
    → find p xs ≡ Some x
find_only p xs x at passes only = by (find p xs) refl
  where
    by : (found : _) → find p xs ≡ found → found ≡ Some x
    by None none = absurd (none_there p xs none x at passes)
    by (Some y) found = let there = found_there p xs y found in ap Some (only y there.0 there.1)

pub find_nothing : {A : Type 0} (p : A → Bool) (xs : List A) → ((y : A) → Contains xs y → p y ≡ true → ⊥) → find p xs ≡ None
find_nothing p xs nothing = by (find p xs) refl
  where
    by : (found : _) → find p xs ≡ found → found ≡ None
    by None none = refl
    by (Some y) found = let there = found_there p xs y found in absurd (nothing y there.0 there.1)

-- ---- the names of modules, and those of one name

module _ (statements : StarTargets) (explicit : ExplicitExports) (start : List ℕ) (explicit_once : ExplicitOnce explicit) (n : List ℕ) where
  abbrev pub is_called : List ℕ × SymbolId → Bool
  is_called x = bytes_eq n x.0

  -- the local export of this name, if there is one
  abbrev pub called : ExplicitExports
  called u = option_to_list (find is_called (explicit u))

  is_explicit : (u q : List ℕ) (s : SymbolId) → Contains (called u) (q, s) → Contains (explicit u) (q, s) × (q ≡ n)
  is_explicit u q s at = by (find is_called (explicit u)) refl at
    where
      by : (found : Option (List ℕ × SymbolId)) → find is_called (explicit u) ≡ found → Contains (option_to_list found) (q, s)
          → Contains (explicit u) (q, s) × (q ≡ n)
      by None none at = absurd (omega (arith, at.1))
      by (Some x) found at =
          let there = found_there is_called (explicit u) x found in
          let same = only_one x (q, s) at in
          (subst (Contains (explicit u)) same there.0, ap (λ y. y.0) (sym same) ∙ sym ((bytes_eq-Decides n x.0).0 there.1))

  is_called_too : (u : List ℕ) (s : SymbolId) → Contains (explicit u) (n, s) → Contains (called u) (n, s)
  is_called_too u s at =
      let found : find is_called (explicit u) ≡ Some (n, s) = find_only is_called (explicit u) (n, s) at ((bytes_eq-Decides n n).1 refl) only in
      rw found (0, omega arith, refl)
    where
      only : (x : List ℕ × SymbolId) → Contains (explicit u) x → is_called x ≡ true → x ≡ (n, s)
      only x has passes =
          let same : x.0 ≡ n = sym ((bytes_eq-Decides n x.0).0 passes) in
          let symbols : x.1 ≡ s = explicit_once u n x.1 s (subst (λ q. Contains (explicit u) (q, x.1)) same has) at in
          λ i. (same i, symbols i)

  called_once : (u : List ℕ) → length (called u) ≤ 1
  called_once u = by (find is_called (explicit u))
    where
      by : (found : Option (List ℕ × SymbolId)) → length (option_to_list found) ≤ 1
      by None = omega arith
      by (Some x) = omega arith

  -- ---- a module has one export of a name

  pub export_once : (e f : ExportEntry) → IsExport statements explicit start e → IsExport statements explicit start f → e.name ≡ f.name → e ≡ f
  export_once e f is_e is_f names =
      let chains : e.chain ≡ f.chain = same_both_traces e.chain f.chain (is_e.least f is_f.candidate (sym names)) (is_f.least e is_e.candidate names) in
      let exporters : e.exporter ≡ f.exporter =
      same_Some e.exporter f.exporter (sym is_e.candidate.ends_at.ends_at ∙ (ap (chain_end_module statements start) chains ∙ is_f.candidate.ends_at.ends_at)) in
      let symbols : e.symbol ≡ f.symbol = explicit_once f.exporter f.name e.symbol f.symbol (subst (λ q. Contains (explicit f.exporter) (q, e.symbol)) names
      (subst (λ u. Contains (explicit u)
      (e.name, e.symbol)) exporters is_e.candidate.exporter_exports_name_explicitly)) is_f.candidate.exporter_exports_name_explicitly in
      λ i. record { name = names i; chain = chains i; exporter = exporters i; symbol = symbols i }

  abbrev pub has_this_name : ExportEntry → Bool
  has_this_name entry = bytes_eq n entry.name

  module _ (exports : List ExportEntry) (they : AreExports statements explicit start exports) where
    pub entry_is : (e : ExportEntry) → IsExport statements explicit start e → e.name ≡ n → find has_this_name exports ≡ Some e
    entry_is e is name = find_only has_this_name exports e ((they.all e).1 is) ((bytes_eq-Decides n e.name).1 (sym name))
        (λ f at passes. export_once f e ((they.all f).0 at) is (sym ((bytes_eq-Decides n f.name).0 passes) ∙ sym name))

    pub no_entry : ((e : ExportEntry) → IsExport statements explicit start e → e.name ≡ n → ⊥) → find has_this_name exports ≡ None
    no_entry none = find_nothing has_this_name exports (λ f at passes. none f ((they.all f).0 at) (sym ((bytes_eq-Decides n f.name).0 passes)))

    -- ---- what the walk found before a cursor

    module _ (cursor : List ℕ) (visited : List Visit) (occurs : OccursAt statements start cursor visited) (found : List ExportEntry) (are : (now : Visit)
        → AreFound called visited now 0 found) where
      unresolved_at : Visit
      unresolved_at = ([], [])

      already_visited : (e : ExportEntry) → Contains found e → Contains visited (e.chain, e.exporter) × Contains (called e.exporter) (e.name, e.symbol)
      already_visited e at = elim ((are unresolved_at).seen e at) [
        | inl was ↦ was
        | inr here ↦ absurd (omega (arith, here.2.1))
      ]

      pub is_named : (e : ExportEntry) → Contains found e → e.name ≡ n
      is_named e at = (is_explicit e.exporter e.name e.symbol (already_visited e at).1).1

      -- for each candidate of the name before the cursor, an entry was found by no later a chain
      found_up_to : (e : ExportEntry) → IsExportCandidate statements explicit start e → e.name ≡ n → IsChainBefore e.chain cursor
          → (first : ExportEntry) × Contains found first × IsChainBeforeOrEqual first.chain e.chain
      found_up_to e one_candidate name before =
          let by = visited_so_far statements start cursor visited occurs e.chain e.exporter one_candidate.ends_at before in
          let this : ExportEntry = record { name = n; chain = by.0; exporter = e.exporter; symbol = e.symbol } in
          let exporter_exports_name_explicitly : Contains (called e.exporter) (n, e.symbol) =
          is_called_too e.exporter e.symbol (subst (λ q. Contains (explicit e.exporter) (q, e.symbol)) name one_candidate.exporter_exports_name_explicitly) in
          let first = (are unresolved_at).covers this (inl (by.1, exporter_exports_name_explicitly))
          (λ default. up_to_nothing by.0 (subst (IsChainBeforeOrEqual by.0) (one_candidate.default_has_empty_chain (name ∙ default)) by.2)) in
          (first.0, first.1, up_to_then_up_to first.0.chain by.0 e.chain first.3 by.2)

      pub found_is_export : (e : ExportEntry) → Contains found e → IsExport statements explicit start e
      found_is_export e at = record { candidate = candidate; least = least }
        where
          candidate : IsExportCandidate statements explicit start e
          candidate = record {
            ends_at = occurs.are_chains e.chain e.exporter (already_visited e at).0;
            exporter_exports_name_explicitly = (is_explicit e.exporter e.name e.symbol (already_visited e at).1).0;
            default_has_empty_chain = (are unresolved_at).default_has_empty_chain e at;
          }

          least : (other : ExportEntry) → IsExportCandidate statements explicit start other → other.name ≡ e.name → IsChainBeforeOrEqual e.chain other.chain
          least other one_candidate same = elim (up_to_or_after e.chain other.chain) [
            | inl up_to ↦ up_to
            | inr following ↦
                let before = before_then_before other.chain e.chain cursor following (occurs.before e.chain e.exporter (already_visited e at).0) in
                let first = found_up_to other one_candidate (same ∙ is_named e at) before in
                subst (λ x. IsChainBeforeOrEqual x.chain other.chain)
                ((are unresolved_at).named_once first.0 e first.1 at (is_named first.0 first.1 ∙ sym (is_named e at)))
                first.2
          ]

      not_before_itself : (e : ExportEntry) → IsExportEntryBefore called e e → ⊥
      not_before_itself e (inl before) = never_before_itself e.chain before
      not_before_itself e (inr at) =
          let within = slice_get_within (called e.exporter) at.1.0 (e.name, e.symbol) at.1.1 in
          let first : at.1.0 ≡ 0 = omega (arith, within, called_once e.exporter) in
          let nothing : Contains (take 0 (called e.exporter)) (e.name, e.symbol) =
          subst (λ j. Contains (take j (called e.exporter)) (e.name, e.symbol)) first at.1.2 in
          omega (arith, nothing.1)

      -- at most one entry was found
      pub one_found : (e : ExportEntry) (rest : List ExportEntry) → found ≡ e ∷ rest → rest ≡ []
      one_found e [] is = refl
      one_found e (f ∷ rest) is =
          let at_e : Contains found e = subst (λ xs. Contains xs e) (sym is) (0, omega arith, refl) in
          let at_f : Contains found f = subst (λ xs. Contains xs f) (sym is) (1, omega arith, refl) in
          let same : f ≡ e = (are unresolved_at).named_once f e at_f at_e (is_named f at_f ∙ sym (is_named e at_e)) in
          let ordered : AllPairs (IsExportEntryBefore called) (e ∷ f ∷ rest) = subst (AllPairs (IsExportEntryBefore called)) is (are unresolved_at).ordered in
          absurd (not_before_itself e (subst (IsExportEntryBefore called e) same (ordered 0 1 e (omega arith) (omega arith))))

      -- if nothing was found, no export of the name comes before the cursor
      pub not_before : found ≡ [] → (e : ExportEntry) → IsExport statements explicit start e → e.name ≡ n → IsChainBeforeOrEqual cursor e.chain
      not_before none e is name = elim (up_to_or_after cursor e.chain) [
        | inl up_to ↦ up_to
        | inr before ↦
            let first = found_up_to e is.candidate name before in
            let nothing : Contains [] first.0 = subst (λ xs. Contains xs first.0) none first.1 in
            absurd (omega (arith, nothing.1))
      ]

      -- so the walk isn't after the last chain
      pub within_last : found ≡ [] → bytes_eq n default_export_name ≡ false → (c : List ℕ) → IsChainBeforeOrEqual c cursor
          → IsChainNotAfterLastSearched (last_searched_chain n (find has_this_name exports)) c
      within_last none other c up_to = by (find has_this_name exports) refl
        where
          by : (entry : Option ExportEntry) → find has_this_name exports ≡ entry → IsChainNotAfterLastSearched (last_searched_chain n entry) c
          by None is = rw other tt
          by (Some e) is =
              let there = found_there has_this_name exports e is in
              up_to_then_up_to c cursor e.chain up_to (not_before none e ((they.all e).0 there.0) (sym ((bytes_eq-Decides n e.name).0 there.1)))
