-- What a walk in chain order found: the first entry of each name that the visited modules export or re-export.
use Rattle.std.proofs.Common.{◌≡◌, ℕ, ◌+◌, ◌≤◌, ◌⊎◌, inl, inr, List, [], ◌∷◌, ◌++◌, length, take, get_or, slice_get, Some, refl, sym, ◌∙◌, ap, subst, arith}
use Rattle.std.specs.Prelude.{Contains, AllPairs}
use Rattle.std.proofs.lemmas.List.{take_more, take_all}
use Rattle.std.proofs.lemmas.Option.{get_or_from_slice_get, slice_get_within, same_Some}
use Rattle.std.proofs.lemmas.List.Elements.{Contains-push, Contains-push_cases, Contains-append_left, Contains-get_or}
use Rattle.std.proofs.lemmas.List.Quantifiers.{all_pairs_push}
use Rattle.symbols_ast.specs.declared.ids.SymbolId.{SymbolId}
use Rattle.symbols_table.specs.Events.{default_export_name}
use Rattle.symbols_exports.specs.Chains.{StarTargets, chain_end_module, IsChainBefore, IsChainBeforeOrEqual, AreReachedByStars}
use Rattle.symbols_exports.specs.Exports.{ExplicitExports, ExportEntry, IsExportCandidate, IsExport, IsExportEntryBefore, AreExports}
use Rattle.symbols_exports.proofs.ChainOrder.{up_to_then_up_to, same_both_traces, up_to_nothing}
use Rattle.symbols_exports.proofs.Cursors.{Visit}

-- no module exports a name locally for two symbols
abbrev pub ExplicitOnce : ExplicitExports → Type 0
ExplicitOnce explicit = (u name : List ℕ) (s t : SymbolId) → Contains (explicit u) (name, s) → Contains (explicit u) (name, t) → s ≡ t

abbrev pub IsPassed : ExportEntry → Type 0
IsPassed entry = entry.name ≡ default_export_name → entry.chain ≡ []

-- the exporter was visited by the chain, or is the module visited at present, of whose names the first k were looked at
abbrev pub IsSeen : ExplicitExports → List Visit → Visit → ℕ → ExportEntry → Type 0
IsSeen explicit visited now k entry =
    (Contains visited (entry.chain, entry.exporter) × Contains (explicit entry.exporter) (entry.name, entry.symbol))
    ⊎ ((entry.chain ≡ now.0) × (entry.exporter ≡ now.1) × Contains (take k (explicit now.1)) (entry.name, entry.symbol))

-- the found entries: the first of each name among the seen entries that the chain re-exports
pub record AreFound (explicit : ExplicitExports) (visited : List Visit) (now : Visit) (k : ℕ) (found : List ExportEntry) : Type 0 where
  pub seen : (entry : ExportEntry) → Contains found entry → IsSeen explicit visited now k entry
  pub default_has_empty_chain : (entry : ExportEntry) → Contains found entry → IsPassed entry
  pub covers : (entry : ExportEntry) → IsSeen explicit visited now k entry → IsPassed entry
      → (first : ExportEntry) × Contains found first × (first.name ≡ entry.name) × IsChainBeforeOrEqual first.chain entry.chain
  pub named_once : (x y : ExportEntry) → Contains found x → Contains found y → x.name ≡ y.name → x ≡ y
  pub ordered : AllPairs (IsExportEntryBefore explicit) found

take_to_next : {A : Type 0} (xs : List A) (k : ℕ) (x : A) → slice_get xs k ≡ Some x → take (k + 1) xs ≡ take k xs ++ x ∷ []
take_to_next xs k x at = take_more xs k x (slice_get_within xs k x at) ∙ ap (λ y. take k xs ++ y ∷ []) (get_or_from_slice_get xs k x x at)

-- before the first module nothing is found
pub nothing_found : (explicit : ExplicitExports) (now : Visit) → AreFound explicit [] now 0 []
nothing_found explicit now = record {
  seen = λ entry at. absurd (omega (arith, at.1));
  default_has_empty_chain = λ entry at. absurd (omega (arith, at.1));
  covers = λ entry seen passes. absurd (unseen entry seen);
  named_once = λ x y at_x at_y same. absurd (omega (arith, at_x.1));
  ordered = λ i j d less within. absurd (omega (arith, within));
}
  where
    unseen : (entry : ExportEntry) → IsSeen explicit [] now 0 entry → ⊥
    unseen entry (inl was) = omega (arith, was.0.1)
    unseen entry (inr here) = omega (arith, here.2.1)

-- the names of a module that was visited by a chain after all earlier ones, one by one
module _ (explicit : ExplicitExports) (visited : List Visit) (now : Visit) (k : ℕ) (found : List ExportEntry) (following : (c u : List ℕ)
    → Contains visited (c, u) → IsChainBefore c now.0) (are : AreFound explicit visited now k found) (name : List
    ℕ) (symbol : SymbolId) (at_k : slice_get (explicit now.1) k ≡ Some (name, symbol)) where
  abbrev pub this : ExportEntry
  this = record { name = name; chain = now.0; exporter = now.1; symbol = symbol }

  collected : take (k + 1) (explicit now.1) ≡ take k (explicit now.1) ++ (name, symbol) ∷ []
  collected = take_to_next (explicit now.1) k (name, symbol) at_k

  still_seen : (entry : ExportEntry) → IsSeen explicit visited now k entry → IsSeen explicit visited now (k + 1) entry
  still_seen entry (inl was) = inl was
  still_seen entry (inr here) =
      inr (here.0, here.1, rw collected (Contains-append_left (take k (explicit now.1)) ((name, symbol) ∷ []) (entry.name, entry.symbol) here.2))

  was_seen_or_this : (entry : ExportEntry) → IsSeen explicit visited now (k + 1) entry → IsSeen explicit visited now k entry ⊎ (this ≡ entry)
  was_seen_or_this entry (inl was) = inl (inl was)
  was_seen_or_this entry (inr here) = elim (Contains-push_cases (take k (explicit now.1)) (name, symbol) (entry.name, entry.symbol) (rw collected at here.2)) [
    | inl earlier ↦ inl (inr (here.0, here.1, earlier))
    | inr last ↦ inr (λ i. record { name = (last i).0; chain = sym here.0 i; exporter = sym here.1 i; symbol = (last i).1 })
  ]

  chain_up_to_now : (entry : ExportEntry) → Contains found entry → IsChainBeforeOrEqual entry.chain now.0
  chain_up_to_now entry at = elim (are.seen entry at) [
    | inl was ↦ inr (following entry.chain entry.exporter was.0)
    | inr here ↦ inl here.0
  ]

  -- a name that isn't re-exported, or was found before
  pub name_passed_over : (IsPassed this → (first : ExportEntry) × Contains found first × (first.name ≡ name)) → AreFound explicit visited now (k + 1) found
  name_passed_over had = record {
    seen = λ entry at. still_seen entry (are.seen entry at);
    default_has_empty_chain = are.default_has_empty_chain;
    covers = λ entry seen passes. covers entry passes (was_seen_or_this entry seen);
    named_once = are.named_once;
    ordered = are.ordered;
  }
    where
      covers : (entry : ExportEntry) → IsPassed entry → IsSeen explicit visited now k entry ⊎ (this ≡ entry)
          → (first : ExportEntry) × Contains found first × (first.name ≡ entry.name) × IsChainBeforeOrEqual first.chain entry.chain
      covers entry passes (inl seen) = are.covers entry seen passes
      covers entry passes (inr same) =
          let first = had (subst IsPassed (sym same) passes) in
          subst (λ (e : ExportEntry). (first : ExportEntry) × Contains found first × (first.name ≡ e.name)
          × IsChainBeforeOrEqual first.chain e.chain) same (first.0, first.1, first.2, chain_up_to_now first.0 first.1)

  -- a name that is re-exported and wasn't found before
  pub name_added : IsPassed this → ((first : ExportEntry) → Contains found first → first.name ≡ name → ⊥)
      → AreFound explicit visited now (k + 1) (found ++ this ∷ [])
  name_added passes new = record {
    seen = λ entry at. seen entry (Contains-push_cases found this entry at);
    default_has_empty_chain = λ entry at. passed entry (Contains-push_cases found this entry at);
    covers = λ entry seen passes. covers entry passes (was_seen_or_this entry seen);
    named_once = λ x y at_x at_y same. named_once x y same (Contains-push_cases found this x at_x) (Contains-push_cases found this y at_y);
    ordered = all_pairs_push (IsExportEntryBefore explicit) found this are.ordered
        (λ i d less. in_order (get_or found i d) (Contains-get_or found i d less) (are.seen (get_or found i d) (Contains-get_or found i d less)));
  }
    where
      seen : (entry : ExportEntry) → Contains found entry ⊎ (this ≡ entry) → IsSeen explicit visited now (k + 1) entry
      seen entry (inl at) = still_seen entry (are.seen entry at)
      seen entry (inr same) = subst (IsSeen explicit visited now (k + 1)) same
          (inr (refl, refl, rw collected (Contains-push (take k (explicit now.1)) (name, symbol))))

      passed : (entry : ExportEntry) → Contains found entry ⊎ (this ≡ entry) → IsPassed entry
      passed entry (inl at) = are.default_has_empty_chain entry at
      passed entry (inr same) = subst IsPassed same passes

      covers : (entry : ExportEntry) → IsPassed entry → IsSeen explicit visited now k entry ⊎ (this ≡ entry)
          → (first : ExportEntry) × Contains (found ++ this ∷ []) first × (first.name ≡ entry.name) × IsChainBeforeOrEqual first.chain entry.chain
      covers entry passes (inl seen) = let first = are.covers entry seen passes in
          (first.0, Contains-append_left found (this ∷ []) first.0 first.1, first.2, first.3)
      covers entry passes (inr same) = (this, Contains-push found this, ap (λ e. e.name) same, inl (ap (λ e. e.chain) same))

      named_once : (x y : ExportEntry) → x.name ≡ y.name → Contains found x ⊎ (this ≡ x) → Contains found y ⊎ (this ≡ y) → x ≡ y
      named_once x y same (inl at_x) (inl at_y) = are.named_once x y at_x at_y same
      named_once x y same (inl at_x) (inr this_y) = absurd (new x at_x (same ∙ sym (ap (λ e. e.name) this_y)))
      named_once x y same (inr this_x) (inl at_y) = absurd (new y at_y (sym same ∙ sym (ap (λ e. e.name) this_x)))
      named_once x y same (inr this_x) (inr this_y) = sym this_x ∙ this_y

      in_order : (entry : ExportEntry) → Contains found entry → IsSeen explicit visited now k entry → IsExportEntryBefore explicit entry this
      in_order entry at (inl was) = inl (following entry.chain entry.exporter was.0)
      in_order entry at (inr here) = inr
          (here.0, (k, rw here.1 at_k, subst (λ u. Contains (take k (explicit u)) (entry.name, entry.symbol)) (sym here.1) here.2))

-- if nothing was found before, all was found in the module visited at present
pub found_here : (explicit : ExplicitExports) (visited : List Visit) (now : Visit) (k : ℕ) (found : List ExportEntry) → AreFound explicit visited now 0 []
    → AreFound explicit visited now k found → (entry : ExportEntry) → Contains found entry → entry.chain ≡ now.0
found_here explicit visited now k found nothing are entry at = elim (are.seen entry at) [
  | inl was ↦ let first = nothing.covers entry (inl was) (are.default_has_empty_chain entry at) in absurd (omega (arith, first.1.1))
  | inr here ↦ here.0
]

-- after its last name the module is one of the visited ones
pub module_done : (explicit : ExplicitExports) (visited : List Visit) (now next : Visit) (k : ℕ) (found : List ExportEntry) → length (explicit now.1) ≤ k
    → AreFound explicit visited now k found → AreFound explicit (visited ++ now ∷ []) next 0 found
module_done explicit visited now next k found ended are = record {
  seen = λ entry at. on entry (are.seen entry at);
  default_has_empty_chain = are.default_has_empty_chain;
  covers = λ entry seen passes. are.covers entry (back entry seen) passes;
  named_once = are.named_once;
  ordered = are.ordered;
}
  where
    all : take k (explicit now.1) ≡ explicit now.1
    all = take_all k (explicit now.1) ended

    on : (entry : ExportEntry) → IsSeen explicit visited now k entry → IsSeen explicit (visited ++ now ∷ []) next 0 entry
    on entry (inl was) = inl (Contains-append_left visited (now ∷ []) (entry.chain, entry.exporter) was.0, was.1)
    on entry (inr here) =
        let is_now : now ≡ (entry.chain, entry.exporter) = (λ i. (sym here.0 i, sym here.1 i)) in
        inl (
          subst (Contains (visited ++ now ∷ [])) is_now (Contains-push visited now),
          subst (λ u. Contains (explicit u) (entry.name, entry.symbol)) (sym here.1) (rw all at here.2),
        )

    back : (entry : ExportEntry) → IsSeen explicit (visited ++ now ∷ []) next 0 entry → IsSeen explicit visited now k entry
    back entry (inl was) = elim (Contains-push_cases visited now (entry.chain, entry.exporter) was.0) [
      | inl earlier ↦ inl (earlier, was.1)
      | inr same ↦ inr (
        sym (ap (λ x. x.0) same),
        sym (ap (λ x. x.1) same),
        rw all (subst (λ u. Contains (explicit u) (entry.name, entry.symbol)) (sym (ap (λ x. x.1) same)) was.1),
      )
    ]
    back entry (inr here) = absurd (omega (arith, here.2.1))

-- if all reachable modules were visited and seen, the found entries are the exports
module _ (statements : StarTargets) (explicit : ExplicitExports) (start : List ℕ) (visited : List Visit) (now : Visit) (found : List
    ExportEntry) (explicit_once : ExplicitOnce explicit) (reached : AreReachedByStars statements start visited)
    (are : AreFound explicit visited now 0 found) where
  already_visited : (entry : ExportEntry) → Contains found entry
      → Contains visited (entry.chain, entry.exporter) × Contains (explicit entry.exporter) (entry.name, entry.symbol)
  already_visited entry at = elim (are.seen entry at) [
    | inl was ↦ was
    | inr here ↦ absurd (omega (arith, here.2.1))
  ]

  candidate : (entry : ExportEntry) → Contains found entry → IsExportCandidate statements explicit start entry
  candidate entry at = record {
    ends_at = ((reached.all entry.chain entry.exporter).0 (already_visited entry at).0).is_chain;
    exporter_exports_name_explicitly = (already_visited entry at).1;
    default_has_empty_chain = are.default_has_empty_chain entry at;
  }

  -- for each candidate an entry of its name was found by no later a chain
  found_up_to : (other : ExportEntry) → IsExportCandidate statements explicit start other
      → (first : ExportEntry) × Contains found first × (first.name ≡ other.name) × IsChainBeforeOrEqual first.chain other.chain
  found_up_to other one_candidate =
      let least = reached.reached other.exporter (other.chain, one_candidate.ends_at) in
      let up_to = ((reached.all least.0 other.exporter).0 least.1).least other.chain one_candidate.ends_at in
      let by : ExportEntry = record { name = other.name; chain = least.0; exporter = other.exporter; symbol = other.symbol } in
      let first = are.covers by (inl (least.1, one_candidate.exporter_exports_name_explicitly))
      (λ e. up_to_nothing least.0 (subst (IsChainBeforeOrEqual least.0) (one_candidate.default_has_empty_chain e) up_to)) in
      (first.0, first.1, first.2, up_to_then_up_to first.0.chain least.0 other.chain first.3 up_to)

  is_export : (entry : ExportEntry) → Contains found entry → IsExport statements explicit start entry
  is_export entry at = record { candidate = candidate entry at; least = least }
    where
      least : (other : ExportEntry) → IsExportCandidate statements explicit start other → other.name ≡ entry.name → IsChainBeforeOrEqual entry.chain other.chain
      least other one_candidate same =
          let first = found_up_to other one_candidate in
          subst (λ x. IsChainBeforeOrEqual x.chain other.chain) (are.named_once first.0 entry first.1 at (first.2 ∙ same)) first.3

  is_found : (entry : ExportEntry) → IsExport statements explicit start entry → Contains found entry
  is_found entry export = subst (Contains found) same first.1
    where
      first : (first : ExportEntry) × Contains found first × (first.name ≡ entry.name) × IsChainBeforeOrEqual first.chain entry.chain
      first = found_up_to entry export.candidate

      chains : first.0.chain ≡ entry.chain
      chains = same_both_traces first.0.chain entry.chain first.3 (export.least first.0 (candidate first.0 first.1) first.2)

      exporters : first.0.exporter ≡ entry.exporter
      exporters = same_Some first.0.exporter entry.exporter (sym (candidate first.0 first.1).ends_at.ends_at
          ∙ (ap (chain_end_module statements start) chains ∙ export.candidate.ends_at.ends_at))

      symbols : first.0.symbol ≡ entry.symbol
      symbols = explicit_once entry.exporter entry.name first.0.symbol entry.symbol (subst (λ x. Contains (explicit entry.exporter) (x, first.0.symbol)) first.2
          (subst (λ u. Contains (explicit u) (first.0.name, first.0.symbol)) exporters
          (candidate first.0 first.1).exporter_exports_name_explicitly)) export.candidate.exporter_exports_name_explicitly

      same : first.0 ≡ entry
      same = λ i. record { name = first.2 i; chain = chains i; exporter = exporters i; symbol = symbols i }

  pub are_exports : AreExports statements explicit start found
  are_exports = record { all = λ entry. (is_export entry, is_found entry); ordered = are.ordered }
