use Rattle.std.proofs.Common.{◌≡◌, ℕ, ◌+◌, ◌<◌, ◌≤◌, Some, false, true, is_some, List, [], ◌∷◌}
use Rattle.std.proofs.Common.{◌++◌, slice_get, option_map, length, refl, sym, ap, ◌∙◌, subst, arith}
use Rattle.std.specs.Prelude.{IfSome}
use Rattle.std.specs.Borrow.{Bor}
use Rattle.std.specs.List.{IsDistinct}
use Rattle.std.specs.Str.{bytes_eq}
use Rattle.std.specs.Map.Iter.{deref_pair}
use Rattle.std.proofs.lemmas.List.{length_push}
use Rattle.std.proofs.lemmas.Option.{slice_get-map}
use Rattle.std.proofs.lemmas.Map.Keys.{IsDistinct-push}
use Rattle.indexmap.specs.IndexMap.{insert_entry}
use Rattle.symbols_table.specs.Analysis.{IsAnalysisResult}
use Rattle.symbols_table.specs.declared.info.module_info.ModuleInfo.{ModuleInfo}
use Rattle.symbols_root.specs.Specifiers.{module_with_specifier, contains_specifier}
use Rattle.symbols_root.specs.declared.limits.Limits.{Limits}
use Rattle.symbols_root.specs.Roots.{RootView, widest_limits, root_with_stored_module, IsNeededAndNotStored, IsStoringFault}
use Rattle.symbols_root.specs.StoredModules.{StoredModule, stored_specifiers}
use Rattle.symbols_root.specs.inner.StoredModules.{ResolvesToStored}
use Rattle.symbols_root.specs.Growing.{HasGrown}
use Rattle.symbols_root.specs.laws.Growing.{has_grown_refl, has_grown_by_stored_module}
use Rattle.symbols_root.specs.laws.Specifiers.{on_err_if_true, bytes_eq_is_equivalence, contains_specifier_at_index, equal_if_bytes_eq}
use Rattle.symbols_root.proofs.Storing.{stored_is, index_stored, length-stored, stored_push, insert_last, get_last, whole_push}
use Rattle.symbols_root.proofs.Storing.{with_old, with_new, none_missing, refused_analysis, table_under, last_retained}
use Rattle.symbols_root.proofs.Enough.{room_within}
use Rattle.symbols_root.proofs.root_symbol.RootSymbol.store.Goals as goal

-- the specifier of the module at an index
named_at : (entries : List StoredModule) (i : ℕ) (entry : StoredModule) → slice_get entries i ≡ Some entry
    → slice_get (stored_specifiers entries) i ≡ Some entry.0.now
named_at entries i entry at = slice_get-map (λ (e : StoredModule). e.0.now) entries i ∙ ap (option_map (λ (e : StoredModule). e.0.now)) at

-- ---- the module is stored already

pub returns-in-Some-get_index_of-clause-gives : goal.returns-in-Some-get_index_of-clause-gives
returns-in-Some-get_index_of-clause-gives c =
    let at = index_stored c.self.inside.modules.entries c.specifier-specifier.result.now c.in-Some-get_index_of.index (sym c.get_index_of.ensures.index
    ∙ c.in-Some-get_index_of.is) in
    subst (λ (r : RootView). slice_get r.stored c.in-Some-get_index_of.index ≡ Some c.args.graph_module.now.specifier) c.self.view_is (at
    ∙ ap Some c.specifier-specifier.ensures)

pub returns-in-Some-get_index_of-clause-stored : goal.returns-in-Some-get_index_of-clause-stored
returns-in-Some-get_index_of-clause-stored c =
    let q = c.args.graph_module.now.specifier in
    let at = index_stored c.self.inside.modules.entries c.specifier-specifier.result.now c.in-Some-get_index_of.index (sym c.get_index_of.ensures.index
    ∙ c.in-Some-get_index_of.is) in
    let old = contains_specifier_at_index (stored_specifiers c.self.inside.modules.entries) c.in-Some-get_index_of.index q
    (at ∙ ap Some c.specifier-specifier.ensures) in
    with_old c.args.self.now q (subst (λ (r : RootView). contains_specifier r.stored q ≡ true) c.self.view_is old)

pub returns-in-Some-get_index_of-clause-allowed : goal.returns-in-Some-get_index_of-clause-allowed
returns-in-Some-get_index_of-clause-allowed c =
    let q = c.args.graph_module.now.specifier in
    let at = index_stored c.self.inside.modules.entries c.specifier-specifier.result.now c.in-Some-get_index_of.index (sym c.get_index_of.ensures.index
    ∙ c.in-Some-get_index_of.is) in
    let old = contains_specifier_at_index (stored_specifiers c.self.inside.modules.entries) c.in-Some-get_index_of.index q
    (at ∙ ap Some c.specifier-specifier.ensures) in
    λ s. none_missing c.args.self.now q s (subst (λ (r : RootView). contains_specifier r.stored q ≡ true) c.self.view_is old)

-- ---- it is right after the module requested last

pub returns-then-eq-clause-gives : goal.returns-then-eq-clause-gives
returns-then-eq-clause-gives c =
    let entry : StoredModule = (c.in-Some-get_index.stored_specifier.now, c.in-Some-get_index.field-0-1.now) in
    let at : slice_get c.self.inside.modules.entries (c.in-Some.last.0 + 1) ≡ Some entry =
    sym c.get_index.ensures.entry ∙ ap (option_map deref_pair) c.in-Some-get_index.is in
    let same = equal_if_bytes_eq c.in-Some-get_index.stored_specifier.now.now c.specifier-specifier.result.now (sym c.eq.ensures ∙ c.if-eq.true) in
    subst (λ (r : RootView). slice_get r.stored (c.in-Some.last.0 + 1) ≡ Some c.args.graph_module.now.specifier) c.self.view_is
    (named_at c.self.inside.modules.entries (c.in-Some.last.0 + 1) entry at ∙ ap Some (same ∙ c.specifier-specifier.ensures))

pub returns-then-eq-clause-stored : goal.returns-then-eq-clause-stored
returns-then-eq-clause-stored c =
    let q = c.args.graph_module.now.specifier in
    let at = returns-then-eq-clause-gives c in
    with_old c.args.self.now q (contains_specifier_at_index c.args.self.now.stored (c.in-Some.last.0 + 1) q at)

pub returns-then-eq-clause-allowed : goal.returns-then-eq-clause-allowed
returns-then-eq-clause-allowed c =
    let q = c.args.graph_module.now.specifier in
    let at = returns-then-eq-clause-gives c in
    λ s. none_missing c.args.self.now q s (contains_specifier_at_index c.args.self.now.stored (c.in-Some.last.0 + 1) q at)

pub returns-then-eq-clause-grown : goal.returns-then-eq-clause-grown
returns-then-eq-clause-grown c = has_grown_refl c.args.self.now

-- ---- the module is refused

pub returns-then-count-modules-clause-refused : goal.returns-then-count-modules-clause-refused
returns-then-count-modules-clause-refused c =
    let entries = c.self.inside.modules.entries in
    let q = c.args.graph_module.now.specifier in
    let new = stored_is entries c.specifier-specifier.result.now q false (sym c.get_index_of.ensures.found
    ∙ ap is_some c.in_default-get_index_of.is) c.specifier-specifier.ensures in
    let full : c.self.inside.limits.modules ≤ length (stored_specifiers entries) =
    omega (arith, length-stored entries, c.len-count.ensures.len, c.if-count-modules.true) in
    subst (λ (r : RootView). (x : List ℕ) × IsNeededAndNotStored r (Some q) x × (r.limits.modules ≤ length r.stored)) c.self.view_is (q, (refl, new), full)

pub returns-in-Err-clause-refused : goal.returns-in-Err-clause-refused
returns-in-Err-clause-refused c =
    let entries = c.self.inside.modules.entries in
    let m = c.args.graph_module.now in
    let new = stored_is entries c.specifier-specifier.result.now m.specifier false (sym c.get_index_of.ensures.found
    ∙ ap is_some c.in_default-get_index_of.is) c.specifier-specifier.ensures in
    let room : length (stored_specifiers entries) < c.self.inside.limits.modules =
    omega (arith, length-stored entries, c.len-count.ensures.len, c.if-count-modules.false) in
    let before : RootView =
    record { graph = c.self.inside.graph.now; rules = c.self.inside.rules; limits = c.self.inside.limits; stored = stored_specifiers entries } in
    let under : module_with_specifier before.graph m.specifier ≡ Some m =
    subst (λ (r : RootView). module_with_specifier r.graph m.specifier ≡ Some m) (sym c.self.view_is) c.requires.under in
    subst (λ (r : RootView). IsStoringFault r (Some m.specifier) c.in-Err.fault) c.self.view_is
    (refused_analysis before m c.in-Err.fault under new room c.in-Err.ensures.fault)

-- ---- the module is stored by this call

pub invariant_of-self-2 : goal.invariant_of-self-2
invariant_of-self-2 c =
    let entries = c.self.inside.modules.entries in
    let s = c.specifier-specifier.result in
    let m = c.args.graph_module.now in
    let info = c.in-Ok-Some.info in
    let new = stored_is entries s.now s.now false (sym c.get_index_of.ensures.found ∙ ap is_some c.in_default-get_index_of.is) refl in
    let inserted : c.insert.new.self.entries ≡ insert_entry (λ (x y : Bor (List ℕ)). bytes_eq x.now y.now) entries s info = c.in_ok-insert.ensures.entries in
    let pushed = inserted ∙ insert_last c.self.inside.modules s info new in
    let count : c.len-count.result ≡ length entries = c.len-count.ensures.len in
    let under : module_with_specifier c.self.inside.graph.now m.specifier ≡ Some m =
    subst (λ (r : RootView). module_with_specifier r.graph m.specifier ≡ Some m) (sym c.self.view_is) c.requires.under in
    let analysis : IsAnalysisResult (record { 0 = c.len-count.result }) m c.self.inside.limits.symbols (Some info) =
    subst (IsAnalysisResult (record { 0 = c.len-count.result }) m c.self.inside.limits.symbols) c.in-Ok-Some.field-0-is c.in-Ok-Some.ensures.table in
    let whole = table_under c.self.inside.graph.now c.self.inside.limits.symbols (record { 0 = length entries }) m info s.now under
    c.specifier-specifier.ensures (rw (← count) analysis) in
    let all = whole_push c.self.inside.graph.now c.self.inside.limits.symbols entries (s, info) c.self.invariant.0 whole in
    let within : length (entries ++ (s, info) ∷ []) ≤ c.self.inside.limits.modules =
    omega (arith, length_push entries (s, info), count, c.if-count-modules.false) in
    let once : IsDistinct bytes_eq (stored_specifiers (entries ++ (s, info) ∷ [])) =
    subst (IsDistinct bytes_eq) (sym (stored_push entries (s, info)))
    (IsDistinct-push bytes_eq_is_equivalence (stored_specifiers entries) s.now c.self.invariant.2 new) in
    let last = subst (λ (xs : List (List ℕ)). IfSome c.self.inside.last (λ l. ResolvesToStored c.self.inside.graph.now xs l.1 l.0.now))
    (sym (stored_push entries (s, info))) (last_retained c.self.inside.graph.now (stored_specifiers entries) s.now c.self.inside.last c.self.invariant.3) in
    rw pushed (all, within, once, last)

stored_after : (entries more : List StoredModule) (s : Bor (List ℕ)) (q : List ℕ) (info : ModuleInfo) → more ≡ entries ++ (s, info) ∷ [] → s.now ≡ q
    → stored_specifiers more ≡ stored_specifiers entries ++ q ∷ []
stored_after entries more s q info is same = ap stored_specifiers is ∙ (stored_push entries (s, info) ∙ ap (λ x. stored_specifiers entries ++ x ∷ []) same)

pub returns-clause-gives : goal.returns-clause-gives
returns-clause-gives c =
    let entries = c.self.inside.modules.entries in
    let s = c.specifier-specifier.result in
    let q = c.args.graph_module.now.specifier in
    let new = stored_is entries s.now s.now false (sym c.get_index_of.ensures.found ∙ ap is_some c.in_default-get_index_of.is) refl in
    let inserted : c.insert.new.self.entries ≡ insert_entry (λ (x y : Bor (List ℕ)). bytes_eq x.now y.now) entries s c.in-Ok-Some.info =
    c.in_ok-insert.ensures.entries in
    let after = stored_after entries c.insert.new.self.entries s q c.in-Ok-Some.info (inserted
    ∙ insert_last c.self.inside.modules s c.in-Ok-Some.info new) c.specifier-specifier.ensures in
    let count : c.len-count.result ≡ length (stored_specifiers entries) = c.len-count.ensures.len ∙ sym (length-stored entries) in
    rw (after, count) (get_last (stored_specifiers entries) q)

pub returns-clause-stored : goal.returns-clause-stored
returns-clause-stored c =
    let entries = c.self.inside.modules.entries in
    let s = c.specifier-specifier.result in
    let q = c.args.graph_module.now.specifier in
    let stored_specifier = stored_is entries s.now s.now false (sym c.get_index_of.ensures.found ∙ ap is_some c.in_default-get_index_of.is) refl in
    let new = stored_is entries s.now q false (sym c.get_index_of.ensures.found ∙ ap is_some c.in_default-get_index_of.is) c.specifier-specifier.ensures in
    let inserted : c.insert.new.self.entries ≡ insert_entry (λ (x y : Bor (List ℕ)). bytes_eq x.now y.now) entries s c.in-Ok-Some.info =
    c.in_ok-insert.ensures.entries in
    let after = stored_after entries c.insert.new.self.entries s q c.in-Ok-Some.info (inserted
    ∙ insert_last c.self.inside.modules s c.in-Ok-Some.info stored_specifier) c.specifier-specifier.ensures in
    let before : RootView =
    record { graph = c.self.inside.graph.now; rules = c.self.inside.rules; limits = c.self.inside.limits; stored = stored_specifiers entries } in
    let view : record {
      graph = c.self.inside.graph.now;
      rules = c.self.inside.rules;
      limits = c.self.inside.limits;
      stored = stored_specifiers
          c.insert.new.self.entries;
    } ≡ root_with_stored_module before (Some q) = ap (λ xs. record before { stored = xs }) after ∙ with_new before q new in
    subst (λ (r : RootView). record {
      graph = c.self.inside.graph.now;
      rules = c.self.inside.rules;
      limits = c.self.inside.limits;
      stored = stored_specifiers c.insert.new.self.entries;
    } ≡ root_with_stored_module r (Some q)) c.self.view_is view

-- ---- the widest limits are enough

pub returns-then-count-modules-clause-enough : goal.returns-then-count-modules-clause-enough
returns-then-count-modules-clause-enough c =
    let entries = c.self.inside.modules.entries in
    let m = c.args.graph_module.now in
    let new = stored_is entries c.specifier-specifier.result.now m.specifier false (sym c.get_index_of.ensures.found
    ∙ ap is_some c.in_default-get_index_of.is) c.specifier-specifier.ensures in
    let full : c.self.inside.limits.modules ≤ length (stored_specifiers entries) =
    omega (arith, length-stored entries, c.len-count.ensures.len, c.if-count-modules.true) in
    λ few wide. absurd (room_within c.self.inside.graph.now c.self.inside.rules c.self.inside.limits entries c.args.self.now m c.self.view_is c.self.invariant.0
    c.self.invariant.2 wide few c.requires.under new full)

pub returns-in-Err-clause-enough : goal.returns-in-Err-clause-enough
returns-in-Err-clause-enough c = λ few wide.
    let limits : c.self.inside.limits ≡ widest_limits = ap (λ (r : RootView). r.limits) c.self.view_is ∙ wide in
    c.in-Err.ensures.enough (ap (λ (l : Limits). l.symbols) limits)

-- ---- the root grows by this module only

pub returns-clause-grown : goal.returns-clause-grown
returns-clause-grown c = subst (HasGrown c.args.self.now) (sym (returns-clause-stored c))
    (has_grown_by_stored_module c.args.self.now (Some c.args.graph_module.now.specifier))

pub returns-in-Some-get_index_of-clause-grown : goal.returns-in-Some-get_index_of-clause-grown
returns-in-Some-get_index_of-clause-grown c = has_grown_refl c.args.self.now

pub returns-then-count-modules-clause-grown : goal.returns-then-count-modules-clause-grown
returns-then-count-modules-clause-grown c = has_grown_refl c.args.self.now

pub returns-in-Err-clause-grown : goal.returns-in-Err-clause-grown
returns-in-Err-clause-grown c = has_grown_refl c.args.self.now

-- ---- it fails only for a module that isn't stored

pub returns-then-count-modules-clause-unstored : goal.returns-then-count-modules-clause-unstored
returns-then-count-modules-clause-unstored c =
    let q = c.args.graph_module.now.specifier in
    let new = stored_is c.self.inside.modules.entries c.specifier-specifier.result.now q false (sym c.get_index_of.ensures.found
    ∙ ap is_some c.in_default-get_index_of.is) c.specifier-specifier.ensures in
    subst (λ (r : RootView). contains_specifier r.stored q ≡ false) c.self.view_is new

pub returns-in-Err-clause-unstored : goal.returns-in-Err-clause-unstored
returns-in-Err-clause-unstored c =
    let q = c.args.graph_module.now.specifier in
    let new = stored_is c.self.inside.modules.entries c.specifier-specifier.result.now q false (sym c.get_index_of.ensures.found
    ∙ ap is_some c.in_default-get_index_of.is) c.specifier-specifier.ensures in
    subst (λ (r : RootView). contains_specifier r.stored q ≡ false) c.self.view_is new

pub returns-in_err-insert-clause-unstored : goal.returns-in_err-insert-clause-unstored
returns-in_err-insert-clause-unstored c =
    let q = c.args.graph_module.now.specifier in
    let new = stored_is c.self.inside.modules.entries c.specifier-specifier.result.now q false (sym c.get_index_of.ensures.found
    ∙ ap is_some c.in_default-get_index_of.is) c.specifier-specifier.ensures in
    on_err_if_true c.from_residual.result (subst (λ (r : RootView). contains_specifier r.stored q ≡ false) c.self.view_is new)
