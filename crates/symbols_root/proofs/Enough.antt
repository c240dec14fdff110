-- The widest limits leave room for each module of a graph.
use Rattle.std.proofs.Common.{◌≡◌, ℕ, ◌<◌, ◌≤◌, ◌-◌, ◌^◌, true, false, List, [], ◌∷◌, ◌++◌, length}
use Rattle.std.proofs.Common.{slice_get, option_map, Option, None, Some, refl, sym, ap, subst, ◌∙◌, arith}
use Rattle.std.specs.List.{IsDistinct}
use Rattle.std.specs.Str.{bytes_eq}
use Rattle.std.proofs.lemmas.List.{length_push}
use Rattle.std.proofs.lemmas.Map.Keys.{IsDistinct-push}
use Rattle.std.proofs.lemmas.Option.{none-some, same_Some, slice_get-map}
use Rattle.symbols_ast.specs.Graph.{GraphView, ModuleView}
use Rattle.symbols_graph.specs.GraphFaults.{module_specifiers}
use Rattle.symbols_root.specs.declared.limits.Limits.{Limits}
use Rattle.symbols_root.specs.declared.rules.Rules.{Rules}
use Rattle.symbols_root.specs.Specifiers.{module_with_specifier, contains_specifier}
use Rattle.symbols_root.specs.Roots.{RootView, widest_limits}
use Rattle.symbols_root.specs.StoredModules.{StoredModule, stored_specifiers}
use Rattle.symbols_root.specs.inner.StoredModules.{AreTablesOfModules}
use Rattle.symbols_root.specs.laws.Specifiers.{bytes_eq_is_equivalence, AreSpecifiersOfModulesIn, specifier_of_found_module_is_in_graph}
use Rattle.symbols_root.specs.laws.Specifiers.{pushed_specifiers_are_in_graph, distinct_specifiers_are_at_most_modules, specifier_index_if_contained}

-- ---- modules

-- stored modules are modules of the graph
pub stored_in : (graph : GraphView) (limit : ℕ) (entries : List StoredModule) → AreTablesOfModules graph limit entries → AreSpecifiersOfModulesIn graph
    (stored_specifiers entries)
stored_in graph limit entries all q is =
    let at = specifier_index_if_contained (stored_specifiers entries) q is in
    by at.0 (slice_get entries at.0) refl (sym (slice_get-map (λ (e : StoredModule). e.0.now) entries at.0) ∙ at.1)
  where
    by : (i : ℕ) (o : Option StoredModule) → slice_get entries i ≡ o → option_map (λ (e : StoredModule). e.0.now) (slice_get entries i) ≡ Some q
        → contains_specifier (module_specifiers graph.modules) q ≡ true
    by i None gets here = absurd (none-some q (ap (option_map (λ (e : StoredModule). e.0.now)) (sym gets) ∙ here))
    by i (Some entry) gets here =
        let same : entry.0.now ≡ q = same_Some entry.0.now q (ap (option_map (λ (e : StoredModule). e.0.now)) (sym gets) ∙ here) in
        let whole = all i entry gets in
        specifier_of_found_module_is_in_graph graph q whole.graph_module (ap (module_with_specifier graph) (sym same) ∙ whole.under)

-- ---- so there is always room

pub always_room : (root : RootView) (m : ModuleView) → root.limits ≡ widest_limits → length root.graph.modules < 4294967296 → IsDistinct bytes_eq root.stored
    → AreSpecifiersOfModulesIn root.graph root.stored → module_with_specifier root.graph m.specifier ≡ Some m → contains_specifier root.stored m.specifier
    ≡ false
    → root.limits.modules ≤ length root.stored → ⊥
always_room root m wide few once inside under new full =
    let more = distinct_specifiers_are_at_most_modules root.graph (root.stored ++ m.specifier ∷ [])
    (IsDistinct-push bytes_eq_is_equivalence root.stored m.specifier once new)
    (pushed_specifiers_are_in_graph root.graph root.stored m inside under) in
    let limit : root.limits.modules ≡ 2 ^ 32 - 1 = ap (λ (l : Limits). l.modules) wide in
    omega (arith, more, length_push root.stored m.specifier, limit, few, full)

-- the same for the view of a root that stores these modules
pub room_within : (graph : GraphView) (rules : Rules) (limits : Limits) (entries : List StoredModule) (root : RootView) (m : ModuleView)
    → record { graph = graph; rules = rules; limits = limits; stored = stored_specifiers entries } ≡ root → AreTablesOfModules graph limits.symbols entries
    → IsDistinct bytes_eq (stored_specifiers entries)
    → root.limits ≡ widest_limits → length root.graph.modules < 4294967296 → module_with_specifier root.graph m.specifier ≡ Some m
    → contains_specifier (stored_specifiers entries) m.specifier ≡ false → limits.modules ≤ length (stored_specifiers entries) → ⊥
room_within graph rules limits entries root m view all once wide few under new full =
    let inside = subst (λ (r : RootView). AreSpecifiersOfModulesIn r.graph r.stored) view (stored_in graph limits.symbols entries all) in
    let once' = subst (λ (r : RootView). IsDistinct bytes_eq r.stored) view once in
    let new' = subst (λ (r : RootView). contains_specifier r.stored m.specifier ≡ false) view new in
    let full' = subst (λ (r : RootView). r.limits.modules ≤ length r.stored) view full in
    always_room root m wide few once' inside under new' full'
