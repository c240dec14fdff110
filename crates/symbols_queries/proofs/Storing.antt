-- Stored modules, by their specifiers.
use Rattle.std.proofs.Common.{◌≡◌, ℕ, ◌<◌, ◌||◌, Bool, true, false, List, [], ◌∷◌, ◌++◌, length, map, Some, refl, sym, subst, arith, true≢false}
use Rattle.std.specs.Prelude.{All, Contains, flat_map, if◌then◌else◌}
use Rattle.std.specs.Str.{bytes_eq}
use Rattle.std.proofs.lemmas.List.Elements.{All-nil, All-cons, All-head, All-tail, All-append, All-weaker, All-contains}
use Rattle.std.proofs.lemmas.List.Elements.{Contains-get_or, Contains-append_left, Contains-append_right, Contains-push}
use Rattle.std.proofs.lemmas.Slice.Eq.{bytes_eq-Decides}
use Rattle.symbols_ast.specs.declared.ids.ModuleId.{ModuleId}
use Rattle.symbols_ast.specs.Graph.{GraphView}
use Rattle.symbols_root.specs.declared.rules.Rules.{Rules}
use Rattle.symbols_root.specs.declared.rules.Rules.TheVariants.{Deno, Strict}
use Rattle.symbols_root.specs.Growing.{HasGrown}
use Rattle.symbols_root.specs.Specifiers.{contains_specifier}
use Rattle.symbols_root.specs.Roots.{RootView, root_with_stored_module, root_with_stored_modules, specifier_in}
use Rattle.symbols_root.specs.laws.Growing.{has_grown_by_stored_modules}
use Rattle.symbols_exports.specs.ExportAnswers.{IsExportsCallResult}
use Rattle.symbols_exports.specs.Chains.{IsReachedByStars, AreReachedByStars}
use Rattle.symbols_exports.specs.StarStatements.{star_targets_of}
use Rattle.symbols_exports.specs.SharedNames.{NameWithExporters}
use Rattle.symbols_exports.specs.SharedNameLists.{shared_name_view_of_resolved, AreExporterModulesStored}
use Rattle.symbols_exports.specs.CollectedNames.{ResolvedExportView}
use Rattle.symbols_exports.specs.ExportViews.{export_by_specifier, star_statement_by_specifier, AreReferrersOfStarsStored, AreModulesOfExportStored}
use Rattle.symbols_exports.specs.ExportViews.{AreModulesOfExportsStored}
use Rattle.symbols_answers.specs.Answers.{answer_exports, some_if_strict, star_referrer, modules_of_export, modules_of_shared_name, modules_of_shared_names}
use Rattle.symbols_answers.specs.Answers.{modules_of_answer}

-- the module of a stored module's number is stored
pub number_stored : (root : RootView) (id : ModuleId) → id.0 < length root.stored → Contains root.stored (specifier_in root id)
number_stored root id within = Contains-get_or root.stored id.0 [] within

-- stored modules stay
pub still_there : (old new : RootView) (v : List ℕ) → HasGrown old new → Contains old.stored v → Contains new.stored v
still_there old new v grown there = subst (λ (stored : List (List ℕ)). Contains stored v) (sym grown.stored)
    (Contains-append_left old.stored grown.added v there)

pub all_still_there : (old new : RootView) (specifiers : List (List ℕ)) → HasGrown old new → All (Contains old.stored) specifiers
    → All (Contains new.stored) specifiers
all_still_there old new specifiers grown there = All-weaker (Contains old.stored) (Contains new.stored) (λ v w. still_there old new v grown w) specifiers there

among_stored : (stored : List (List ℕ)) (v : List ℕ) → contains_specifier stored v ≡ true → Contains stored v
among_stored [] v is = absurd (true≢false (sym is))
among_stored (x ∷ stored) v is = by (bytes_eq v x) refl is (λ further. among_stored stored v further)
  where
    by : (b : Bool) → bytes_eq v x ≡ b → (b || contains_specifier stored v) ≡ true → (contains_specifier stored v ≡ true → Contains stored v)
        → Contains (x ∷ stored) v
    by true same w rest = subst (λ (u : List ℕ). Contains (x ∷ stored) u) (sym ((bytes_eq-Decides v x).0 same)) (Contains-get_or (x ∷ stored) 0 x (omega arith))
    by false other w rest = Contains-append_right (x ∷ []) stored v (rest w)

-- a module is stored after it was stored
pub stored_there : (root : RootView) (v : List ℕ) → Contains (root_with_stored_module root (Some v)).stored v
stored_there root v = by (contains_specifier root.stored v) refl
  where
    by : (b : Bool) → contains_specifier root.stored v ≡ b → Contains (if b then root.stored else root.stored ++ v ∷ []) v
    by true is = among_stored root.stored v is
    by false is = Contains-push root.stored v

-- ---- exports

abbrev end_of : List ℕ × List ℕ → List ℕ
end_of m = m.1

ends_stored : (root : RootView) (reached : List (List ℕ × List ℕ))
    → All (λ (m : List ℕ × List ℕ). Contains (root_with_stored_modules root (map end_of reached)).stored m.1) reached
ends_stored root [] = All-nil (λ (m : List ℕ × List ℕ). Contains root.stored m.1)
ends_stored root (m ∷ rest) =
    let first : RootView = root_with_stored_module root (Some m.1) in
    All-cons (λ (x : List ℕ × List ℕ). Contains (root_with_stored_modules first (map end_of rest)).stored x.1) m rest
    (still_there first (root_with_stored_modules first (map end_of rest)) m.1 (has_grown_by_stored_modules first (map end_of rest)) (stored_there root m.1))
    (ends_stored first rest)

-- each reachable module is stored
pub reached_stored : (old new : RootView) (module_id : ModuleId) (reached : List (List ℕ × List ℕ)) → new.graph ≡ old.graph
    → AreReachedByStars (star_targets_of old.graph) (specifier_in old module_id) reached → new ≡ root_with_stored_modules old (map end_of reached)
    → (end : List ℕ)
    → IsReachedByStars (star_targets_of new.graph) (specifier_in old module_id) end → Contains new.stored end
reached_stored old new module_id reached same are_reached stored end chain_ends_at =
    let visited = are_reached.reached end (subst (λ (g : GraphView). IsReachedByStars (star_targets_of g) (specifier_in old module_id) end) same chain_ends_at)
    in
    subst (λ (root : RootView). Contains root.stored end) (sym stored) (All-contains
    (λ (m : List ℕ × List ℕ). Contains (root_with_stored_modules old (map end_of reached)).stored m.1) reached (visited.0, end) (ends_stored old reached)
    visited.1)

pub reached_there : (old new : RootView) (module_id : ModuleId) (names : List ResolvedExportView) (shared : List (NameWithExporters ResolvedExportView))
    (unresolved : List (ModuleId
    × List ℕ)) (steps : ℕ) → new.graph ≡ old.graph → IsExportsCallResult old new module_id names shared unresolved steps → (end : List ℕ)
    → IsReachedByStars (star_targets_of new.graph) (specifier_in old module_id) end → Contains new.stored end
reached_there old new module_id names shared unresolved steps same is end chain_ends_at =
    reached_stored old new module_id is.reached same is.are_reached is.stored end chain_ends_at

-- the modules that statements and exports name are stored
statements_there : (root : RootView) (statements : List (ModuleId × List ℕ)) → AreReferrersOfStarsStored root statements
    → All (Contains root.stored) (map star_referrer (map (star_statement_by_specifier root) statements))
statements_there root [] numbered = All-nil (Contains root.stored)
statements_there root (statement ∷ rest) numbered =
    let known = λ (x : ModuleId × List ℕ). x.0.0 < length root.stored in
    All-cons (Contains root.stored) (specifier_in root statement.0) (map star_referrer (map (star_statement_by_specifier root) rest))
    (number_stored root statement.0 (All-head known statement rest numbered)) (statements_there root rest (All-tail known statement rest numbered))

names_there : (root : RootView) (names : List ResolvedExportView) → AreModulesOfExportsStored root names
    → All (Contains root.stored) (flat_map modules_of_export (map (export_by_specifier root) names))
names_there root [] numbered = All-nil (Contains root.stored)
names_there root (name ∷ rest) numbered =
    let is = All-head (AreModulesOfExportStored root) name rest numbered in
    let first =
    All-cons (Contains root.stored) (specifier_in root name.export.«module») (map star_referrer (map (star_statement_by_specifier root) name.statements))
    (number_stored root name.export.«module» is.export_is_stored) (statements_there root name.statements is.statements_are_stored) in
    All-append (Contains root.stored) (modules_of_export (export_by_specifier root name)) (flat_map modules_of_export (map (export_by_specifier root) rest))
    first
    (names_there root rest (All-tail (AreModulesOfExportStored root) name rest numbered))

shared_there : (root : RootView) (shared : List (NameWithExporters ResolvedExportView)) → AreExporterModulesStored root shared
    → All (Contains root.stored) (flat_map modules_of_shared_name (map (shared_name_view_of_resolved root) shared))
shared_there root [] numbered = All-nil (Contains root.stored)
shared_there root (name ∷ rest) numbered =
    All-append (Contains root.stored) (modules_of_shared_name (shared_name_view_of_resolved root name))
    (flat_map modules_of_shared_name (map (shared_name_view_of_resolved root) rest))
    (names_there root name.exporters (All-head (λ (shared : NameWithExporters ResolvedExportView). AreModulesOfExportsStored root shared.exporters) name rest
    numbered))
    (shared_there root rest (All-tail (λ (shared : NameWithExporters ResolvedExportView). AreModulesOfExportsStored root shared.exporters) name rest numbered))

sharing_there : (root : RootView) (rules : Rules) (shared : List (NameWithExporters ResolvedExportView)) → AreExporterModulesStored root shared
    → All (Contains root.stored) (modules_of_shared_names (some_if_strict rules (map (shared_name_view_of_resolved root) shared)))
sharing_there root Deno shared numbered = All-nil (Contains root.stored)
sharing_there root Strict shared numbered = shared_there root shared numbered

pub exports_there : (root : RootView) (rules : Rules) (names : List ResolvedExportView) (shared : List (NameWithExporters ResolvedExportView))
    (unresolved : List (ModuleId × List ℕ))
    → AreModulesOfExportsStored root names → AreExporterModulesStored root shared → AreReferrersOfStarsStored root unresolved
    → All (Contains root.stored) (modules_of_answer
    (answer_exports (map (export_by_specifier root) names) (some_if_strict rules (map (shared_name_view_of_resolved root) shared))
    (map (star_statement_by_specifier root) unresolved)))
exports_there root rules names shared unresolved names_in shared_in unresolved_in =
    let sharing : List (List ℕ) = modules_of_shared_names (some_if_strict rules (map (shared_name_view_of_resolved root) shared)) in
    let statements : List (List ℕ) = map star_referrer (map (star_statement_by_specifier root) unresolved) in
    All-append (Contains root.stored) (flat_map modules_of_export (map (export_by_specifier root) names)) (sharing ++ statements)
    (names_there root names names_in)
    (All-append (Contains root.stored) sharing statements (sharing_there root rules shared shared_in) (statements_there root unresolved unresolved_in))
