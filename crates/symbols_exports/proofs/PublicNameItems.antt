-- The items listed for exports: they are those of the graph's entries, distinct, and of symbols that the modules have.
use Rattle.std.proofs.Common.{◌≡◌, ℕ, inl, inr, not, List, map, get_or, Some, None, sym, ap, subst, ◌∙◌}
use Rattle.std.specs.Prelude.{◌≢◌, Contains, All, AllPairs, filter, flat_map}
use Rattle.std.proofs.lemmas.List.{get_or_default}
use Rattle.std.proofs.lemmas.List.Folds.{flat_map-map}
use Rattle.std.proofs.lemmas.Map.Made.{AllPairs-from_IsDistinct}
use Rattle.std.proofs.lemmas.Option.{none-some, same_Some}
use Rattle.std.proofs.lemmas.Slice.Eq.{bytes_eq-Decides}
use Rattle.symbols_ast.specs.declared.ids.ModuleId.{ModuleId}
use Rattle.symbols_ast.specs.declared.ids.SymbolId.{SymbolId}
use Rattle.symbols_ast.specs.Graph.{GraphView}
use Rattle.symbols_table.specs.declared.info.fault.SymbolsFault.TheVariants.{OutOfMemory}
use Rattle.symbols_root.specs.Roots.{RootView}
use Rattle.symbols_exports.specs.ExportAnswers.{IsExportsCallResult, IsExportsCallFault, AreExportListsCorrectAndUnique}
use Rattle.symbols_exports.specs.Exports.{ExportEntry}
use Rattle.symbols_exports.specs.PublicNames.{ExportedNameWithMember, is_constructor_or_index_signature, exports_of_symbol, public_names_of_members}
use Rattle.symbols_exports.specs.PublicNames.{public_names_with_members, public_names_of}
use Rattle.symbols_exports.specs.inner.PublicNames.{IsExplicitExport, public_names_of_export}
use Rattle.symbols_exports.specs.SharedNames.{NameWithExporters}
use Rattle.symbols_exports.specs.StarStatements.{explicit_exports_of}
use Rattle.symbols_exports.specs.CollectedNames.{ResolvedExportView}
use Rattle.symbols_exports.specs.ExportViews.{ExportView, export_view_of_entry, export_by_specifier, AreModulesOfExportsStored}
use Rattle.symbols_exports.specs.Traces.{star_walk_visits_of, export_candidates_at_visit, is_same_export_name, exports_of, export_views_of_module}
use Rattle.symbols_exports.proofs.DistinctNames.{exported_once, Setting}
use Rattle.symbols_exports.proofs.ExportLists.{flat_sorted}
use Rattle.symbols_exports.proofs.WalkEndsOrBreaks.{answer_broken}
use Rattle.symbols_exports.proofs.SortedLists.{IsSorted, sorted_pairs, pairs_sorted, sorted_map, sorted_mapped}
use Rattle.symbols_exports.proofs.SortedLists.{sorted_filter, first_apart, contains_mapped, mapped_from, first_or_later}

-- ---- none twice

item_of : List ℕ → Setting → ExportedNameWithMember
item_of name member = record { name = name; member = Some member.0 }

-- a symbol's exports differ in their names
exported_apart : (graph : GraphView) (u : List ℕ) (s : SymbolId) → IsSorted (λ (x y : Setting). x.0 ≡ y.0 → ⊥) (exports_of_symbol graph u s)
exported_apart graph u s = sorted_mapped (λ x y. x ≡ y → ⊥) (λ (x : Setting). x.0) (exports_of_symbol graph u s) (pairs_sorted (λ x y. x ≡ y
    → ⊥) (map (λ (x : Setting). x.0) (exports_of_symbol graph u s))
    (AllPairs-from_IsDistinct bytes_eq-Decides (map (λ (x : Setting). x.0) (exports_of_symbol graph u s)) (exported_once graph u s)))

member_is : (a b : ExportedNameWithMember) → a ≡ b → a.member ≡ b.member
member_is a b same = ap (λ (item : ExportedNameWithMember). item.member) same

-- so do the items under a name
items_apart : (name : List ℕ) (members : List Setting) → IsSorted (λ (x y : Setting). x.0 ≡ y.0 → ⊥) members
    → IsSorted (λ (a b : ExportedNameWithMember). a ≡ b → ⊥) (public_names_with_members name members)
items_apart name members apart = (
  λ b has same. let from = mapped_from (λ (member : Setting). record { name = name; member = Some member.0 })
      (filter (λ (member : Setting). not (is_constructor_or_index_signature member.0)) members) b has in
      none-some from.0.0 (member_is (record { name = name; member = None }) b same ∙ sym (member_is (record { name = name; member = Some from.0.0 }) b from.2)),
  sorted_map (λ (x y : Setting). x.0 ≡ y.0 → ⊥) (λ (a b : ExportedNameWithMember). a ≡ b → ⊥)
      (λ (member : Setting). record { name = name; member = Some member.0 })
      (λ x y other same. other (same_Some x.0 y.0 (member_is (record { name = name; member = Some x.0 }) (record { name = name; member = Some y.0 }) same)))
      (filter (λ (member : Setting). not (is_constructor_or_index_signature member.0)) members)
      (sorted_filter (λ (x y : Setting). x.0 ≡ y.0 → ⊥) (λ (member : Setting). not (is_constructor_or_index_signature member.0)) members apart),
)

-- and all of them have that name
named_so : (name : List ℕ) (members : List Setting) (a : ExportedNameWithMember) → Contains (public_names_with_members name members) a → a.name ≡ name
named_so name members a has = elim (first_or_later (record { name = name; member = None }) (public_names_of_members name members) a has) [
  | inl is ↦ sym (ap (λ (item : ExportedNameWithMember). item.name) is)
  | inr later ↦ let from = mapped_from (λ (member : Setting). record { name = name; member = Some member.0 }) (filter
      (λ (member : Setting). not (is_constructor_or_index_signature member.0)) members) a later
      in sym (ap (λ (item : ExportedNameWithMember). item.name) from.2)
]

pub public_apart : (graph : GraphView) (start : List ℕ) → AllPairs (λ (a b : ExportedNameWithMember). a ≢ b) (public_names_of graph start)
public_apart graph start =
    sorted_pairs (λ (a b : ExportedNameWithMember). a ≡ b → ⊥) (public_names_of graph start)
    (flat_sorted (λ (x y : ExportEntry). x.name ≡ y.name → ⊥) (λ (a b : ExportedNameWithMember). a ≡ b
    → ⊥) (λ (entry : ExportEntry). public_names_with_members entry.name (exports_of_symbol graph entry.exporter entry.symbol))
    (λ entry. items_apart entry.name (exports_of_symbol graph entry.exporter entry.symbol) (exported_apart graph entry.exporter entry.symbol))
    (λ x y other a b has_a has_b same. other (sym (named_so x.name (exports_of_symbol graph x.exporter x.symbol) a has_a)
    ∙ (ap (λ (item : ExportedNameWithMember). item.name) same ∙ named_so y.name (exports_of_symbol graph y.exporter y.symbol) b has_b)))
    (exports_of graph start) (first_apart is_same_export_name (λ (entry : ExportEntry). entry.name) (λ x y. bytes_eq-Decides x.name y.name)
    (flat_map (export_candidates_at_visit (explicit_exports_of graph)) (star_walk_visits_of graph start))))

-- ---- by the numbers of a root

viewed_items : GraphView → ExportView → List ExportedNameWithMember
viewed_items graph viewed = public_names_with_members viewed.name (exports_of_symbol graph viewed.exporter viewed.symbol)

pub items_viewed : (new : RootView) (graph : GraphView) (start : List ℕ) (names : List ResolvedExportView) → new.graph ≡ graph
    → map (export_by_specifier new) names ≡ export_views_of_module graph start → flat_map (public_names_of_export new) names ≡ public_names_of graph start
unfolding viewed_items
items_viewed new graph start names same views_there =
    sym (flat_map-map (viewed_items new.graph) (export_by_specifier new) names) ∙ (ap (flat_map (viewed_items new.graph)) views_there
    ∙ (ap (λ g. flat_map (viewed_items g) (export_views_of_module graph start)) same
    ∙ flat_map-map (viewed_items graph) (export_view_of_entry graph start) (exports_of graph start)))

exports_viewed : GraphView → ExportView → Type 0
exports_viewed graph viewed = Contains (explicit_exports_of graph viewed.exporter) (viewed.name, viewed.symbol)

pub all_explicit : (new : RootView) (graph : GraphView) (start : List ℕ) (names : List ResolvedExportView) → new.graph ≡ graph
    → AreExportListsCorrectAndUnique graph start
    → AreModulesOfExportsStored new names → map (export_by_specifier new) names ≡ export_views_of_module graph start
    → All (λ (name : ResolvedExportView). IsExplicitExport new name.export) names
unfolding exports_viewed
all_explicit new graph start names same listed numbered views_there k d within =
    let name : ResolvedExportView = get_or names k d in
    let has : Contains names name = (k, within, get_or_default names k name d within) in
    let from = mapped_from (export_view_of_entry graph start) (exports_of graph start) (export_by_specifier new name)
    (subst (λ (viewed : List ExportView). Contains viewed (export_by_specifier new name)) views_there
    (contains_mapped (export_by_specifier new) names name has)) in
    let exporter_exports_name_explicitly : exports_viewed graph (export_view_of_entry graph start from.0) =
    ((listed.are_exports.all from.0).0 from.1).candidate.exporter_exports_name_explicitly in
    record {
      stored = (numbered k d within).export_is_stored;
      name = name.name;
      explicit = subst (λ g. exports_viewed g (export_by_specifier new name)) (sym same) (subst (exports_viewed graph) from.2 exporter_exports_name_explicitly);
    }

-- ---- if an allocation failed for the list

pub refused_after : {old new : RootView} {start : ModuleId} {names : List ResolvedExportView} {shared : List (NameWithExporters ResolvedExportView)}
    {unresolved : List (ModuleId
    × List ℕ)} {lookups : ℕ} → IsExportsCallResult old new start names shared unresolved lookups → IsExportsCallFault old new start OutOfMemory lookups
refused_after is = inr (answer_broken is)
