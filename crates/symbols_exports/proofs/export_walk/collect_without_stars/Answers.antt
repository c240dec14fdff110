use Rattle.std.proofs.Common.{◌≡◌, ◌<◌, ◌^◌, Bool, true, false, [], ◌∷◌, length, map, slice_get, None, refl, sym, ap, subst, ◌∙◌}
use Rattle.symbols_ast.specs.declared.ids.ModuleId.{ModuleId}
use Rattle.symbols_root.specs.Roots.{RootView, specifier_in}
use Rattle.symbols_exports.specs.StarStatements.{star_specifiers}
use Rattle.symbols_exports.specs.declared.name_filter.NameFilter.{NameFilter}
use Rattle.symbols_exports.specs.inner.OneName.{IsExportWalkAnswer}
use Rattle.symbols_exports.specs.SharedNameLists.{groups_of_several_first_along_star}
use Rattle.symbols_exports.specs.inner.Collecting.{is_along_stars}
use Rattle.symbols_exports.specs.CollectedNames.{unresolved_star_view, resolved_export_views, resolved_shared_name_views}
use Rattle.symbols_exports.specs.inner.Collecting.{CollectedView, CollectedExportsView, nothing_collected, frame_view}
use Rattle.symbols_exports.specs.inner.NameFilter.{is_name_search_done, collects_shared}
use Rattle.symbols_exports.proofs.CandidatesOfWalk.{graph_with_put_module, module_explicit}
use Rattle.symbols_exports.proofs.StoringWalk.{IsWalking}
use Rattle.symbols_exports.proofs.StepsByCalls as walking
use Rattle.symbols_exports.proofs.WalkEndsByFilter.{walked_end, walked_done, walked_alike}
use Rattle.symbols_exports.proofs.export_walk.collect_without_stars.Goals as goal

-- a walk without a next statement and without frames is at its end
alone_walked : (name_filter : NameFilter) {root : RootView} {start : ModuleId} {collected : CollectedView} (walk : IsWalking name_filter root start root start 0
    [] (start ∷ []) collected 0) → length (star_specifiers root.graph (specifier_in root start)) < 2 ^ 63
    → slice_get (star_specifiers root.graph (specifier_in root start)) 0 ≡ None
    → IsExportWalkAnswer name_filter root root start collected.names (groups_of_several_first_along_star is_along_stars collected.candidates)
    collected.unresolved 0
alone_walked name_filter {root} {start} {collected} walk few none = by (is_name_search_done name_filter collected.names) refl
  where
    by : (done : Bool) → is_name_search_done name_filter collected.names ≡ done
        → IsExportWalkAnswer name_filter root root start collected.names (groups_of_several_first_along_star is_along_stars collected.candidates)
        collected.unresolved 0
    by true is = walked_done name_filter walk is
    by false is = walked_end name_filter walk is refl (walking.ended_here walk few none)

pub returns : goal.returns
returns c =
    let root = c.args.root.now in
    let frames : map frame_view c.deref.result.now ≡ [] = ap (map frame_view) (c.deref.ensures.value ∙ c.new-empty_stack.ensures.items) in
    let keeps : c.new-collected.result.keeps ≡ collects_shared c.args.name_filter root.rules =
    ap (λ (w : CollectedExportsView). w.keeps) c.new-collected.ensures ∙ (c.collects_shared.ensures ∙ ap (collects_shared c.args.name_filter) c.rules.ensures)
    in
    let collected : c.collect_from_module.new.self.collected ≡ graph_with_put_module c.args.name_filter root [] c.args.module_id nothing_collected =
    ap (λ (w : CollectedExportsView). w.collected) c.in_ok-collect_from_module.ensures
    ∙ (module_explicit c.args.name_filter root (map frame_view c.deref.result.now)
    c.args.module_id c.new-collected.result keeps
    ∙ (λ i. graph_with_put_module c.args.name_filter root (frames i) c.args.module_id ((c.new-collected.ensures i).collected))) in
    let walk : IsWalking c.args.name_filter root c.args.module_id root c.args.module_id 0 [] (c.args.module_id ∷ []) c.collect_from_module.new.self.collected
    0 =
    subst (λ (t : CollectedView). IsWalking c.args.name_filter root c.args.module_id root c.args.module_id 0 [] (c.args.module_id ∷ []) t 0) (sym collected)
    (walking.begun c.args.name_filter root c.args.module_id c.requires.known) in
    let walked : IsExportWalkAnswer c.args.name_filter root root c.args.module_id c.collect_from_module.new.self.collected.names
    (groups_of_several_first_along_star is_along_stars
    c.collect_from_module.new.self.collected.candidates) c.collect_from_module.new.self.collected.unresolved 0 =
    alone_walked c.args.name_filter walk c.requires.few c.requires.alone in
    walked_alike c.args.name_filter root root c.args.module_id c.collect_from_module.new.self.collected.names
    (resolved_export_views c.in_ok-into_exports.field-0.resolved.entries)
    (groups_of_several_first_along_star is_along_stars c.collect_from_module.new.self.collected.candidates)
    (resolved_shared_name_views c.in_ok-into_exports.field-0.shared.items)
    c.collect_from_module.new.self.collected.unresolved (map unresolved_star_view c.in_ok-into_exports.field-0.unresolved_specifiers.items) 0
    c.in_ok-into_exports.ensures.resolved c.in_ok-into_exports.ensures.shared c.in_ok-into_exports.ensures.unresolved walked
