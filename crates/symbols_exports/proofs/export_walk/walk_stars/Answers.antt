use Rattle.std.proofs.Common.{◌≡◌, ◌<◌, ◌+◌, ◌^◌, ℕ, List, ◌++◌, ◌∷◌, [], length, map, Option, Some, Err, sym, ap, subst, ◌∙◌, arith}
use Rattle.std.specs.Option.{option_map}
use Rattle.indexmap.specs.IndexSet.{insert_key}
use Rattle.std.proofs.lemmas.List.{length_push, nil_from_length}
use Rattle.symbols_ast.specs.declared.ids.ModuleId.{ModuleId}
use Rattle.symbols_ast.specs.declared.ids.SymbolId.{SymbolId}
use Rattle.symbols_table.specs.declared.info.fault.SymbolsFault.TheVariants.{OutOfMemory}
use Rattle.symbols_root.specs.Roots.{RootView, maybe_specifier, specifier_in}
use Rattle.symbols_exports.specs.inner.OneName.{IsExportWalkAnswer}
use Rattle.symbols_exports.specs.SharedNameLists.{groups_of_several_first_along_star}
use Rattle.symbols_exports.specs.inner.Collecting.{is_along_stars}
use Rattle.symbols_exports.specs.inner.NameFilter.{accepted_exports_of, collects_shared}
use Rattle.symbols_exports.specs.declared.module_exports.ModuleExports.{ModuleExports}
use Rattle.symbols_exports.specs.declared.frame.Frame.{Frame}
use Rattle.symbols_exports.specs.declared.name_filter.NameFilter.{NameFilter}
use Rattle.symbols_exports.specs.StarStatements.{resolve_specifier}
use Rattle.symbols_exports.specs.CollectedNames.{unresolved_star_view, resolved_export_views, resolved_shared_name_views}
use Rattle.symbols_exports.specs.inner.Collecting.{CollectedView, CollectedExportsView, nothing_collected, walk_with_unresolved_star}
use Rattle.symbols_exports.specs.inner.Collecting.{walk_with_exports_of_module, is_same_module, frame_view}
use Rattle.symbols_exports.proofs.CandidatesOfWalk.{graph_with_put_module, module_explicit}
use Rattle.symbols_exports.proofs.StoringWalk.{IsWalking}
use Rattle.symbols_exports.proofs.StepsByCalls as walking
use Rattle.symbols_exports.proofs.StepPopsFrame.{walking_back, frame_fits}
use Rattle.symbols_exports.proofs.StepStoresNothing.{walking_limits}
use Rattle.symbols_exports.proofs.WalkEndsByFilter.{Broken, on_memory, broken_off, cut_after, walked_end, walked_done, walked_alike}
use Rattle.symbols_exports.proofs.export_walk.walk_stars.Goals as goal

-- the number returned for a statement is that of the module to which its specifier resolves
abbrev gives : RootView → RootView → ModuleId → List ℕ → Option ModuleId → Type 0
gives after root here specifier_text id =
    option_map (maybe_specifier after) id ≡ option_map (λ (s : List ℕ). Some s) (resolve_specifier root.graph (specifier_in root here) specifier_text)

-- the frame of the next statement
this : (frame : Frame) (here : ModuleId) (next : ℕ) → (frame.referrer ≡ here) × (frame.position ≡ next)
    → frame ≡ record { referrer = here; position = next; specifier_text = frame.specifier_text }
this frame here next cursor = λ i. record { referrer = cursor.0 i; position = cursor.1 i; specifier_text = frame.specifier_text }

one_more : (before was now lookups : ℕ) → now ≡ was + 1 → was ≡ before + lookups → now ≡ before + (lookups + 1)
one_more before was now lookups more counted = omega (arith, more, counted)

pub returns-in_err-insert-clause-faults : goal.returns-in_err-insert-clause-faults
returns-in_err-insert-clause-faults c =
    let known : c.args.module_id.0 < length c.args.root.now.stored = c.requires.known in
    on_memory (Broken c.args.name_filter c.args.root.now c.args.module_id c.args.root.now c.args.counter.now.count c.args.counter.now.count)
    c.from_residual.result c.from_residual.ensures.1
    (broken_off c.args.name_filter c.args.root.now c.args.module_id c.args.root.now c.args.counter.now.count c.args.counter.now.count 0 OutOfMemory
    (omega arith) (walking.begun_cut c.args.name_filter c.args.root.now c.args.module_id known))

pub returns-in_err-collect_from_module-clause-faults : goal.returns-in_err-collect_from_module-clause-faults
returns-in_err-collect_from_module-clause-faults c =
    let known : c.args.module_id.0 < length c.args.root.now.stored = c.requires.known in
    on_memory (Broken c.args.name_filter c.args.root.now c.args.module_id c.args.root.now c.args.counter.now.count c.args.counter.now.count)
    c.from_residual-in_err-collect_from_module.result c.from_residual-in_err-collect_from_module.ensures.1
    (broken_off c.args.name_filter c.args.root.now c.args.module_id c.args.root.now c.args.counter.now.count c.args.counter.now.count 0 OutOfMemory
    (omega arith) (walking.begun_cut c.args.name_filter c.args.root.now c.args.module_id known))

pub walk-init : goal.walk-init
walk-init c =
    let known : c.args.module_id.0 < length c.args.root.now.stored = c.requires.known in
    let keys : c.insert.new.self.keys ≡ c.args.module_id ∷ [] =
    c.in_ok-insert.ensures.keys ∙ ap (λ ks. insert_key is_same_module ks c.args.module_id) c.new-visited.ensures.empty in
    let frames : map frame_view c.deref.result.now ≡ [] = ap (map frame_view) (c.deref.ensures.value ∙ c.new-stack.ensures.items) in
    let keeps : c.new-collected.result.keeps ≡ collects_shared c.args.name_filter c.args.root.now.rules =
    ap (λ (w : CollectedExportsView). w.keeps) c.new-collected.ensures ∙ (c.collects_shared.ensures ∙ ap (collects_shared c.args.name_filter) c.rules.ensures)
    in
    let collected : c.collect_from_module.new.self.collected ≡ graph_with_put_module c.args.name_filter c.args.root.now [] c.args.module_id nothing_collected =
    ap (λ (w : CollectedExportsView). w.collected) c.in_ok-collect_from_module.ensures
    ∙ (module_explicit c.args.name_filter c.args.root.now (map frame_view c.deref.result.now)
    c.args.module_id c.new-collected.result keeps
    ∙ (λ i. graph_with_put_module c.args.name_filter c.args.root.now (frames i) c.args.module_id ((c.new-collected.ensures i).collected))) in (
      0,
      omega arith,
      subst (λ (t : CollectedView). IsWalking c.args.name_filter c.args.root.now c.args.module_id c.args.root.now c.args.module_id 0
          c.new-stack.result.items c.insert.new.self.keys t 0) (sym collected) (rw (c.new-stack.ensures.items, keys) (walking.begun c.args.name_filter
          c.args.root.now c.args.module_id known)),
      rw keys (omega arith),
      ap (λ (w : CollectedExportsView). w.keeps) c.in_ok-collect_from_module.ensures ∙ keeps,
    )

pub resolve_specifier-requires-clause-room : goal.resolve_specifier-requires-clause-room
resolve_specifier-requires-clause-room c =
    let has_room = walking.room c.walk.invariant.2 c.star_frame_at.ensures.few c.in-Some.frame.specifier_text c.in-Some.ensures.specifier_text
    c.args.counter.now.count c.requires.room c.walk.invariant.3 in
    let fits : c.walk.counter.count + 1 < 2 ^ 128 = omega (arith, has_room, c.walk.invariant.1) in
    fits

pub returns-in-Err-clause-faults : goal.returns-in-Err-clause-faults
returns-in-Err-clause-faults c =
    let walk = c.walk.invariant.2 in
    broken_off c.args.name_filter c.args.root.now c.args.module_id c.resolve_specifier.new.root c.args.counter.now.count c.resolve_specifier.new.counter.count
    (c.walk.invariant.0 + 1) c.in-Err.fault (one_more c.args.counter.now.count c.walk.counter.count c.resolve_specifier.new.counter.count c.walk.invariant.0
    c.resolve_specifier.ensures.counted c.walk.invariant.1)
    (walking.looked_up_refused walk c.star_frame_at.ensures.few c.in-Some.frame.specifier_text c.in-Some.ensures.specifier_text
    (sym c.is_name_search_done.ensures
    ∙ c.walk-test.true) c.resolve_specifier.new.root c.in-Err.fault c.in-Err.ensures.unchanged c.in-Err.ensures.keeps.refused)

pub returns-in_err-collect_unresolved-in-Ok-None-clause-faults : goal.returns-in_err-collect_unresolved-in-Ok-None-clause-faults
returns-in_err-collect_unresolved-in-Ok-None-clause-faults c =
    on_memory (Broken c.args.name_filter c.args.root.now c.args.module_id c.resolve_specifier.new.root c.args.counter.now.count
    c.resolve_specifier.new.counter.count) c.from_residual-in_err-collect_unresolved-in-Ok-None.result
    c.from_residual-in_err-collect_unresolved-in-Ok-None.ensures.1
    (broken_off c.args.name_filter c.args.root.now c.args.module_id c.resolve_specifier.new.root c.args.counter.now.count c.resolve_specifier.new.counter.count
    (c.walk.invariant.0 + 1) OutOfMemory (one_more c.args.counter.now.count c.walk.counter.count c.resolve_specifier.new.counter.count c.walk.invariant.0
    c.resolve_specifier.ensures.counted c.walk.invariant.1)
    (walking.unresolved_cut c.walk.invariant.2 c.star_frame_at.ensures.few c.in-Some.frame.specifier_text c.in-Some.ensures.specifier_text
    c.resolve_specifier.new.root c.in-Ok-None.ensures.stored (subst (gives c.resolve_specifier.new.root c.walk.root c.walk.here
    c.in-Some.frame.specifier_text.now) c.in-Ok-None.field-0-is c.in-Ok-None.ensures.gives) (sym c.is_name_search_done.ensures ∙ c.walk-test.true)))

pub overflow_add-next : goal.overflow_add-next
overflow_add-next c = record {
  fits = walking.fits c.walk.invariant.2 c.star_frame_at.ensures.few c.in-Some.frame.specifier_text
      c.in-Some.ensures.specifier_text;
}

pub walk-smaller-in-Ok-None : goal.walk-smaller-in-Ok-None
walk-smaller-in-Ok-None c =
    walking.unresolved_less c.walk.invariant.2 c.star_frame_at.ensures.few c.in-Some.frame.specifier_text c.in-Some.ensures.specifier_text
    c.resolve_specifier.new.root c.in-Ok-None.ensures.stored (subst
    (gives c.resolve_specifier.new.root c.walk.root c.walk.here c.in-Some.frame.specifier_text.now) c.in-Ok-None.field-0-is c.in-Ok-None.ensures.gives)

pub walk-preserved-in-Ok-None : goal.walk-preserved-in-Ok-None
walk-preserved-in-Ok-None c =
    let collected : c.collect_unresolved.new.self.collected ≡ record c.walk.collected.collected {
      unresolved = c.walk.collected.collected.unresolved
          ++ (c.walk.here, c.in-Some.frame.specifier_text.now) ∷ [];
    } = ap (λ (w : CollectedExportsView). w.collected) c.in_ok-collect_unresolved-in-Ok-None.ensures
    ∙ (λ i. (walk_with_unresolved_star (frame_view (this c.in-Some.frame c.walk.here c.walk.next c.in-Some.ensures.index i)) c.walk.collected).collected) in (
      c.walk.invariant.0 + 1,
      (one_more c.args.counter.now.count c.walk.counter.count c.resolve_specifier.new.counter.count c.walk.invariant.0
          c.resolve_specifier.ensures.counted c.walk.invariant.1),
      subst (λ (t : CollectedView). IsWalking c.args.name_filter c.args.root.now c.args.module_id
          c.resolve_specifier.new.root c.walk.here (c.walk.next + 1) c.walk.stack.items c.walk.visited.keys t (c.walk.invariant.0 + 1)) (sym collected)
          (walking.looked_up_unresolved c.walk.invariant.2 c.star_frame_at.ensures.few c.in-Some.frame.specifier_text
          c.in-Some.ensures.specifier_text
          c.resolve_specifier.new.root c.in-Ok-None.ensures.stored (subst (gives c.resolve_specifier.new.root c.walk.root c.walk.here
          c.in-Some.frame.specifier_text.now) c.in-Ok-None.field-0-is c.in-Ok-None.ensures.gives) (sym c.is_name_search_done.ensures ∙ c.walk-test.true)),
      c.walk.invariant.3,
      ap (λ (w : CollectedExportsView). w.keeps) c.in_ok-collect_unresolved-in-Ok-None.ensures
          ∙ (c.walk.invariant.4 ∙ ap (collects_shared c.args.name_filter) (sym c.resolve_specifier.ensures.keeps.grown.rules)),
    )

pub visit_module-requires : goal.visit_module-requires
visit_module-requires c =
    walking.number_in c.walk.invariant.2 c.star_frame_at.ensures.few c.in-Some.frame.specifier_text c.in-Some.ensures.specifier_text
    c.resolve_specifier.new.root
    c.in-Ok-Some.ensures.stored c.in-Ok-Some.target (subst (gives c.resolve_specifier.new.root c.walk.root c.walk.here c.in-Some.frame.specifier_text.now)
    c.in-Ok-Some.field-0-is c.in-Ok-Some.ensures.gives)

pub returns-in_err-visit_module-in-Ok-Some-clause-faults : goal.returns-in_err-visit_module-in-Ok-Some-clause-faults
returns-in_err-visit_module-in-Ok-Some-clause-faults c =
    on_memory (Broken c.args.name_filter c.args.root.now c.args.module_id c.resolve_specifier.new.root c.args.counter.now.count
    c.resolve_specifier.new.counter.count) c.from_residual-in_err-visit_module-in-Ok-Some.result c.from_residual-in_err-visit_module-in-Ok-Some.ensures.1
    (broken_off c.args.name_filter c.args.root.now c.args.module_id c.resolve_specifier.new.root c.args.counter.now.count c.resolve_specifier.new.counter.count
    (c.walk.invariant.0 + 1) OutOfMemory (one_more c.args.counter.now.count c.walk.counter.count c.resolve_specifier.new.counter.count c.walk.invariant.0
    c.resolve_specifier.ensures.counted c.walk.invariant.1)
    (walking.somewhere_cut c.walk.invariant.2 c.star_frame_at.ensures.few c.in-Some.frame.specifier_text c.in-Some.ensures.specifier_text
    c.resolve_specifier.new.root c.in-Ok-Some.ensures.stored c.in-Ok-Some.target (subst (gives c.resolve_specifier.new.root c.walk.root c.walk.here
    c.in-Some.frame.specifier_text.now) c.in-Ok-Some.field-0-is c.in-Ok-Some.ensures.gives) (sym c.is_name_search_done.ensures ∙ c.walk-test.true)))

pub walk-smaller-then-branch : goal.walk-smaller-then-branch
walk-smaller-then-branch c =
    let here : Frame = record { referrer = c.walk.here; position = c.walk.next; specifier_text = c.in-Some.frame.specifier_text } in
    let same : c.in-Some.frame ≡ here = this c.in-Some.frame c.walk.here c.walk.next c.in-Some.ensures.index in
    let key = walking.new_key c.walk.visited.keys c.visit_module.new.visited.keys c.in-Ok-Some.target c.in_ok-visit_module-in-Ok-Some.field-0
    c.in_ok-visit_module-in-Ok-Some.ensures.new c.in_ok-visit_module-in-Ok-Some.ensures.visited c.if-branch.true in
    let stack : c.visit_module.new.stack.items ≡ c.walk.stack.items ++ here ∷ [] =
    walking.if_new c.in_ok-visit_module-in-Ok-Some.field-0 c.visit_module.new.stack.items (c.walk.stack.items ++ c.in-Some.frame
    ∷ []) c.walk.stack.items c.in_ok-visit_module-in-Ok-Some.ensures.stack c.if-branch.true ∙ (λ i. c.walk.stack.items ++ same i ∷ []) in
    rw (stack, key.1)
    (walking.looked_up_less c.walk.invariant.2 c.star_frame_at.ensures.few c.in-Some.frame.specifier_text c.in-Some.ensures.specifier_text
    c.resolve_specifier.new.root c.in-Ok-Some.ensures.stored c.in-Ok-Some.target (subst (gives c.resolve_specifier.new.root c.walk.root c.walk.here
    c.in-Some.frame.specifier_text.now) c.in-Ok-Some.field-0-is c.in-Ok-Some.ensures.gives) c.stored_modules_distinct.ensures key.0 c.in-Ok-Some.ensures.there)

pub walk-preserved-then-branch : goal.walk-preserved-then-branch
walk-preserved-then-branch c =
    let here : Frame = record { referrer = c.walk.here; position = c.walk.next; specifier_text = c.in-Some.frame.specifier_text } in
    let same : c.in-Some.frame ≡ here = this c.in-Some.frame c.walk.here c.walk.next c.in-Some.ensures.index in
    let key = walking.new_key c.walk.visited.keys c.visit_module.new.visited.keys c.in-Ok-Some.target c.in_ok-visit_module-in-Ok-Some.field-0
    c.in_ok-visit_module-in-Ok-Some.ensures.new c.in_ok-visit_module-in-Ok-Some.ensures.visited c.if-branch.true in
    let stack : c.visit_module.new.stack.items ≡ c.walk.stack.items ++ here ∷ [] =
    walking.if_new c.in_ok-visit_module-in-Ok-Some.field-0 c.visit_module.new.stack.items (c.walk.stack.items ++ c.in-Some.frame
    ∷ []) c.walk.stack.items c.in_ok-visit_module-in-Ok-Some.ensures.stack c.if-branch.true ∙ (λ i. c.walk.stack.items ++ same i ∷ []) in
    let explicit : List (List ℕ × SymbolId) =
    accepted_exports_of c.args.name_filter c.resolve_specifier.new.root.graph (specifier_in c.resolve_specifier.new.root c.in-Ok-Some.target) in
    let keeps : c.walk.collected.keeps ≡ collects_shared c.args.name_filter c.resolve_specifier.new.root.rules =
    c.walk.invariant.4 ∙ ap (collects_shared c.args.name_filter) (sym c.resolve_specifier.ensures.keeps.grown.rules) in
    let state : c.visit_module.new.collected ≡ walk_with_exports_of_module (map frame_view (c.walk.stack.items ++ here ∷ [])) c.in-Ok-Some.target explicit
    c.walk.collected = walking.if_new c.in_ok-visit_module-in-Ok-Some.field-0 c.visit_module.new.collected (walk_with_exports_of_module
    (map frame_view (c.walk.stack.items ++ c.in-Some.frame ∷ [])) c.in-Ok-Some.target explicit c.walk.collected) c.walk.collected
    c.in_ok-visit_module-in-Ok-Some.ensures.collected c.if-branch.true
    ∙ (λ i. walk_with_exports_of_module (map frame_view (c.walk.stack.items ++ same i ∷ [])) c.in-Ok-Some.target explicit c.walk.collected) in
    let collected : c.visit_module.new.collected.collected ≡ graph_with_put_module c.args.name_filter c.resolve_specifier.new.root
    (map frame_view (c.walk.stack.items
    ++ here ∷ [])) c.in-Ok-Some.target c.walk.collected.collected = ap (λ (w : CollectedExportsView). w.collected) state
    ∙ module_explicit c.args.name_filter c.resolve_specifier.new.root (map frame_view
    (c.walk.stack.items ++ here ∷ [])) c.in-Ok-Some.target c.walk.collected keeps in (
      c.walk.invariant.0 + 1,
      (one_more c.args.counter.now.count c.walk.counter.count c.resolve_specifier.new.counter.count c.walk.invariant.0
          c.resolve_specifier.ensures.counted c.walk.invariant.1),
      subst (λ (t : CollectedView). IsWalking c.args.name_filter c.args.root.now c.args.module_id
          c.resolve_specifier.new.root c.in-Ok-Some.target 0 c.visit_module.new.stack.items c.visit_module.new.visited.keys t (c.walk.invariant.0 + 1)) (sym
          collected) (rw (stack, key.1) (walking.looked_up_entered c.walk.invariant.2 c.star_frame_at.ensures.few c.in-Some.frame.specifier_text
          c.in-Some.ensures.specifier_text c.resolve_specifier.new.root c.in-Ok-Some.ensures.stored c.in-Ok-Some.target
          (subst (gives c.resolve_specifier.new.root c.walk.root c.walk.here c.in-Some.frame.specifier_text.now) c.in-Ok-Some.field-0-is
          c.in-Ok-Some.ensures.gives) c.stored_modules_distinct.ensures key.0 (sym c.is_name_search_done.ensures ∙ c.walk-test.true))),
      rw key.1 (omega (arith, c.in_ok-visit_module-in-Ok-Some.ensures.few c.if-branch.true, length_push c.walk.visited.keys c.in-Ok-Some.target)),
      ap (λ (w : CollectedExportsView). w.keeps) state ∙ keeps,
    )

pub overflow_add-next-else-branch : goal.overflow_add-next-else-branch
overflow_add-next-else-branch c = record {
  fits = walking.fits c.walk.invariant.2 c.star_frame_at.ensures.few c.in-Some.frame.specifier_text
      c.in-Some.ensures.specifier_text;
}

pub walk-smaller-else-branch : goal.walk-smaller-else-branch
walk-smaller-else-branch c =
    let here : Frame = record { referrer = c.walk.here; position = c.walk.next; specifier_text = c.in-Some.frame.specifier_text } in
    let same : c.in-Some.frame ≡ here = this c.in-Some.frame c.walk.here c.walk.next c.in-Some.ensures.index in
    let key = walking.old_key c.walk.visited.keys c.visit_module.new.visited.keys c.in-Ok-Some.target c.in_ok-visit_module-in-Ok-Some.field-0
    c.in_ok-visit_module-in-Ok-Some.ensures.new c.in_ok-visit_module-in-Ok-Some.ensures.visited c.if-branch.false in
    let stack : c.visit_module.new.stack.items ≡ c.walk.stack.items = walking.if_old c.in_ok-visit_module-in-Ok-Some.field-0 c.visit_module.new.stack.items
    (c.walk.stack.items ++ c.in-Some.frame ∷ []) c.walk.stack.items c.in_ok-visit_module-in-Ok-Some.ensures.stack c.if-branch.false in
    rw (stack, key.1)
    (walking.visited_less c.walk.invariant.2 c.star_frame_at.ensures.few c.in-Some.frame.specifier_text c.in-Some.ensures.specifier_text
    c.resolve_specifier.new.root c.in-Ok-Some.ensures.stored c.in-Ok-Some.target (subst (gives c.resolve_specifier.new.root c.walk.root c.walk.here
    c.in-Some.frame.specifier_text.now) c.in-Ok-Some.field-0-is c.in-Ok-Some.ensures.gives) c.stored_modules_distinct.ensures key.0)

pub walk-preserved-else-branch : goal.walk-preserved-else-branch
walk-preserved-else-branch c =
    let here : Frame = record { referrer = c.walk.here; position = c.walk.next; specifier_text = c.in-Some.frame.specifier_text } in
    let same : c.in-Some.frame ≡ here = this c.in-Some.frame c.walk.here c.walk.next c.in-Some.ensures.index in
    let key = walking.old_key c.walk.visited.keys c.visit_module.new.visited.keys c.in-Ok-Some.target c.in_ok-visit_module-in-Ok-Some.field-0
    c.in_ok-visit_module-in-Ok-Some.ensures.new c.in_ok-visit_module-in-Ok-Some.ensures.visited c.if-branch.false in
    let stack : c.visit_module.new.stack.items ≡ c.walk.stack.items = walking.if_old c.in_ok-visit_module-in-Ok-Some.field-0 c.visit_module.new.stack.items
    (c.walk.stack.items ++ c.in-Some.frame ∷ []) c.walk.stack.items c.in_ok-visit_module-in-Ok-Some.ensures.stack c.if-branch.false in
    let explicit : List (List ℕ × SymbolId) =
    accepted_exports_of c.args.name_filter c.resolve_specifier.new.root.graph (specifier_in c.resolve_specifier.new.root c.in-Ok-Some.target) in
    let state : c.visit_module.new.collected ≡ c.walk.collected = walking.if_old c.in_ok-visit_module-in-Ok-Some.field-0 c.visit_module.new.collected
    (walk_with_exports_of_module (map frame_view (c.walk.stack.items ++ c.in-Some.frame ∷ [])) c.in-Ok-Some.target explicit
    c.walk.collected) c.walk.collected c.in_ok-visit_module-in-Ok-Some.ensures.collected c.if-branch.false in
    let collected : c.visit_module.new.collected.collected ≡ c.walk.collected.collected = ap (λ (w : CollectedExportsView). w.collected) state in (
      c.walk.invariant.0 + 1,
      (one_more c.args.counter.now.count c.walk.counter.count c.resolve_specifier.new.counter.count c.walk.invariant.0
          c.resolve_specifier.ensures.counted c.walk.invariant.1),
      subst (λ (t : CollectedView). IsWalking c.args.name_filter c.args.root.now c.args.module_id
          c.resolve_specifier.new.root c.walk.here (c.walk.next + 1) c.visit_module.new.stack.items c.visit_module.new.visited.keys t (c.walk.invariant.0 + 1))
          (sym collected) (rw (stack, key.1) (walking.looked_up_visited c.walk.invariant.2 c.star_frame_at.ensures.few c.in-Some.frame.specifier_text
          c.in-Some.ensures.specifier_text c.resolve_specifier.new.root c.in-Ok-Some.ensures.stored c.in-Ok-Some.target
          (subst (gives c.resolve_specifier.new.root c.walk.root c.walk.here c.in-Some.frame.specifier_text.now) c.in-Ok-Some.field-0-is
          c.in-Ok-Some.ensures.gives) c.stored_modules_distinct.ensures key.0 (sym c.is_name_search_done.ensures ∙ c.walk-test.true))),
      rw key.1 c.walk.invariant.3,
      ap (λ (w : CollectedExportsView). w.keeps) state
          ∙ (c.walk.invariant.4 ∙ ap (collects_shared c.args.name_filter) (sym c.resolve_specifier.ensures.keeps.grown.rules)),
    )

pub overflow_add-next-in-Some-pop : goal.overflow_add-next-in-Some-pop
overflow_add-next-in-Some-pop c =
    let walk : IsWalking c.args.name_filter c.args.root.now c.args.module_id c.walk.root c.walk.here c.walk.next (c.pop.new.self.items ++ c.in-Some-pop.frame
    ∷ []) c.walk.visited.keys c.walk.collected.collected c.walk.invariant.0 = rw c.in-Some-pop.ensures.items at c.walk.invariant.2 in
    record {
      fits = frame_fits c.pop.new.self.items c.in-Some-pop.frame walk
          (walking.ended_here walk c.star_frame_at.ensures.few (sym c.in_default.ensures.specifier_text))
          (walking.few_here walk c.star_frame_at.ensures.few);
    }

pub walk-preserved : goal.walk-preserved
walk-preserved c =
    let walk : IsWalking c.args.name_filter c.args.root.now c.args.module_id c.walk.root c.walk.here c.walk.next (c.pop.new.self.items ++ c.in-Some-pop.frame
    ∷ []) c.walk.visited.keys c.walk.collected.collected c.walk.invariant.0 = rw c.in-Some-pop.ensures.items at c.walk.invariant.2 in (
      c.walk.invariant.0,
      c.walk.invariant.1,
      walking_back c.pop.new.self.items c.in-Some-pop.frame walk (walking.ended_here walk c.star_frame_at.ensures.few
          (sym c.in_default.ensures.specifier_text)) (walking.few_here walk c.star_frame_at.ensures.few) (sym c.is_name_search_done.ensures
          ∙ c.walk-test.true),
      c.walk.invariant.3,
      c.walk.invariant.4,
    )

-- the result at the end, or a failed allocation for it
abbrev Given : NameFilter → RootView → ModuleId → RootView → CollectedView → ℕ → Type 0
Given name_filter old start root collected lookups =
    IsExportWalkAnswer name_filter old root start collected.names (groups_of_several_first_along_star is_along_stars collected.candidates) collected.unresolved
    lookups

given : (name_filter : NameFilter) (old : RootView) (start : ModuleId) (root : RootView) (collected : CollectedView) (lookups before now : ℕ)
    (answer : ModuleExports) → now ≡ before + lookups → resolved_export_views answer.resolved.entries ≡ collected.names
    → resolved_shared_name_views answer.shared.items
    ≡ groups_of_several_first_along_star is_along_stars collected.candidates → map unresolved_star_view answer.unresolved_specifiers.items
    ≡ collected.unresolved
    → Given name_filter old start root collected lookups → (lookups : ℕ) × (now ≡ before + lookups)
    × IsExportWalkAnswer name_filter old root start (resolved_export_views
    answer.resolved.entries) (resolved_shared_name_views answer.shared.items) (map unresolved_star_view answer.unresolved_specifiers.items) lookups
given name_filter old start root collected lookups before now answer counted names shared unresolved is = (
  lookups,
  counted,
  walked_alike name_filter old root start collected.names (resolved_export_views answer.resolved.entries) (groups_of_several_first_along_star is_along_stars
      collected.candidates) (resolved_shared_name_views answer.shared.items) collected.unresolved
      (map unresolved_star_view answer.unresolved_specifiers.items) lookups names
      shared
      unresolved is,
)

refused : (name_filter : NameFilter) (old : RootView) (start : ModuleId) (root : RootView) (collected : CollectedView) (lookups before now : ℕ)
    → now ≡ before + lookups → Given name_filter old start root collected lookups → Broken name_filter old start root before now OutOfMemory
refused name_filter old start root collected lookups before now counted is = broken_off name_filter old start root before now lookups OutOfMemory counted
    (cut_after name_filter old root start collected.names (groups_of_several_first_along_star is_along_stars collected.candidates) collected.unresolved lookups
    is)

pub returns-in_default-pop-clause-answers : goal.returns-in_default-pop-clause-answers
returns-in_default-pop-clause-answers c =
    let walk = c.walk.invariant.2 in
    given c.args.name_filter c.args.root.now c.args.module_id c.walk.root c.walk.collected.collected c.walk.invariant.0 c.args.counter.now.count
    c.walk.counter.count c.in_ok-into_exports.field-0 c.walk.invariant.1 c.in_ok-into_exports.ensures.resolved c.in_ok-into_exports.ensures.shared
    c.in_ok-into_exports.ensures.unresolved
    (walked_end c.args.name_filter walk (sym c.is_name_search_done.ensures ∙ c.walk-test.true) (nil_from_length c.walk.stack.items
    (omega (arith, c.in_default-pop.ensures.cases.0, c.walk.stack.ok.0)))
    (walking.ended_here walk c.star_frame_at.ensures.few (sym c.in_default.ensures.specifier_text)))

pub returns-in_err-into_exports-clause-faults : goal.returns-in_err-into_exports-clause-faults
returns-in_err-into_exports-clause-faults c =
    let walk = c.walk.invariant.2 in
    on_memory (Broken c.args.name_filter c.args.root.now c.args.module_id c.walk.root c.args.counter.now.count c.walk.counter.count)
    c.from_residual-in_err-into_exports.result c.from_residual-in_err-into_exports.ensures.1
    (refused c.args.name_filter c.args.root.now c.args.module_id c.walk.root c.walk.collected.collected c.walk.invariant.0 c.args.counter.now.count
    c.walk.counter.count c.walk.invariant.1
    (walked_end c.args.name_filter walk (sym c.is_name_search_done.ensures ∙ c.walk-test.true) (nil_from_length c.walk.stack.items
    (omega (arith, c.in_default-pop.ensures.cases.0, c.walk.stack.ok.0)))
    (walking.ended_here walk c.star_frame_at.ensures.few (sym c.in_default.ensures.specifier_text))))

pub returns-clause-answers : goal.returns-clause-answers
returns-clause-answers c =
    given c.args.name_filter c.args.root.now c.args.module_id c.walk.root c.walk.collected.collected c.walk.invariant.0 c.args.counter.now.count
    c.walk.counter.count c.in_ok-into_exports-2.field-0 c.walk.invariant.1 c.in_ok-into_exports-2.ensures.resolved c.in_ok-into_exports-2.ensures.shared
    c.in_ok-into_exports-2.ensures.unresolved
    (walked_done c.args.name_filter c.walk.invariant.2 (sym c.is_name_search_done.ensures ∙ c.walk-test.false))

pub returns-in_err-into_exports-2-clause-faults : goal.returns-in_err-into_exports-2-clause-faults
returns-in_err-into_exports-2-clause-faults c =
    on_memory (Broken c.args.name_filter c.args.root.now c.args.module_id c.walk.root c.args.counter.now.count c.walk.counter.count)
    c.from_residual-in_err-into_exports-2.result c.from_residual-in_err-into_exports-2.ensures.1
    (refused c.args.name_filter c.args.root.now c.args.module_id c.walk.root c.walk.collected.collected c.walk.invariant.0 c.args.counter.now.count
    c.walk.counter.count c.walk.invariant.1
    (walked_done c.args.name_filter c.walk.invariant.2 (sym c.is_name_search_done.ensures ∙ c.walk-test.false)))

pub returns-in-Err-clause-enough : goal.returns-in-Err-clause-enough
returns-in-Err-clause-enough c = λ wide. c.in-Err.ensures.keeps.enough (walking_limits c.walk.invariant.2 ∙ wide)
