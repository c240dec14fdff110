-- The work that is left of a walk: it ends, since each step leaves less.
use Rattle.std.proofs.Common.{◌≡◌, ℕ, ◌+◌, ◌<◌, ◌^◌, false, List, [], ◌∷◌, ◌++◌, length, map, slice_get, Some, subst, arith}
use Rattle.std.specs.Prelude.{Contains}
use Rattle.std.proofs.lemmas.List.{map-append, length_push}
use Rattle.std.proofs.lemmas.List.Sums.{sum_by_push}
use Rattle.symbols_ast.specs.declared.ids.ModuleId.{ModuleId}
use Rattle.symbols_ast.specs.Graph.{GraphView, ModuleView}
use Rattle.symbols_root.specs.Specifiers.{module_with_specifier, contains_specifier}
use Rattle.symbols_root.specs.Roots.{RootView, root_with_stored_module, maybe_specifier, specifier_in}
use Rattle.symbols_exports.specs.declared.frame.Frame.{Frame}
use Rattle.symbols_exports.specs.declared.name_filter.NameFilter.{NameFilter}
use Rattle.symbols_exports.specs.StarStatements.{star_specifiers, resolve_specifier, star_targets_of}
use Rattle.symbols_exports.specs.inner.Collecting.{CollectedView}
use Rattle.symbols_exports.proofs.VisitedModules.{visited_modules}
use Rattle.symbols_exports.proofs.UnvisitedWeight.{unvisited, unvisited_entered}
use Rattle.symbols_exports.proofs.StoringWalk.{IsWalking, fork_in, forks_in, left, left_at}
use Rattle.symbols_exports.proofs.StepVisitsModule as entered
use Rattle.symbols_exports.proofs.StepStoresNothing.{is_one}
use Rattle.symbols_exports.proofs.WalkEndsOrBreaks.{not_visited}

abbrev pub weight : GraphView → List ℕ → ℕ
weight graph specifier = length (star_targets_of graph specifier) + 1

-- the weight of the modules that weren't visited; the statements that are left in the others; and the frames to pop
abbrev pub work_left : GraphView → RootView → ModuleId → ℕ → List Frame → List ModuleId → ℕ
work_left graph root here next stack ids = unvisited (weight graph) (map (specifier_in root) ids) graph.modules
    + left (star_targets_of graph) (specifier_in root here) next (forks_in root stack) + length stack

pub next_less : (graph : GraphView) (root : RootView) (here : ModuleId) (next : ℕ) (stack : List Frame) (ids : List ModuleId)
    → next < length (star_targets_of graph (specifier_in root here)) → work_left graph root here (next + 1) stack ids < work_left graph root here next stack ids
next_less graph root here next stack ids is_one = omega (arith, is_one)

pub back_less : (graph : GraphView) (root : RootView) (here : ModuleId) (next : ℕ) (stack : List Frame) (frame : Frame) (ids : List ModuleId)
    → work_left graph root frame.referrer (frame.position + 1) stack ids < work_left graph root here next (stack ++ frame ∷ []) ids
back_less graph root here next stack frame ids =
    rw (map-append (fork_in root) stack (frame ∷ []))
    (omega (arith, length_push stack frame, sum_by_push (left_at (star_targets_of graph)) (forks_in root stack) (fork_in root frame)))

module _ {name_filter : NameFilter} {old : RootView} {start : ModuleId} {root : RootView} (frame : Frame) {stack : List Frame} {ids : List ModuleId}
    {collected : CollectedView} {lookups : ℕ} (walk : IsWalking name_filter old start root frame.referrer frame.position stack ids collected lookups)
    (specifier_is : slice_get (star_specifiers old.graph (specifier_in root frame.referrer)) frame.position ≡ Some frame.specifier_text.now)
    (few_here : length (star_targets_of old.graph (specifier_in root frame.referrer)) < 2 ^ 63) (v : List ℕ)
    (ends_at : resolve_specifier old.graph (specifier_in
    root frame.referrer) frame.specifier_text.now ≡ Some v) (is_fresh : contains_specifier (visited_modules walk.visited) v ≡ false) (number : ModuleId)
    (number_is : maybe_specifier (root_with_stored_module root (Some v)) number ≡ Some v) (m : ModuleView) (there : module_with_specifier old.graph v ≡ Some m)
  where
    fresh : (c : List ℕ) → Contains walk.visited (c, v) → ⊥
    fresh = not_visited frame walk specifier_is few_here v is_fresh

    pub entered_less : work_left old.graph (root_with_stored_module root (Some v)) number 0 (stack ++ frame ∷ []) (ids ++ number ∷ [])
        < work_left old.graph root frame.referrer frame.position stack ids
    entered_less =
        let fewer = unvisited_entered (weight old.graph) (map (specifier_in root) ids) v
        (subst (λ xs. contains_specifier xs v ≡ false) walk.visited_are is_fresh)
        old.graph.modules m there in
        rw (
          entered.ids_are frame walk specifier_is few_here v ends_at fresh number number_is,
          entered.forks_are frame walk specifier_is few_here v ends_at fresh
              number number_is,
          entered.number_is frame walk specifier_is few_here v ends_at fresh number number_is,
        )
        (omega (
          arith,
          fewer,
          is_one walk frame.specifier_text.now specifier_is,
          length_push stack frame,
          sum_by_push (left_at (star_targets_of old.graph)) (forks_in root stack) (fork_in root frame),
        ))
