use Rattle.std.proofs.Common.{◌+◌, ◌<◌, ◌^◌, sym, arith}
use Rattle.symbols_root.specs.laws.Growing.{has_grown_refl}
use Rattle.symbols_paths.specs.laws.Storing.{newly_stored_among_more}
use Rattle.symbols_paths.proofs.SearchPreconditions.{fault_wider}
use Rattle.symbols_paths.proofs.StarReads.{position_within}
use Rattle.symbols_paths.proofs.StarSteps.{searched_needed, step_no_star, step_without, step_with}
use Rattle.symbols_paths.proofs.follow_decl.try_next_star.Goals as goal

pub returns-in_default-clause-steps : goal.returns-in_default-clause-steps
returns-in_default-clause-steps g c =
    let root = c.args.root.now in
    let here = c.requires.step_valid.here.expansion in
    let past = sym (rw (c.deref.ensures, c.deref-3.ensures) at c.in_default.ensures.specifier_text) in
    let stored = rw (c.into_inner-here.ensures, c.deref.ensures) at c.in_ok-with_missing_export.ensures.stored in
    step_no_star g.start (has_grown_refl root) c.args.state.now.resolving.keys c.args.state.now.visited.keys c.args.state.now.frames.items
    c.args.star c.requires c.in_ok-with_missing_export.field-0 past
    (rw (c.into_inner-here.ensures, c.deref.ensures, c.deref-2.ensures) at c.in_ok-with_missing_export.ensures.next)
    (stored root here.stored here.paths.stored c.requires.step_valid.stored)

pub returns-in-Err-clause-keeps : goal.returns-in-Err-clause-keeps
returns-in-Err-clause-keeps g c = fault_wider (has_grown_refl c.args.root.now)
    (searched_needed g.start (has_grown_refl c.args.root.now) c.args.state.now.resolving.keys c.args.state.now.visited.keys
    c.args.state.now.frames.items c.args.star c.requires)
    (rw (c.deref.ensures, c.deref-2.ensures) at c.in-Err.ensures.keeps)

pub overflow_add-deref_mut : goal.overflow_add-deref_mut
overflow_add-deref_mut g c =
    let at = sym (rw (c.deref.ensures, c.deref-3.ensures) at c.in-Some.ensures.specifier_text) in
    let within : c.args.star.value.position < 2 ^ 63 = omega (
      arith,
      position_within c.args.root.now c.args.star.value.module_id c.requires.step_valid.stored c.args.star.value.position
          c.args.star.value.name.now c.in-Some.specifier_text.now at,
      rw c.deref.ensures at c.in-Some.ensures.few,
    ) in
    rw c.deref_mut.ensures.value (record { fits = omega (arith, within) })

pub overflow_add-deref_mut-in-Ok-Some : goal.overflow_add-deref_mut-in-Ok-Some
overflow_add-deref_mut-in-Ok-Some g c =
    let at = sym (rw (c.deref.ensures, c.deref-3.ensures) at c.in-Some.ensures.specifier_text) in
    let within : c.args.star.value.position < 2 ^ 63 = omega (
      arith,
      position_within c.args.root.now c.args.star.value.module_id c.requires.step_valid.stored c.args.star.value.position
          c.args.star.value.name.now c.in-Some.specifier_text.now at,
      rw c.deref.ensures at c.in-Some.ensures.few,
    ) in
    rw c.deref_mut-in-Ok-Some.ensures.value (record { fits = omega (arith, within) })

pub returns-in-Ok-None-clause-steps : goal.returns-in-Ok-None-clause-steps
returns-in-Ok-None-clause-steps g c =
    let at = sym (rw (c.deref.ensures, c.deref-3.ensures) at c.in-Some.ensures.specifier_text) in
    let within : c.args.star.value.position < 2 ^ 63 = omega (
      arith,
      position_within c.args.root.now c.args.star.value.module_id c.requires.step_valid.stored c.args.star.value.position
          c.args.star.value.name.now c.in-Some.specifier_text.now at,
      rw c.deref.ensures at c.in-Some.ensures.few,
    ) in
    let gives = rw (c.in-Ok-None.field-0-is, c.deref.ensures, c.deref-2.ensures) at c.in-Ok-None.ensures.gives in
    step_without g.start c.in-Ok-None.ensures.keeps.grown c.args.state.now.resolving.keys c.args.state.now.visited.keys c.args.state.now.frames.items
    c.args.star c.requires c.in-Some.specifier_text.now at within _
    (λ i. record (c.deref_mut.ensures.value i) { position = (c.deref_mut.ensures.value i).position + 1 }) gives

pub returns-clause-steps : goal.returns-clause-steps
returns-clause-steps g c =
    let at = sym (rw (c.deref.ensures, c.deref-3.ensures) at c.in-Some.ensures.specifier_text) in
    let within : c.args.star.value.position < 2 ^ 63 = omega (
      arith,
      position_within c.args.root.now c.args.star.value.module_id c.requires.step_valid.stored c.args.star.value.position
          c.args.star.value.name.now c.in-Some.specifier_text.now at,
      rw c.deref.ensures at c.in-Some.ensures.few,
    ) in
    let gives = rw (c.in-Ok-Some.field-0-is, c.deref.ensures, c.deref-2.ensures) at c.in-Ok-Some.ensures.gives in
    let stored = rw c.in-Ok-Some.field-0-is at c.in-Ok-Some.ensures.stored in
    rw c.in_ok-push_front-in-Ok-Some.ensures.items (step_with g.start c.in-Ok-Some.ensures.keeps.grown
    c.args.state.now.resolving.keys c.args.state.now.visited.keys c.args.state.now.frames.items c.args.star c.requires c.in-Some.specifier_text.now at within _
    (λ i. record (c.deref_mut-in-Ok-Some.ensures.value i) { position = (c.deref_mut-in-Ok-Some.ensures.value i).position + 1 })
    c.in-Ok-Some.candidate stored gives)

pub returns-in-Err-clause-stores : goal.returns-in-Err-clause-stores
returns-in-Err-clause-stores g c = newly_stored_among_more (rw (c.deref.ensures, c.deref-2.ensures) at c.in-Err.ensures.stores)
    (searched_needed g.start (has_grown_refl c.args.root.now) c.args.state.now.resolving.keys c.args.state.now.visited.keys
    c.args.state.now.frames.items c.args.star c.requires)

pub returns-in-Ok-None-clause-stores : goal.returns-in-Ok-None-clause-stores
returns-in-Ok-None-clause-stores g c = newly_stored_among_more (rw (c.deref.ensures, c.deref-2.ensures) at c.in-Ok-None.ensures.stores)
    (searched_needed g.start (has_grown_refl c.args.root.now) c.args.state.now.resolving.keys c.args.state.now.visited.keys
    c.args.state.now.frames.items c.args.star c.requires)

pub returns-in_err-push_front-in-Ok-Some-clause-stores : goal.returns-in_err-push_front-in-Ok-Some-clause-stores
returns-in_err-push_front-in-Ok-Some-clause-stores g c = newly_stored_among_more (rw (c.deref.ensures, c.deref-2.ensures) at c.in-Ok-Some.ensures.stores)
    (searched_needed g.start (has_grown_refl c.args.root.now) c.args.state.now.resolving.keys c.args.state.now.visited.keys
    c.args.state.now.frames.items c.args.star c.requires)

pub returns-clause-stores : goal.returns-clause-stores
returns-clause-stores g c = newly_stored_among_more (rw (c.deref.ensures, c.deref-2.ensures) at c.in-Ok-Some.ensures.stores)
    (searched_needed g.start (has_grown_refl c.args.root.now) c.args.state.now.resolving.keys c.args.state.now.visited.keys
    c.args.state.now.frames.items c.args.star c.requires)
