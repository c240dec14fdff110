use Rattle.std.proofs.Common.{◌≡◌, ◌∙◌, ◌++◌, ◌∷◌, [], length, Some, ap}
use Rattle.symbols_root.specs.Roots.{RootView}
use Rattle.symbols_root.specs.laws.Growing.{has_grown_refl, stored_id_remains_stored}
use Rattle.symbols_paths.specs.declared.search_step.PartsSearch.{PartsSearch}
use Rattle.symbols_paths.specs.laws.Storing.{newly_stored_among_more}
use Rattle.symbols_paths.specs.PathTrees.{forest_below_link_unless_empty}
use Rattle.symbols_paths.specs.Derived.{part_link_head}
use Rattle.symbols_paths.specs.Views.{strings_view, definition_by_specifier}
use Rattle.symbols_paths.specs.inner.PathBuilders.{remaining_parts}
use Rattle.symbols_paths.proofs.Forwards.{option_stored}
use Rattle.symbols_paths.proofs.SearchPreconditions.{fault_wider}
use Rattle.symbols_paths.proofs.PartsSteps.{step_replaced, none_left, in_hand_at, hand_stored, hand_declared, hand_needs, step_itself, step_lacking}
use Rattle.symbols_paths.proofs.PartsSteps.{step_to_symbol}
use Rattle.symbols_paths.proofs.resume_search.replace_next_definition.Goals as goal

pub returns-in-None-clause-steps : goal.returns-in-None-clause-steps
returns-in-None-clause-steps g c =
    let root = c.args.root.now in
    let w = c.args.search.value in
    let items : c.deref-2.result.now ≡ w.definitions.items = c.deref-2.ensures.value ∙ ap (λ (s : PartsSearch). s.definitions.items) c.deref.ensures in
    let count : c.len.result ≡ length w.replacements.items =
    c.len.ensures ∙ (ap (λ (s : PartsSearch). s.replacements.len) c.deref-3.ensures ∙ w.replacements.ok.0) in
    step_replaced g.start (has_grown_refl root) c.args.state.now.resolving.keys c.args.state.now.visited.keys c.args.state.now.frames.items
    c.args.search c.requires c.in_ok-replaced_paths-in-None.field-0
    (none_left w c.deref-2.result.now c.len.result items count c.in-None.ensures.lookup.3) c.in_ok-replaced_paths-in-None.ensures.found
    (c.in_ok-replaced_paths-in-None.ensures.stored root c.requires.step_valid.paths c.requires.step_valid.replacements.stored)

pub part_target_of-requires-clause-known : goal.part_target_of-requires-clause-known
part_target_of-requires-clause-known g c =
    let w = c.args.search.value in
    let x = c.in-Some.definition.now in
    let items : c.deref-2.result.now ≡ w.definitions.items = c.deref-2.ensures.value ∙ ap (λ (s : PartsSearch). s.definitions.items) c.deref.ensures in
    let count : c.len.result ≡ length w.replacements.items =
    c.len.ensures ∙ (ap (λ (s : PartsSearch). s.replacements.len) c.deref-3.ensures ∙ w.replacements.ok.0) in
    let at = in_hand_at w c.deref-2.result.now c.len.result x items count c.in-Some.ensures.lookup.3.0 c.in-Some.ensures.lookup.1 in
    hand_stored g.start (has_grown_refl c.args.root.now) c.args.state.now.resolving.keys c.args.state.now.visited.keys c.args.state.now.frames.items
    c.args.search c.requires x at

pub part_target_of-requires-clause-declared : goal.part_target_of-requires-clause-declared
part_target_of-requires-clause-declared g c =
    let w = c.args.search.value in
    let x = c.in-Some.definition.now in
    let items : c.deref-2.result.now ≡ w.definitions.items = c.deref-2.ensures.value ∙ ap (λ (s : PartsSearch). s.definitions.items) c.deref.ensures in
    let count : c.len.result ≡ length w.replacements.items =
    c.len.ensures ∙ (ap (λ (s : PartsSearch). s.replacements.len) c.deref-3.ensures ∙ w.replacements.ok.0) in
    let at = in_hand_at w c.deref-2.result.now c.len.result x items count c.in-Some.ensures.lookup.3.0 c.in-Some.ensures.lookup.1 in
    hand_declared g.start (has_grown_refl c.args.root.now) c.args.state.now.resolving.keys c.args.state.now.visited.keys c.args.state.now.frames.items
    c.args.search c.requires x at

pub returns-in-Err-clause-keeps : goal.returns-in-Err-clause-keeps
returns-in-Err-clause-keeps g c =
    let w = c.args.search.value in
    let x = c.in-Some.definition.now in
    let items : c.deref-2.result.now ≡ w.definitions.items = c.deref-2.ensures.value ∙ ap (λ (s : PartsSearch). s.definitions.items) c.deref.ensures in
    let count : c.len.result ≡ length w.replacements.items =
    c.len.ensures ∙ (ap (λ (s : PartsSearch). s.replacements.len) c.deref-3.ensures ∙ w.replacements.ok.0) in
    let at = in_hand_at w c.deref-2.result.now c.len.result x items count c.in-Some.ensures.lookup.3.0 c.in-Some.ensures.lookup.1 in
    let parts : strings_view c.texts.result.now ≡ remaining_parts w.parts =
    c.texts.ensures.view ∙ ap (λ (s : PartsSearch). remaining_parts s.parts) c.deref-4.ensures in
    fault_wider (has_grown_refl c.args.root.now) (hand_needs g.start (has_grown_refl c.args.root.now) c.args.state.now.resolving.keys
    c.args.state.now.visited.keys c.args.state.now.frames.items c.args.search c.requires x at)
    (rw parts at c.in-Err.ensures.keeps)

pub returns-in-Ok-Itself-clause-steps : goal.returns-in-Ok-Itself-clause-steps
returns-in-Ok-Itself-clause-steps g c =
    let w = c.args.search.value in
    let x = c.in-Some.definition.now in
    let items : c.deref-2.result.now ≡ w.definitions.items = c.deref-2.ensures.value ∙ ap (λ (s : PartsSearch). s.definitions.items) c.deref.ensures in
    let count : c.len.result ≡ length w.replacements.items =
    c.len.ensures ∙ (ap (λ (s : PartsSearch). s.replacements.len) c.deref-3.ensures ∙ w.replacements.ok.0) in
    let at = in_hand_at w c.deref-2.result.now c.len.result x items count c.in-Some.ensures.lookup.3.0 c.in-Some.ensures.lookup.1 in
    let parts : strings_view c.texts.result.now ≡ remaining_parts w.parts =
    c.texts.ensures.view ∙ ap (λ (s : PartsSearch). remaining_parts s.parts) c.deref-4.ensures in
    let grown = c.in-Ok-Itself.ensures.keeps.grown in
    let mid = c.part_target_of.new.root in
    let itself = c.definition_path-itself.result in
    let value = c.deref_mut.ensures.value in
    let within = stored_id_remains_stored grown x.«module».0 (hand_stored g.start grown c.args.state.now.resolving.keys c.args.state.now.visited.keys
    c.args.state.now.frames.items c.args.search c.requires x at) in
    step_itself g.start grown c.args.state.now.resolving.keys c.args.state.now.visited.keys c.args.state.now.frames.items c.args.search c.requires x
    at c.in-Ok-Itself.field-0 c.in-Ok-Itself.ensures.stored
    (rw parts at c.in-Ok-Itself.ensures.view) _ itself c.in-Ok-Itself.field-0-is (record {
      parts = ap (λ (s : PartsSearch). remaining_parts s.parts) value;
      paths = ap (λ (s : PartsSearch). s.paths.items) value;
      definitions = ap (λ (s : PartsSearch). s.definitions.items) value;
      replacements = c.in_ok-push_back-in-Ok-Itself.ensures.items ∙ ap (λ (s : PartsSearch). s.replacements.items ++ Some itself ∷ []) value;
    }) (option_stored mid (Some itself) (c.definition_path-itself.ensures.stored mid within)) c.definition_path-itself.ensures.view

pub returns-in-Ok-UnresolvedEntry-clause-steps : goal.returns-in-Ok-UnresolvedEntry-clause-steps
returns-in-Ok-UnresolvedEntry-clause-steps g c =
    let w = c.args.search.value in
    let x = c.in-Some.definition.now in
    let items : c.deref-2.result.now ≡ w.definitions.items = c.deref-2.ensures.value ∙ ap (λ (s : PartsSearch). s.definitions.items) c.deref.ensures in
    let count : c.len.result ≡ length w.replacements.items =
    c.len.ensures ∙ (ap (λ (s : PartsSearch). s.replacements.len) c.deref-3.ensures ∙ w.replacements.ok.0) in
    let at = in_hand_at w c.deref-2.result.now c.len.result x items count c.in-Some.ensures.lookup.3.0 c.in-Some.ensures.lookup.1 in
    let parts : strings_view c.texts.result.now ≡ remaining_parts w.parts =
    c.texts.ensures.view ∙ ap (λ (s : PartsSearch). remaining_parts s.parts) c.deref-4.ensures in
    let grown = c.in-Ok-UnresolvedEntry.ensures.keeps.grown in
    let mid = c.part_target_of.new.root in
    let path = c.in_ok-path-in-Ok-UnresolvedEntry.path in
    let missing = c.in-Ok-UnresolvedEntry.missing in
    let value = c.deref_mut-in-Ok-UnresolvedEntry.ensures.value in
    let within = stored_id_remains_stored grown x.«module».0 (hand_stored g.start grown c.args.state.now.resolving.keys c.args.state.now.visited.keys
    c.args.state.now.frames.items c.args.search c.requires x at) in
    let missing_stored = rw c.in-Ok-UnresolvedEntry.field-0-is at c.in-Ok-UnresolvedEntry.ensures.stored in
    step_lacking g.start grown c.args.state.now.resolving.keys c.args.state.now.visited.keys c.args.state.now.frames.items c.args.search c.requires x
    at c.in-Ok-UnresolvedEntry.field-0 c.in-Ok-UnresolvedEntry.ensures.stored
    (rw parts at c.in-Ok-UnresolvedEntry.ensures.view) _ path missing c.in-Ok-UnresolvedEntry.field-0-is (record {
      parts = ap (λ (s : PartsSearch). remaining_parts s.parts) value;
      paths = ap (λ (s : PartsSearch). s.paths.items) value;
      definitions = ap (λ (s : PartsSearch). s.definitions.items) value;
      replacements = c.in_ok-push_back-in-Ok-UnresolvedEntry.ensures.items ∙ ap (λ (s : PartsSearch). s.replacements.items ++ path ∷ []) value;
    }) (option_stored mid path (c.in_ok-path-in-Ok-UnresolvedEntry.ensures.stored mid within
    (c.in_ok-next-in-Ok-UnresolvedEntry.ensures.stored mid missing_stored)))
    (λ (later : RootView). (rw c.deref-in-Ok-UnresolvedEntry.ensures at c.in_ok-path-in-Ok-UnresolvedEntry.ensures.view) later
    ∙ ap (forest_below_link_unless_empty (part_link_head (definition_by_specifier later x) (remaining_parts w.parts)))
    (c.in_ok-next-in-Ok-UnresolvedEntry.ensures.view later))

pub returns-clause-steps : goal.returns-clause-steps
returns-clause-steps g c =
    let w = c.args.search.value in
    let x = c.in-Some.definition.now in
    let items : c.deref-2.result.now ≡ w.definitions.items = c.deref-2.ensures.value ∙ ap (λ (s : PartsSearch). s.definitions.items) c.deref.ensures in
    let count : c.len.result ≡ length w.replacements.items =
    c.len.ensures ∙ (ap (λ (s : PartsSearch). s.replacements.len) c.deref-3.ensures ∙ w.replacements.ok.0) in
    let at = in_hand_at w c.deref-2.result.now c.len.result x items count c.in-Some.ensures.lookup.3.0 c.in-Some.ensures.lookup.1 in
    let parts : strings_view c.texts.result.now ≡ remaining_parts w.parts =
    c.texts.ensures.view ∙ ap (λ (s : PartsSearch). remaining_parts s.parts) c.deref-4.ensures in
    rw (c.in_ok-push_front-in-Ok-Symbol-2.ensures.items, c.in_ok-push_front-in-Ok-Symbol.ensures.items) (step_to_symbol g.start
    c.in-Ok-Symbol.ensures.keeps.grown c.args.state.now.resolving.keys c.args.state.now.visited.keys c.args.state.now.frames.items c.args.search
    c.requires x at c.in-Ok-Symbol.field-0 c.in-Ok-Symbol.ensures.stored
    (rw parts at c.in-Ok-Symbol.ensures.view) c.in-Ok-Symbol.target c.in_ok-remaining-in-Ok-Symbol.remaining c.in-Ok-Symbol.field-0-is
    (rw c.deref-in-Ok-Symbol.ensures at c.in_ok-remaining-in-Ok-Symbol.ensures))

pub returns-in-Err-clause-stores : goal.returns-in-Err-clause-stores
returns-in-Err-clause-stores g c =
    let w = c.args.search.value in
    let x = c.in-Some.definition.now in
    let items : c.deref-2.result.now ≡ w.definitions.items = c.deref-2.ensures.value ∙ ap (λ (s : PartsSearch). s.definitions.items) c.deref.ensures in
    let count : c.len.result ≡ length w.replacements.items =
    c.len.ensures ∙ (ap (λ (s : PartsSearch). s.replacements.len) c.deref-3.ensures ∙ w.replacements.ok.0) in
    let at = in_hand_at w c.deref-2.result.now c.len.result x items count c.in-Some.ensures.lookup.3.0 c.in-Some.ensures.lookup.1 in
    let parts : strings_view c.texts.result.now ≡ remaining_parts w.parts =
    c.texts.ensures.view ∙ ap (λ (s : PartsSearch). remaining_parts s.parts) c.deref-4.ensures in
    newly_stored_among_more (rw parts at c.in-Err.ensures.stores) (hand_needs g.start (has_grown_refl c.args.root.now) c.args.state.now.resolving.keys
    c.args.state.now.visited.keys c.args.state.now.frames.items c.args.search c.requires x at)

pub returns-in_err-push_back-in-Ok-Itself-clause-stores : goal.returns-in_err-push_back-in-Ok-Itself-clause-stores
returns-in_err-push_back-in-Ok-Itself-clause-stores g c =
    let w = c.args.search.value in
    let x = c.in-Some.definition.now in
    let items : c.deref-2.result.now ≡ w.definitions.items = c.deref-2.ensures.value ∙ ap (λ (s : PartsSearch). s.definitions.items) c.deref.ensures in
    let count : c.len.result ≡ length w.replacements.items =
    c.len.ensures ∙ (ap (λ (s : PartsSearch). s.replacements.len) c.deref-3.ensures ∙ w.replacements.ok.0) in
    let at = in_hand_at w c.deref-2.result.now c.len.result x items count c.in-Some.ensures.lookup.3.0 c.in-Some.ensures.lookup.1 in
    let parts : strings_view c.texts.result.now ≡ remaining_parts w.parts =
    c.texts.ensures.view ∙ ap (λ (s : PartsSearch). remaining_parts s.parts) c.deref-4.ensures in
    newly_stored_among_more (rw parts at c.in-Ok-Itself.ensures.stores) (hand_needs g.start (has_grown_refl c.args.root.now) c.args.state.now.resolving.keys
    c.args.state.now.visited.keys c.args.state.now.frames.items c.args.search c.requires x at)

pub returns-in-Ok-Itself-clause-stores : goal.returns-in-Ok-Itself-clause-stores
returns-in-Ok-Itself-clause-stores g c =
    let w = c.args.search.value in
    let x = c.in-Some.definition.now in
    let items : c.deref-2.result.now ≡ w.definitions.items = c.deref-2.ensures.value ∙ ap (λ (s : PartsSearch). s.definitions.items) c.deref.ensures in
    let count : c.len.result ≡ length w.replacements.items =
    c.len.ensures ∙ (ap (λ (s : PartsSearch). s.replacements.len) c.deref-3.ensures ∙ w.replacements.ok.0) in
    let at = in_hand_at w c.deref-2.result.now c.len.result x items count c.in-Some.ensures.lookup.3.0 c.in-Some.ensures.lookup.1 in
    let parts : strings_view c.texts.result.now ≡ remaining_parts w.parts =
    c.texts.ensures.view ∙ ap (λ (s : PartsSearch). remaining_parts s.parts) c.deref-4.ensures in
    newly_stored_among_more (rw parts at c.in-Ok-Itself.ensures.stores) (hand_needs g.start (has_grown_refl c.args.root.now) c.args.state.now.resolving.keys
    c.args.state.now.visited.keys c.args.state.now.frames.items c.args.search c.requires x at)

pub returns-in_err-next-in-Ok-UnresolvedEntry-clause-stores : goal.returns-in_err-next-in-Ok-UnresolvedEntry-clause-stores
returns-in_err-next-in-Ok-UnresolvedEntry-clause-stores g c =
    let w = c.args.search.value in
    let x = c.in-Some.definition.now in
    let items : c.deref-2.result.now ≡ w.definitions.items = c.deref-2.ensures.value ∙ ap (λ (s : PartsSearch). s.definitions.items) c.deref.ensures in
    let count : c.len.result ≡ length w.replacements.items =
    c.len.ensures ∙ (ap (λ (s : PartsSearch). s.replacements.len) c.deref-3.ensures ∙ w.replacements.ok.0) in
    let at = in_hand_at w c.deref-2.result.now c.len.result x items count c.in-Some.ensures.lookup.3.0 c.in-Some.ensures.lookup.1 in
    let parts : strings_view c.texts.result.now ≡ remaining_parts w.parts =
    c.texts.ensures.view ∙ ap (λ (s : PartsSearch). remaining_parts s.parts) c.deref-4.ensures in
    newly_stored_among_more (rw parts at c.in-Ok-UnresolvedEntry.ensures.stores) (hand_needs g.start (has_grown_refl c.args.root.now)
    c.args.state.now.resolving.keys c.args.state.now.visited.keys c.args.state.now.frames.items c.args.search c.requires x at)

pub returns-in_err-path-in-Ok-UnresolvedEntry-clause-stores : goal.returns-in_err-path-in-Ok-UnresolvedEntry-clause-stores
returns-in_err-path-in-Ok-UnresolvedEntry-clause-stores g c =
    let w = c.args.search.value in
    let x = c.in-Some.definition.now in
    let items : c.deref-2.result.now ≡ w.definitions.items = c.deref-2.ensures.value ∙ ap (λ (s : PartsSearch). s.definitions.items) c.deref.ensures in
    let count : c.len.result ≡ length w.replacements.items =
    c.len.ensures ∙ (ap (λ (s : PartsSearch). s.replacements.len) c.deref-3.ensures ∙ w.replacements.ok.0) in
    let at = in_hand_at w c.deref-2.result.now c.len.result x items count c.in-Some.ensures.lookup.3.0 c.in-Some.ensures.lookup.1 in
    let parts : strings_view c.texts.result.now ≡ remaining_parts w.parts =
    c.texts.ensures.view ∙ ap (λ (s : PartsSearch). remaining_parts s.parts) c.deref-4.ensures in
    newly_stored_among_more (rw parts at c.in-Ok-UnresolvedEntry.ensures.stores) (hand_needs g.start (has_grown_refl c.args.root.now)
    c.args.state.now.resolving.keys c.args.state.now.visited.keys c.args.state.now.frames.items c.args.search c.requires x at)

pub returns-in_err-push_back-in-Ok-UnresolvedEntry-clause-stores : goal.returns-in_err-push_back-in-Ok-UnresolvedEntry-clause-stores
returns-in_err-push_back-in-Ok-UnresolvedEntry-clause-stores g c =
    let w = c.args.search.value in
    let x = c.in-Some.definition.now in
    let items : c.deref-2.result.now ≡ w.definitions.items = c.deref-2.ensures.value ∙ ap (λ (s : PartsSearch). s.definitions.items) c.deref.ensures in
    let count : c.len.result ≡ length w.replacements.items =
    c.len.ensures ∙ (ap (λ (s : PartsSearch). s.replacements.len) c.deref-3.ensures ∙ w.replacements.ok.0) in
    let at = in_hand_at w c.deref-2.result.now c.len.result x items count c.in-Some.ensures.lookup.3.0 c.in-Some.ensures.lookup.1 in
    let parts : strings_view c.texts.result.now ≡ remaining_parts w.parts =
    c.texts.ensures.view ∙ ap (λ (s : PartsSearch). remaining_parts s.parts) c.deref-4.ensures in
    newly_stored_among_more (rw parts at c.in-Ok-UnresolvedEntry.ensures.stores) (hand_needs g.start (has_grown_refl c.args.root.now)
    c.args.state.now.resolving.keys c.args.state.now.visited.keys c.args.state.now.frames.items c.args.search c.requires x at)

pub returns-in-Ok-UnresolvedEntry-clause-stores : goal.returns-in-Ok-UnresolvedEntry-clause-stores
returns-in-Ok-UnresolvedEntry-clause-stores g c =
    let w = c.args.search.value in
    let x = c.in-Some.definition.now in
    let items : c.deref-2.result.now ≡ w.definitions.items = c.deref-2.ensures.value ∙ ap (λ (s : PartsSearch). s.definitions.items) c.deref.ensures in
    let count : c.len.result ≡ length w.replacements.items =
    c.len.ensures ∙ (ap (λ (s : PartsSearch). s.replacements.len) c.deref-3.ensures ∙ w.replacements.ok.0) in
    let at = in_hand_at w c.deref-2.result.now c.len.result x items count c.in-Some.ensures.lookup.3.0 c.in-Some.ensures.lookup.1 in
    let parts : strings_view c.texts.result.now ≡ remaining_parts w.parts =
    c.texts.ensures.view ∙ ap (λ (s : PartsSearch). remaining_parts s.parts) c.deref-4.ensures in
    newly_stored_among_more (rw parts at c.in-Ok-UnresolvedEntry.ensures.stores) (hand_needs g.start (has_grown_refl c.args.root.now)
    c.args.state.now.resolving.keys c.args.state.now.visited.keys c.args.state.now.frames.items c.args.search c.requires x at)

pub returns-in_err-remaining-in-Ok-Symbol-clause-stores : goal.returns-in_err-remaining-in-Ok-Symbol-clause-stores
returns-in_err-remaining-in-Ok-Symbol-clause-stores g c =
    let w = c.args.search.value in
    let x = c.in-Some.definition.now in
    let items : c.deref-2.result.now ≡ w.definitions.items = c.deref-2.ensures.value ∙ ap (λ (s : PartsSearch). s.definitions.items) c.deref.ensures in
    let count : c.len.result ≡ length w.replacements.items =
    c.len.ensures ∙ (ap (λ (s : PartsSearch). s.replacements.len) c.deref-3.ensures ∙ w.replacements.ok.0) in
    let at = in_hand_at w c.deref-2.result.now c.len.result x items count c.in-Some.ensures.lookup.3.0 c.in-Some.ensures.lookup.1 in
    let parts : strings_view c.texts.result.now ≡ remaining_parts w.parts =
    c.texts.ensures.view ∙ ap (λ (s : PartsSearch). remaining_parts s.parts) c.deref-4.ensures in
    newly_stored_among_more (rw parts at c.in-Ok-Symbol.ensures.stores) (hand_needs g.start (has_grown_refl c.args.root.now) c.args.state.now.resolving.keys
    c.args.state.now.visited.keys c.args.state.now.frames.items c.args.search c.requires x at)

pub returns-in_err-push_front-in-Ok-Symbol-clause-stores : goal.returns-in_err-push_front-in-Ok-Symbol-clause-stores
returns-in_err-push_front-in-Ok-Symbol-clause-stores g c =
    let w = c.args.search.value in
    let x = c.in-Some.definition.now in
    let items : c.deref-2.result.now ≡ w.definitions.items = c.deref-2.ensures.value ∙ ap (λ (s : PartsSearch). s.definitions.items) c.deref.ensures in
    let count : c.len.result ≡ length w.replacements.items =
    c.len.ensures ∙ (ap (λ (s : PartsSearch). s.replacements.len) c.deref-3.ensures ∙ w.replacements.ok.0) in
    let at = in_hand_at w c.deref-2.result.now c.len.result x items count c.in-Some.ensures.lookup.3.0 c.in-Some.ensures.lookup.1 in
    let parts : strings_view c.texts.result.now ≡ remaining_parts w.parts =
    c.texts.ensures.view ∙ ap (λ (s : PartsSearch). remaining_parts s.parts) c.deref-4.ensures in
    newly_stored_among_more (rw parts at c.in-Ok-Symbol.ensures.stores) (hand_needs g.start (has_grown_refl c.args.root.now) c.args.state.now.resolving.keys
    c.args.state.now.visited.keys c.args.state.now.frames.items c.args.search c.requires x at)

pub returns-in_err-push_front-in-Ok-Symbol-2-clause-stores : goal.returns-in_err-push_front-in-Ok-Symbol-2-clause-stores
returns-in_err-push_front-in-Ok-Symbol-2-clause-stores g c =
    let w = c.args.search.value in
    let x = c.in-Some.definition.now in
    let items : c.deref-2.result.now ≡ w.definitions.items = c.deref-2.ensures.value ∙ ap (λ (s : PartsSearch). s.definitions.items) c.deref.ensures in
    let count : c.len.result ≡ length w.replacements.items =
    c.len.ensures ∙ (ap (λ (s : PartsSearch). s.replacements.len) c.deref-3.ensures ∙ w.replacements.ok.0) in
    let at = in_hand_at w c.deref-2.result.now c.len.result x items count c.in-Some.ensures.lookup.3.0 c.in-Some.ensures.lookup.1 in
    let parts : strings_view c.texts.result.now ≡ remaining_parts w.parts =
    c.texts.ensures.view ∙ ap (λ (s : PartsSearch). remaining_parts s.parts) c.deref-4.ensures in
    newly_stored_among_more (rw parts at c.in-Ok-Symbol.ensures.stores) (hand_needs g.start (has_grown_refl c.args.root.now) c.args.state.now.resolving.keys
    c.args.state.now.visited.keys c.args.state.now.frames.items c.args.search c.requires x at)

pub returns-clause-stores : goal.returns-clause-stores
returns-clause-stores g c =
    let w = c.args.search.value in
    let x = c.in-Some.definition.now in
    let items : c.deref-2.result.now ≡ w.definitions.items = c.deref-2.ensures.value ∙ ap (λ (s : PartsSearch). s.definitions.items) c.deref.ensures in
    let count : c.len.result ≡ length w.replacements.items =
    c.len.ensures ∙ (ap (λ (s : PartsSearch). s.replacements.len) c.deref-3.ensures ∙ w.replacements.ok.0) in
    let at = in_hand_at w c.deref-2.result.now c.len.result x items count c.in-Some.ensures.lookup.3.0 c.in-Some.ensures.lookup.1 in
    let parts : strings_view c.texts.result.now ≡ remaining_parts w.parts =
    c.texts.ensures.view ∙ ap (λ (s : PartsSearch). remaining_parts s.parts) c.deref-4.ensures in
    newly_stored_among_more (rw parts at c.in-Ok-Symbol.ensures.stores) (hand_needs g.start (has_grown_refl c.args.root.now) c.args.state.now.resolving.keys
    c.args.state.now.visited.keys c.args.state.now.frames.items c.args.search c.requires x at)
