use Rattle.std.proofs.Common.{◌≡◌, ◌∙◌, ◌++◌, ◌∷◌, [], length, get_or, ap}
use Rattle.symbols_paths.specs.declared.search_step.PartsSearch.{PartsSearch}
use Rattle.symbols_paths.specs.inner.PathBuilders.{remaining_parts}
use Rattle.symbols_paths.proofs.Forwards.{option_stored}
use Rattle.symbols_paths.proofs.PartsSteps.{resumed_replacement, in_hand_stored, read_at}
use Rattle.symbols_paths.proofs.resume_search.resume_replacement.Goals as goal

pub returns : goal.returns
returns g c running visited frames valid =
    let w = c.args.search.value in
    let x = c.index.result.now in
    let count : c.len.result ≡ length w.replacements.items =
    c.len.ensures ∙ (ap (λ (s : PartsSearch). s.replacements.len) c.deref-2.ensures ∙ w.replacements.ok.0) in
    let read : x ≡ get_or w.definitions.items (length w.replacements.items) x =
    c.index.ensures ∙ (λ i. get_or (c.deref.ensures i).definitions.items (count i) x) in
    let at = read_at w.definitions.items (length w.replacements.items) x c.requires read in
    let path = c.in_ok-path.path in
    let value = c.deref_mut.ensures.value in
    resumed_replacement g.start c.args.root.now running visited frames c.args.paths c.args.search _ x path valid at (record {
      parts = ap (λ (s : PartsSearch). remaining_parts s.parts) value;
      paths = ap (λ (s : PartsSearch). s.paths.items) value;
      definitions = ap (λ (s : PartsSearch). s.definitions.items) value;
      replacements = c.in_ok-push_back.ensures.items ∙ ap (λ (s : PartsSearch). s.replacements.items ++ path ∷ []) value;
    })
    (option_stored c.args.root.now path (c.in_ok-path.ensures.stored c.args.root.now (in_hand_stored valid.frames_valid.0 x at) valid.step_valid.stored))
    (rw c.deref-3.ensures at c.in_ok-path.ensures.view)
