use Rattle.std.proofs.lemmas.Result.{on_ok_weaker}
use Rattle.symbols_paths.proofs.path_links.push_unresolved_id.Goals as goal

pub returns : goal.returns
returns c = on_ok_weaker c.push_builder.result (λ added. (c.in_ok-builder.builder, added, c.in_ok-builder.ensures.view, c.in_ok-builder.ensures.stored))
    c.push_builder.ensures
