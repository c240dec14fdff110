use Rattle.std.proofs.Common.{◌≡◌, ◌+◌, ◌∷◌, [], drop, subst, arith}
use Rattle.symbols_paths.proofs.BuilderDefinitions.{IsListedSoFar, listed_next, drop_read}
use Rattle.symbols_paths.proofs.replace_definitions.definitions_among.Goals as goal

pub loop-builder-preserved : goal.loop-builder-preserved
loop-builder-preserved c =
    let xs = c.args.builders.now in
    let i = c.loop-builder.builder-index in
    let here : drop i xs ≡ c.builder-item.result ∷ drop (i + 1) xs =
    drop_read xs i c.builder-item.result (omega (arith, c.loop-builder-test.true)) c.builder-item.is in
    let so : IsListedSoFar c.loop-builder.found.items (c.builder-item.result ∷ drop (i + 1) xs) [] xs =
    subst (λ rest. IsListedSoFar c.loop-builder.found.items rest [] xs) here c.loop-builder.invariant in
    listed_next c.builder-item.result so c.in_ok-list_definition.ensures.view c.in_ok-list_definition.ensures.stored
