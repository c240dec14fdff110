use Rattle.std.proofs.Common.{◌∷◌, [], ◌++◌, ap, ◌∙◌, arith}
use Rattle.std.proofs.lemmas.List.{nil_from_length}
use Rattle.symbols_paths.specs.Views.{paths_by_specifier}
use Rattle.symbols_queries.proofs.OpenLinks.{only_one, not_none}
use Rattle.symbols_queries.proofs.paths_by_specifier.path_by_specifier.Goals as goal

pub returns : goal.returns
returns c =
    let root = c.args.root.now in
    only_one root c.in_ok-named.named.items c.pop.new.self.items c.in-Some.path c.args.path (c.in_ok-named.ensures ∙ ap (paths_by_specifier root)
    (c.in_ok-push.ensures.items ∙ ap (λ paths. paths ++ c.args.path ∷ []) c.new-paths.ensures.items)) c.in-Some.ensures.items

pub unreachable-requires : goal.unreachable-requires
unreachable-requires c =
    let root = c.args.root.now in
    let named = c.in_ok-named.named in
    not_none root named.items c.args.path (c.in_ok-named.ensures ∙ ap (paths_by_specifier root)
    (c.in_ok-push.ensures.items ∙ ap (λ paths. paths ++ c.args.path ∷ []) c.new-paths.ensures.items))
    (nil_from_length named.items (omega (arith, c.in-None.ensures.cases.0, named.ok.0)))
