use Rattle.std.proofs.Common.{option_copied, sym, ap, ◌∙◌, ◌≡◌, Some}
use Rattle.symbols_ast.specs.Graph.{resolved_dependency}
use Rattle.symbols_root.specs.Roots.{specifier_in}
use Rattle.symbols_exports.proofs.StoringWalk.{target_there}
use Rattle.symbols_exports.proofs.star_statements.resolve_specifier.Goals as goal

pub returns-in-Some-clause-there : goal.returns-in-Some-clause-there
returns-in-Some-clause-there c =
    let root = c.args.root.now in
    let resolved : resolved_dependency root.graph (specifier_in root c.args.referrer) c.args.specifier_text.now ≡ Some c.in-Some.target.now =
    rw (c.graph.ensures, c.specifier_from_id-specifier.ensures) at (sym c.resolve_dependency.ensures.resolved ∙ ap option_copied c.in-Some.is) in
    target_there root.graph (specifier_in root c.args.referrer) c.args.specifier_text.now c.in-Some.target.now resolved c.module_from_specifier.result
    c.module_from_specifier.ensures.under
