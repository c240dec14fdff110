use Rattle.std.proofs.Common.{◌≡◌, ℕ, List, Option, Some, option_and_then, option_copied, sym, ap, subst, ◌∙◌}
use Rattle.symbols_ast.specs.Graph.{resolved_dependency}
use Rattle.symbols_root.specs.Roots.{specifier_in}
use Rattle.symbols_root.specs.TypesChains.{resolved_module_specifier}
use Rattle.symbols_exports.specs.StarStatements.{resolve_specifier}
use Rattle.symbols_paths.specs.NeededModules.{AreNewlyStoredAmong}
use Rattle.symbols_paths.specs.laws.Storing.{newly_stored_none}
use Rattle.symbols_paths.proofs.StoredNeeded.{stores_target}
use Rattle.symbols_paths.proofs.re_exported_symbol.resolve_specifier.Goals as goal

pub returns-in-Some-clause-stores : goal.returns-in-Some-clause-stores
returns-in-Some-clause-stores c =
    let root = c.args.root.now in
    let new = c.module_from_specifier.new.self in
    let needed = resolved_module_specifier root.graph c.in-Some.target.now in
    let resolved : resolved_dependency root.graph (specifier_in root c.args.referrer) c.args.specifier_text.now ≡ Some c.in-Some.target.now =
    rw (c.graph.ensures, c.specifier_from_id-specifier.ensures) at (sym c.resolve_dependency.ensures.resolved ∙ ap option_copied c.in-Some.is) in
    let found : resolve_specifier root.graph (specifier_in root c.args.referrer) c.args.specifier_text.now ≡ needed =
    ap (option_and_then (resolved_module_specifier root.graph)) resolved in
    subst (λ (target : Option (List ℕ)). AreNewlyStoredAmong root new (λ v. target ≡ Some v)) (sym found)
    (stores_target c.module_from_specifier.result root new needed c.module_from_specifier.ensures.stored c.module_from_specifier.ensures.unchanged)

pub returns-in-None-clause-stores : goal.returns-in-None-clause-stores
returns-in-None-clause-stores c = newly_stored_none c.args.root.now
