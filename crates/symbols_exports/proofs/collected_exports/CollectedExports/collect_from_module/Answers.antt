use Rattle.std.proofs.Common.{◌≡◌, OnOk, map, sym, subst, ap, ◌∙◌}
use Rattle.symbols_root.specs.Roots.{specifier_in}
use Rattle.symbols_exports.specs.StarStatements.{explicit_exports_of}
use Rattle.symbols_exports.specs.inner.Collecting.{frame_view, walk_with_exports_of_module}
use Rattle.symbols_exports.proofs.CandidatesOfWalk.{nothing_explicit}
use Rattle.symbols_exports.proofs.AcceptedNames.{one_explicit, none_explicit}
use Rattle.symbols_exports.proofs.collected_exports.CollectedExports.collect_from_module.Goals as goal

pub returns-in-Some : goal.returns-in-Some
returns-in-Some c =
    let exported = one_explicit c.in-OneName.name c.args.name_filter (explicit_exports_of c.args.root.now.graph (specifier_in c.args.root.now c.args.exporter))
    c.in-Some.symbol_id c.in-OneName.is c.in-Some.ensures in
    subst (λ collected. OnOk c.add_collected_name.result (c.add_collected_name.new.self
    ≡ walk_with_exports_of_module (map frame_view c.args.stack.now) c.args.exporter collected c.args.self.now)) (sym exported) c.add_collected_name.ensures

pub returns-in-None : goal.returns-in-None
returns-in-None c =
    let exported = none_explicit c.in-OneName.name c.args.name_filter (explicit_exports_of c.args.root.now.graph (specifier_in c.args.root.now c.args.exporter))
    c.in-OneName.is c.in-None.ensures in
    sym (ap (λ collected. walk_with_exports_of_module (map frame_view c.args.stack.now) c.args.exporter collected c.args.self.now) exported
    ∙ nothing_explicit (map frame_view c.args.stack.now) c.args.exporter c.args.self.now)
