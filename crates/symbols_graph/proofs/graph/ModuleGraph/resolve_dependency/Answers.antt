use Rattle.std.proofs.Common.{◌≡◌, sym, ap, ◌∙◌, rules, string_bytes}
use Rattle.std.specs.Option.{option_copied, option_map}
use Rattle.symbols_graph.proofs.GraphLookups.{inside, rows_found}
use Rattle.symbols_graph.proofs.graph.ModuleGraph.resolve_dependency.Goals as goal

pub returns-in_err-table-clause-resolved : goal.returns-in_err-table-clause-resolved
returns-in_err-table-clause-resolved c =
    let found = rows_found c.args.referrer.now c.args.specifier_text.now c.self.inside.resolutions.entries c.self.invariant.1 in
    let none = sym (ap option_copied c.in_err-table.was) ∙ c.get.ensures.value in
    rw (← c.self.view_is) (ap option_copied c.from_residual.ensures ∙ ap (inside c.args.referrer.now c.args.specifier_text.now) none ∙ found)

pub returns-clause-resolved : goal.returns-clause-resolved
returns-clause-resolved c =
    let found = rows_found c.args.referrer.now c.args.specifier_text.now c.self.inside.resolutions.entries c.self.invariant.1 in
    let table = sym (ap option_copied c.in_ok-table.was) ∙ c.get.ensures.value in
    let read : option_copied c.map.result ≡ option_map string_bytes (option_copied c.get-2.result) = search rules in
    rw (← c.self.view_is) (read ∙ ap (option_map string_bytes) c.get-2.ensures.value ∙ ap (inside c.args.referrer.now c.args.specifier_text.now) table ∙ found)
