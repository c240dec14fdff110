use Rattle.std.proofs.Common.{sym, ap, ◌∙◌, List, ℕ, Option, string_bytes}
use Rattle.std.specs.Prelude.{String, unwrap_or}
use Rattle.std.specs.Global.{Global}
use Rattle.std.specs.Option.{option_copied, option_map}
use Rattle.symbols_graph.specs.Tables.{resolutions_of_map_entries}
use Rattle.symbols_graph.proofs.GraphLookups.{module_found}
use Rattle.symbols_graph.proofs.graph.ModuleGraph.get.Goals as goal

pub returns-in-Some-clause-found : goal.returns-in-Some-clause-found
returns-in-Some-clause-found c =
    let g = c.self.inside in
    let name : Option (String Global) → List ℕ = λ o. unwrap_or (option_map string_bytes o) c.args.specifier.now in
    rw (← c.self.view_is) (c.get.ensures.value ∙ module_found g.modules.entries g.redirects.entries
    (resolutions_of_map_entries g.resolutions.entries) c.self.invariant.0
    c.args.specifier.now c.as_str.result.now (ap name (sym c.target.ensures ∙ ap option_copied c.in-Some.is) ∙ sym c.as_str.ensures.value))

pub returns-in-None-clause-found : goal.returns-in-None-clause-found
returns-in-None-clause-found c =
    let g = c.self.inside in
    let name : Option (String Global) → List ℕ = λ o. unwrap_or (option_map string_bytes o) c.args.specifier.now in
    rw (← c.self.view_is) (c.get-in-None.ensures.value ∙ module_found g.modules.entries g.redirects.entries (resolutions_of_map_entries
    g.resolutions.entries) c.self.invariant.0 c.args.specifier.now c.args.specifier.now (ap name (sym c.target.ensures ∙ ap option_copied c.in-None.is)))
