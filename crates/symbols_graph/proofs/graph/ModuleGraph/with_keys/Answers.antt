use Rattle.std.proofs.Common.{◌<◌, ◌^◌, List, inl, inr, length, sym, ap, ◌∙◌, arith}
use Rattle.std.proofs.lemmas.List.{length-map}
use Rattle.std.proofs.lemmas.Bool.{cases_lt}
use Rattle.symbols_ast.specs.declared.graph.faults.GraphFault.TheVariants.{TooManyModules}
use Rattle.symbols_ast.specs.declared.graph.raw.RawGraph.{RawGraph}
use Rattle.symbols_ast.specs.Graph.{ModuleView, graph_view}
use Rattle.symbols_graph.specs.GraphFaults.{IsFaultlessGraph}
use Rattle.symbols_graph.proofs.DistinctEntries.{distinct_specifiers, distinct_sources, distinct_checked}
use Rattle.symbols_graph.proofs.GraphLookups.{rows_found}
use Rattle.symbols_graph.proofs.graph.ModuleGraph.with_keys.Goals as goal

pub keyed_modules-requires-clause-distinct : goal.keyed_modules-requires-clause-distinct
keyed_modules-requires-clause-distinct c = distinct_specifiers c.args.raw c.in_ok-check.ensures.accepted

pub keyed_redirects-requires : goal.keyed_redirects-requires
keyed_redirects-requires c = record { distinct = distinct_sources c.args.raw c.in_ok-check.ensures.accepted }

pub keyed_resolutions-requires : goal.keyed_resolutions-requires
keyed_resolutions-requires c = distinct_checked c.args.raw c.in_ok-check.ensures.accepted

pub returns-clause-resolutions : goal.returns-clause-resolutions
returns-clause-resolutions c = λ r t. sym (rows_found r t c.in_ok-resolutions.resolutions.entries c.in_ok-resolutions.ensures.unique)
    ∙ c.in_ok-resolutions.ensures.found r t

few_modules : (raw : RawGraph) → IsFaultlessGraph (graph_view raw) → length (graph_view raw).modules < 2 ^ 32
few_modules raw none = elim (cases_lt (length (graph_view raw).modules) (2 ^ 32)) [
  | inl few ↦ few
  | inr many ↦ absurd (none 0 TooManyModules many)
]

pub invariant_of-result : goal.invariant_of-result
invariant_of-result c =
    let few = few_modules c.args.raw c.in_ok-check.ensures.accepted in
    let count = ap (λ (ms : List ModuleView). length ms) c.in_ok-modules.ensures.modules in
    (c.in_ok-modules.ensures.keyed, c.in_ok-resolutions.ensures.unique, omega (arith, few, count, length-map c.in_ok-modules.modules.entries (λ e. e.1)))
