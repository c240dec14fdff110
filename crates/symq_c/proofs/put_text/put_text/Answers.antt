use Rattle.symbols_ast.specs.Graph.{GraphView, module_view}
use Rattle.symbols_graph.specs.PutModules.{IsSameGraph, graph_with_put_module}
use Rattle.symbols_graph.specs.Tables.{string_pairs_bytes}
use Rattle.symq_c.specs.GraphTexts.{IsCheckedGraph}
use Rattle.symq_c.proofs.ModuleRefusals.{refused_put}
use Rattle.symq_c.proofs.SameGraphs.{same_through}
use Rattle.symq_c.proofs.put_text.put_text.Goals as goal

pub returns-in-Ok-put_module-clause-put : goal.returns-in-Ok-put_module-clause-put
returns-in-Ok-put_module-clause-put c =
    let old = c.args.graph.now in
    let new = c.put_module.new.self in
    let m = module_view c.in-Ok.found.raw in
    let resolved = string_pairs_bytes c.in-Ok.found.resolutions.items in
    let law = c.putting_is_opening_anew.ensures in
    let put = c.in-Ok-put_module.ensures in
    let same : IsSameGraph (graph_with_put_module old m resolved) new = (put.modules, put.redirects, put.resolutions) in
    let checked : (raw : GraphView) → IsCheckedGraph raw old → IsCheckedGraph (graph_with_put_module raw m resolved) new =
    λ raw was. (
      law.faultless raw old m resolved was.1 was.0 put.faultless,
      same_through (graph_with_put_module raw m resolved)
          (graph_with_put_module old m resolved) new (law.same raw old m resolved was.1) same,
    ) in
    record {
      m = m;
      resolved = resolved;
      is_module_of_text = c.in-Ok.ensures.read;
      is_old_with_module = same;
      is_checked = checked;
    }

pub returns-in-Err-put_module-clause-refused : goal.returns-in-Err-put_module-clause-refused
returns-in-Err-put_module-clause-refused c =
    let old = c.args.graph.now in
    let m = module_view c.in-Ok.found.raw in
    let resolved = string_pairs_bytes c.in-Ok.found.resolutions.items in
    let fault = c.in-Err-put_module.fault in
    refused_put c.args.text.now old m resolved c.in-Ok.ensures.read fault
    (λ raw was first. c.putting_is_opening_anew.ensures.refused raw old m resolved fault was.1 was.0 first) c.in-Err-put_module.ensures.refused
