use Rattle.symq_c.proofs.Refusals.{accepted_reported, refused_reported}
use Rattle.symq_c.proofs.graph_of_text.graph_of.Goals as goal

pub returns-clause-accepted : goal.returns-clause-accepted
returns-clause-accepted c =
    let made = c.keyed_graph.ensures in
    accepted_reported c.args.text.now c.in_ok-raw.raw c.keyed_graph.result c.map_err.result c.in_ok-raw.ensures.read made.faultless made.modules made.redirects
    made.resolutions c.map_err.ensures.cases

pub returns-clause-refused : goal.returns-clause-refused
returns-clause-refused c =
    refused_reported c.args.text.now c.in_ok-raw.raw c.keyed_graph.result c.map_err.result
    c.in_ok-raw.ensures.read c.keyed_graph.ensures.refused c.map_err.ensures.cases
