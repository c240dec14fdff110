use Rattle.std.proofs.lemmas.Result.{IfOk-weaker, IfErr-weaker}
use Rattle.symq_c.proofs.ModuleRefusals.{refused_text}
use Rattle.symq_c.proofs.module_of_text.module_of.Goals as goal

pub returns-clause-read : goal.returns-clause-read
returns-clause-read c = IfOk-weaker c.module_of_graph.result _ _ (λ found is. (c.in_ok-raw.raw, c.in_ok-raw.ensures, is)) c.module_of_graph.ensures.read

pub returns-clause-refused : goal.returns-clause-refused
returns-clause-refused c =
    IfErr-weaker c.module_of_graph.result _ _ (λ fault refused. refused_text c.args.text.now c.in_ok-raw.raw fault c.in_ok-raw.ensures refused)
    c.module_of_graph.ensures.refused
