use Rattle.std.proofs.Common.{sym, subst}
use Rattle.std.proofs.lemmas.Result.{on_ok_weaker}
use Rattle.symbols_queries.specs.declared.inputs.Found.{Found}
use Rattle.symbols_queries.specs.Queries.{found_view}
use Rattle.symq_core.specs.inner.JsonWriting.{AppendsTokensIfOk, found_member_tokens}
use Rattle.symq_core.proofs.Texts.{then}
use Rattle.symq_core.proofs.write_inputs.add_found.Goals as goal

pub returns-in_ok-add_text-in-Redirect : goal.returns-in_ok-add_text-in-Redirect
returns-in_ok-add_text-in-Redirect c =
    subst (λ (found : Found). AppendsTokensIfOk c.add_text-in-Redirect-2.result c.args.out.now c.add_text-in-Redirect-2.new.out
    (found_member_tokens (found_view found))) (sym c.in-Redirect.is)
    (on_ok_weaker c.add_text-in-Redirect-2.result (λ added. then c.in_ok-add_text-in-Redirect.ensures added) c.add_text-in-Redirect-2.ensures)
