use Rattle.std.proofs.Common.{subst}
use Rattle.std.proofs.lemmas.Result.{on_ok_weaker}
use Rattle.symbols_queries.specs.Queries.{found_view}
use Rattle.symq_core.specs.inner.JsonWriting.{AppendsTokens}
use Rattle.symq_core.proofs.Texts.{written, then, found_before}
use Rattle.symq_core.proofs.write_inputs.QueryInputWriteJson.write_json.Goals as goal

pub returns : goal.returns
returns c =
    let specifier = rw c.as_str.ensures.value at c.in_ok-add_text.ensures in
    on_ok_weaker c.end_object.result (λ e. then (written c.in_ok-begin_object.ensures)
    (subst (AppendsTokens _ _) (found_before (found_view c.args.self.now.found) _)
    (then c.in_ok-add_found.ensures (then specifier (record { before = c.end_object.ensures.room.0; tokens = e }))))) c.end_object.ensures.ok
