use Rattle.std.proofs.Common.{List, subst}
use Rattle.std.proofs.lemmas.Result.{on_ok_weaker}
use Rattle.std.specs.Prelude.{string_bytes}
use Rattle.serde_json.specs.Data.{Data, array}
use Rattle.serde_json.specs.View.{items_of}
use Rattle.symq_core.specs.inner.JsonWriting.{AppendsTokens, tokens_of}
use Rattle.symq_core.proofs.ExporterData.{exporters_written}
use Rattle.symq_core.proofs.Texts.{written, then}
use Rattle.symq_core.proofs.write_shared_names.SharedNameBySpecifierWriteJson.write_json.Goals as goal

pub returns : goal.returns
returns c =
    let shared = c.args.self.now in
    let name = rw c.as_str.ensures.value at c.in_ok-add_text.ensures in
    let front = then (then (written c.in_ok-begin_object.ensures) name) (written c.in_ok-key.ensures) in
    let answered = rw c.deref.ensures.value at c.in_ok-write_items.ensures in
    let exporters = subst (λ (values : List Data). AppendsTokens c.key.new.self c.write_items.new.out (tokens_of (array (items_of values))))
    (exporters_written (string_bytes shared.name) shared.exporters.items) answered in
    on_ok_weaker c.end_object.result (λ e. then front (then exporters (record { before = c.end_object.ensures.room.0; tokens = e }))) c.end_object.ensures.ok
