use Rattle.json.proofs.Printed.Plain.{escape_on_plain}
use Rattle.symq_reader.proofs.needs_no_escape.needs_no_escape.Goals as goal

pub returns-then-text-lt16 : goal.returns-then-text-lt16
returns-then-text-lt16 c = escape_on_plain c.bytes_need_no_escape.result c.args.text.now c.bytes_need_no_escape.ensures

pub returns-else-text-lt16 : goal.returns-else-text-lt16
returns-else-text-lt16 c = escape_on_plain c.blocks_need_no_escape.result c.args.text.now c.blocks_need_no_escape.ensures
