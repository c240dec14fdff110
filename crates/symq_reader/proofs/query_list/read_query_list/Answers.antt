use Rattle.symq_reader.proofs.ListTokens.{any_list_read}
use Rattle.symq_reader.proofs.query_list.read_query_list.Goals as goal

pub returns : goal.returns
returns c = any_list_read c.args.bytes.now c.list_in.result c.list_in.ensures.text c.list_in.ensures.sound
