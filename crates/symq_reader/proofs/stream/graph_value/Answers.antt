use Rattle.std.proofs.Common.{◌≡◌, ◌∷◌, refl, lit<, arith}
use Rattle.json.specs.Token.{Token}
use Rattle.symq_reader.specs.GraphText.{require_object, graph_of_json_fields, raw_graph_view}
use Rattle.symq_reader.specs.inner.Streams.{ReadsValue, ReadsMembers}
use Rattle.symq_reader.proofs.Streamed.{mapped_ok, object_read}
use Rattle.symq_reader.proofs.stream.graph_value.Goals as goal

pub returns : goal.returns
returns c =
    let begins : c.args.reader.now ≡ Token.begin_object ∷ c.next.new.self = grind arith in
    mapped_ok c.graph_members.result (λ found. ReadsMembers 126 c.next.new.self c.graph_members.new.reader (require_object graph_of_json_fields)
    (raw_graph_view found))
    (λ found. ReadsValue 127 c.args.reader.now c.graph_members.new.reader (require_object graph_of_json_fields) (raw_graph_view found))
    (λ found h. object_read (require_object graph_of_json_fields) 127 126 c.args.reader.now c.next.new.self c.graph_members.new.reader (raw_graph_view found)
    (lit< tt)
    refl
    begins h) c.graph_members.ensures
