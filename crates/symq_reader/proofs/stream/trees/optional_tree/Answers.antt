use Rattle.std.proofs.Common.{◌≡◌, ◌∷◌, None, refl, lit<, arith}
use Rattle.json.specs.Token.{Token}
use Rattle.symq_reader.specs.GraphText.{as_tree, raw_tree_view}
use Rattle.symq_reader.specs.inner.Streams.{value_in_optional_data}
use Rattle.symq_reader.proofs.Streamed.{optional_read, null_read}
use Rattle.symq_reader.proofs.stream.trees.optional_tree.Goals as goal

pub returns-in_ok-tree_members-in-Some-BeginObject : goal.returns-in_ok-tree_members-in-Some-BeginObject
returns-in_ok-tree_members-in-Some-BeginObject c =
    let begins : c.args.reader.now ≡ Token.begin_object ∷ c.next.new.self = grind arith in
    optional_read as_tree 124 123 c.args.reader.now c.next.new.self c.tree_members.new.reader (raw_tree_view c.in_ok-tree_members-in-Some-BeginObject.field-0)
    (lit< tt) refl begins c.in_ok-tree_members-in-Some-BeginObject.ensures

pub returns-in-Some-Null : goal.returns-in-Some-Null
returns-in-Some-Null c =
    let begins : c.args.reader.now ≡ Token.null ∷ c.next.new.self = grind arith in
    null_read (value_in_optional_data as_tree) 124 c.args.reader.now c.next.new.self None begins refl
