use Rattle.std.proofs.Common.{length, sym, ◌∙◌, arith}
use Rattle.symbols_table.proofs.PatternLemmas.{leaves_at_name}
use Rattle.symbols_table.proofs.builder.patterns.single_leaf.Goals as goal

pub returns-then-is_identifier_pattern : goal.returns-then-is_identifier_pattern
returns-then-is_identifier_pattern c =
    let node = c.args.pattern in
    rw c.node_id.ensures (leaves_at_name node.tree.now (length node.tree.now.nodes.items) node.number c.kind.result.now node.inside (omega arith) c.kind.ensures
    (sym c.is_identifier_pattern.ensures ∙ c.if-is_identifier_pattern.true))
