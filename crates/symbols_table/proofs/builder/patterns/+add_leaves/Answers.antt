use Rattle.std.proofs.Common.{◌<◌, take, sym, arith}
use Rattle.std.specs.Prelude.{Contains}
use Rattle.std.proofs.lemmas.List.{append-nil, take_all}
use Rattle.symbols_ast.specs.NodeRefs.{node_view}
use Rattle.symbols_ast.specs.WellFormed.{IsWellFormedTree}
use Rattle.symbols_table.specs.Patterns.{pattern_bindings_within_levels, pattern_parts}
use Rattle.symbols_table.proofs.Walks.{take_item}
use Rattle.symbols_table.proofs.PatternLemmas.{is_found, is_missing, is_greater, parts_are_children}
use Rattle.symbols_table.proofs.PatternLemmas.{leaves_at_name, leaves_at_parts, leaves_more, leaves_outside}
use Rattle.symbols_table.proofs.builder.patterns.+add_leaves.Goals as goal
use Rattle.symbols_table.proofs.builder.patterns.+add_leaves.Goals.{in-Some+in_ok-add_leaves, in_default}

pub add_leaves-requires : goal.add_leaves-requires
add_leaves-requires t c =
    let n = c.part-item.result in
    let found = is_found c.args.node.tree.now n (node_view c.in-Some.part) c.in-Some.ensures in
    let borrowed_symbol : Contains c.pattern_parts-part-items.result.now n = (c.loop-part.part-index, c.loop-part-test.true, sym c.part-item.is) in
    let has : Contains (pattern_parts c.kind-kind.result.now) n = rw c.pattern_parts-part-items.ensures at borrowed_symbol in
    let greater : c.args.node.number < n = is_greater (node_view
    c.args.node) c.kind-kind.result.now n c.requires c.args.node.inside c.kind-kind.ensures (parts_are_children c.kind-kind.result.now n has) in
    let formed : IsWellFormedTree c.in-Some.part.tree.now.nodes.items = rw found.same_tree c.requires in
    (rw (found.same_tree, found.number_is) (omega arith), formed)

pub loop-part-preserved : goal.loop-part-preserved
loop-part-preserved t c = λ levels enough.
    let tree = c.args.node.tree.now in
    let items = c.pattern_parts-part-items.result.now in
    let i = c.loop-part.part-index in
    let n = c.part-item.result in
    let borrowed_symbol : Contains items n = (i, c.loop-part-test.true, sym c.part-item.is) in
    let has : Contains (pattern_parts c.kind-kind.result.now) n = rw c.pattern_parts-part-items.ensures at borrowed_symbol in
    let greater : c.args.node.number < n = is_greater (node_view
    c.args.node) c.kind-kind.result.now n c.requires c.args.node.inside c.kind-kind.ensures (parts_are_children c.kind-kind.result.now n has) in
    rw (take_item items i n c.loop-part-test.true c.part-item.is)
    (elim c.match-node.branch [
      | in-Some+in_ok-add_leaves w ↦
          let found = is_found tree n (node_view w.in-Some.part) w.in-Some.ensures in
          let read = rw (found.same_tree, found.number_is) at (w.in_ok-add_leaves.ensures levels) in
          leaves_more (pattern_bindings_within_levels tree levels) (take i items) n c.args.leaves.now.items c.loop-part.leaves.items c.match-node.leaves.items
          (c.loop-part.invariant levels enough) (rw w.leaves-is (read (omega arith)))
      | in_default w ↦
          let none = leaves_outside tree levels n (is_missing tree n w.in_default.ensures) in
          leaves_more (pattern_bindings_within_levels tree levels) (take i items) n c.args.leaves.now.items c.loop-part.leaves.items c.match-node.leaves.items
          (c.loop-part.invariant levels enough) (rw (none, w.leaves-is) (sym (append-nil c.loop-part.leaves.items)))
    ])

pub returns : goal.returns
returns t c = λ levels enough.
    let node = c.args.node in
    leaves_at_parts node.tree.now levels node.number c.kind-kind.result.now c.args.leaves.now.items c.loop-part.leaves.items node.inside enough
    c.kind-kind.ensures (sym c.if-is_identifier_pattern.ensures)
    (λ left more. let all = take_all c.loop-part.part-index c.pattern_parts-part-items.result.now (omega arith) in rw (← c.pattern_parts-part-items.ensures)
    (rw all at (c.loop-part.invariant left more)))

pub returns-then-is_identifier_pattern : goal.returns-then-is_identifier_pattern
returns-then-is_identifier_pattern t c = λ levels enough.
    let node = c.args.node in
    rw (leaves_at_name node.tree.now levels node.number c.kind-kind.result.now node.inside enough c.kind-kind.ensures (sym c.if-is_identifier_pattern.ensures))
    (rw c.node_id.ensures at c.in_ok-push.ensures.items)
