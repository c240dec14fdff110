use Rattle.std.proofs.Common.{ℕ, ◌<◌, length, sym, ap, subst}
use Rattle.std.specs.Slice.Iter.{iter_rest}
use Rattle.symbols_table.specs.declared.info.re_exports.StarStatement.{StarStatement}
use Rattle.symbols_table.proofs.Stars.{left_after, first_inside}
use Rattle.symbols_table.proofs.info.re_exports.ReExportNodesIterator.next.Goals as goal

pub invariant_of-self : goal.invariant_of-self
invariant_of-self c = record {
  starred = left_after c.args.self.now.source.now c.args.self.now.stars c.next.new.self c.next.result c.args.self.now.starred
      c.next.ensures.steps;
}

pub invariant_of-result : goal.invariant_of-result
invariant_of-result c =
    let first = first_inside c.args.self.now.source.now c.args.self.now.stars c.in_ok-star.star.now (iter_rest c.next.new.self) c.args.self.now.starred
    c.in_ok-star.ensures.steps in
    let read = ap (λ (star : StarStatement). star.node_id) c.star.view_is in
    record { inside = subst (λ (n : ℕ). n < length c.args.self.now.source.now.nodes.items) (sym read) first }
