use Rattle.std.proofs.Common.{subst}
use Rattle.symbols_paths.specs.Views.{path_leaf_of_end, remaining_ends, module_of_end}
use Rattle.symbols_queries.specs.Queries.{path_end_view}
use Rattle.symbols_queries.proofs.Naming.{AreNamed, named_next}
use Rattle.symbols_queries.proofs.Known.{IsKnown, mapped_first, mapped_rest}
use Rattle.symbols_queries.proofs.paths_by_specifier.path_ends_by_specifier.Goals as goal

pub path_end_by_specifier-requires : goal.path_end_by_specifier-requires
path_end_by_specifier-requires c = mapped_first (IsKnown c.args.root.now) module_of_end (remaining_ends c.loop-end.end-iterator) c.in-Some.end
    (remaining_ends c.next.new.self)
    c.in-Some.ensures.steps c.loop-end.invariant.known

pub loop-end-preserved : goal.loop-end-preserved
loop-end-preserved c =
    let root = c.args.root.now in
    let so = subst (λ left. AreNamed path_end_view (path_leaf_of_end root) c.loop-end.named.items left (remaining_ends c.args.ends)) c.in-Some.ensures.steps
    c.loop-end.invariant.named in
    record {
      named = named_next path_end_view (path_leaf_of_end root) c.loop-end.named.items c.push.new.self.items c.path_end_by_specifier.result c.in-Some.end
          (remaining_ends c.next.new.self)
          (remaining_ends c.args.ends) so c.in_ok-push.ensures.items c.path_end_by_specifier.ensures;
      known = mapped_rest (IsKnown root) module_of_end (remaining_ends c.loop-end.end-iterator) c.in-Some.end (remaining_ends c.next.new.self)
          c.in-Some.ensures.steps
          c.loop-end.invariant.known;
    }
