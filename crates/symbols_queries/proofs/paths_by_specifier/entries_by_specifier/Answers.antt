use Rattle.std.proofs.Common.{subst}
use Rattle.symbols_paths.specs.DepAnswers.{resolved_dep_entry_view, modules_of_entry}
use Rattle.symbols_queries.specs.Queries.{dep_entry_view}
use Rattle.symbols_queries.proofs.Naming.{AreNamed, named_next}
use Rattle.symbols_queries.proofs.Known.{joined_first, joined_rest}
use Rattle.symbols_queries.proofs.paths_by_specifier.entries_by_specifier.Goals as goal

pub entry_by_specifier-requires : goal.entry_by_specifier-requires
entry_by_specifier-requires c = joined_first c.args.root.now modules_of_entry c.loop-entry.entry-iterator.rest.items c.in-Some.entry c.next.new.self.rest.items
    c.in-Some.ensures.steps.0 c.loop-entry.invariant.known

pub loop-entry-preserved : goal.loop-entry-preserved
loop-entry-preserved c =
    let root = c.args.root.now in
    let so = subst (λ left. AreNamed dep_entry_view (resolved_dep_entry_view root) c.loop-entry.named.items left c.args.entries.items) c.in-Some.ensures.steps.0
    c.loop-entry.invariant.named in
    record {
      named = named_next dep_entry_view (resolved_dep_entry_view root) c.loop-entry.named.items c.push.new.self.items c.in_ok-entry_by_specifier.field-0
          c.in-Some.entry
          c.next.new.self.rest.items c.args.entries.items so c.in_ok-push.ensures.items c.in_ok-entry_by_specifier.ensures;
      known = joined_rest root modules_of_entry c.loop-entry.entry-iterator.rest.items c.in-Some.entry c.next.new.self.rest.items c.in-Some.ensures.steps.0
          c.loop-entry.invariant.known;
    }
