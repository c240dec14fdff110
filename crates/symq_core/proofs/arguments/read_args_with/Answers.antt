use Rattle.std.proofs.Common.{◌∙◌, map, string_bytes, refl, sym, ap, subst}
use Rattle.std.specs.Prelude.{Ok, Err}
use Rattle.std.specs.Fn.{FnOnceReturns, FnOnceReturnsAt}
use Rattle.std.specs.Vec.Iter.{into_iter_items}
use Rattle.symq_reader.specs.GraphText.{IsReadOutcome, read_outcome_of_bytes}
use Rattle.symq_core.proofs.GraphOfArguments.{ok_before, no_graph}
use Rattle.symq_core.proofs.arguments.read_args_with.Goals as goal

pub returns-in-Ok-clause-started : goal.returns-in-Ok-clause-started
returns-in-Ok-clause-started g c =
    let bytes = c.in_ok-bytes.bytes in
    record {
      path = string_bytes c.in-Some.path;
      named = sym c.in-Some.ensures;
      bytes = bytes;
      read = (
        c.as_str.result,
        subst (λ r. FnOnceReturns g.F.FnOnce c.args.read (c.as_str.result, tt) r) (ok_before c.read.result (Ok bytes) bytes refl
            c.in_ok-bytes.ensures.cases) c.read.ensures,
        c.as_str.ensures.value,
      );
      is_graph_of_bytes = ap read_outcome_of_bytes (sym c.as_slice.ensures.value) ∙ c.in-Ok.ensures;
    }

pub returns-clause-fails : goal.returns-clause-fails
returns-clause-fails g c =
    let bytes = c.in_ok-bytes.bytes in
    no_graph (FnOnceReturnsAt g.F.FnOnce c.args.read) (map string_bytes (into_iter_items c.args.args)) c.in-Some.rules (string_bytes c.in-Some.path) bytes
    (sym c.in-Some.ensures) (
      c.as_str.result,
      subst (λ r. FnOnceReturns g.F.FnOnce c.args.read (c.as_str.result, tt) r) (ok_before c.read.result (Ok bytes) bytes refl
          c.in_ok-bytes.ensures.cases) c.read.ensures,
      c.as_str.ensures.value,
    ) c.in-Err.fault (subst (λ bs. IsReadOutcome (Err c.in-Err.fault) (read_outcome_of_bytes bs)) c.as_slice.ensures.value c.in-Err.ensures)
