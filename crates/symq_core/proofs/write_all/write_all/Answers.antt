use Rattle.std.proofs.Common.{◌++◌, take, drop, sym, ap, ◌∙◌, append_assoc, take-append-drop, arith}
use Rattle.std.proofs.KnownBytes.{Appends-trans}
use Rattle.symq_core.proofs.Beginnings.{write_counts_none}
use Rattle.symq_core.proofs.write_all.write_all.Goals as goal

pub writes-preserved : goal.writes-preserved
writes-preserved g c =
    let l = c.writes in
    let sent = l.invariant.0 in
    let n = c.in-Ok.count in
    let front = take n l.rest.now in (
      sent ++ front,
      l.invariant.1 ∙ ap (λ t. sent ++ t) (sym (take-append-drop n l.rest.now)) ∙ sym (append_assoc sent front (drop n l.rest.now))
          ∙ ap (λ t. sent ++ front ++ t) (sym c.split_at.ensures.back),
      Appends-trans _ _ _ sent front l.invariant.2 c.in-Ok.ensures.appended,
      omega (arith, c.in-Ok.ensures.counted, write_counts_none n c.if-count-gt0.true, l.invariant.3),
    )
