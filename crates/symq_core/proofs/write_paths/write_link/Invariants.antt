use Rattle.std.proofs.Common.{reverse}
use Rattle.symq_core.proofs.Paths.{IsWriting, links_weight, link_tokens}
use Rattle.symq_core.proofs.write_paths.write_link.Given as goal

abbrev pub invariant-loop-innermost : goal.invariant-loop-innermost
invariant-loop-innermost l = IsWriting l.fn.out l.out l.links.items (link_tokens l.link)

abbrev pub decreases-loop-innermost : goal.decreases-loop-innermost
decreases-loop-innermost l = links_weight (reverse l.links.items)
