use Rattle.std.proofs.Common.{refl, sym}
use Rattle.symbols_paths.specs.inner.PathBuilders.{built_paths}
use Rattle.symbols_paths.proofs.LoopInvariants.{join_none}
use Rattle.symbols_paths.proofs.follow_decl.at_next_decl.Goals as goal

pub returns-clause-next : goal.returns-clause-next
returns-clause-next c = record { symbol = refl; index = refl; paths = λ root. sym (join_none (built_paths root c.args.here.paths.items)) }
