use Rattle.symbols_locality.proofs.ClosedParts.{alike_in_part}
use Rattle.symbols_locality.proofs.closed_part_is_alike.Goals as goal

pub returns : goal.returns
returns c = λ graph part is_inside query closed inside. alike_in_part graph part is_inside query closed inside
