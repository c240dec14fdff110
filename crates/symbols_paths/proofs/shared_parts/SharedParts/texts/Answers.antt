use Rattle.symbols_paths.proofs.SharedParts.{borrowed_parts}
use Rattle.symbols_paths.proofs.shared_parts.SharedParts.texts.Goals as goal

pub returns-clause-view : goal.returns-clause-view
returns-clause-view c = borrowed_parts c.args.self.now c.as_slice.result.now c.as_slice.ensures.value
