use Rattle.symbols_exports.proofs.WalkEndsOrBreaks.{are_listed}
use Rattle.symbols_exports.proofs.laws.exports_are_listed.Goals as goal

pub returns : goal.returns
returns c = λ start. are_listed c.args.root.now.graph start
