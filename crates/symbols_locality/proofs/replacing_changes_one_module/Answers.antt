use Rattle.symbols_locality.proofs.ChangedModule.{differs_with}
use Rattle.symbols_locality.proofs.replacing_changes_one_module.Goals as goal

pub returns : goal.returns
returns c = λ graph m resolved. differs_with graph m resolved
