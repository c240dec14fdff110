use Rattle.symbols_locality.proofs.UnseenModules.{unseen_by_query}
use Rattle.symbols_locality.proofs.unreferenced_module_is_unseen.Goals as goal

pub returns : goal.returns
returns c = λ graph query specifier unreferenced other. unseen_by_query graph query specifier unreferenced other
