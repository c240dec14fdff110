use Rattle.symbols_deps.proofs.DependencyLists.{decl_has_exactly}
use Rattle.symbols_deps.proofs.laws.dependencies_are_listed.Goals as goal

pub returns : goal.returns
returns c = λ mode decl. decl_has_exactly mode decl
