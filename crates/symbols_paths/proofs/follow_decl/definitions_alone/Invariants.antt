use Rattle.std.proofs.Common.{◌-◌, length}
use Rattle.symbols_paths.proofs.DefinitionsAlone.{AreDefinitionsBefore}
use Rattle.symbols_paths.proofs.follow_decl.definitions_alone.Given as goal

abbrev pub invariant-decls : goal.invariant-decls
invariant-decls l = AreDefinitionsBefore l.root l.fn.symbol l.here

abbrev pub decreases-decls : goal.decreases-decls
decreases-decls l = length l.decls - l.here.index
