use Rattle.std.proofs.Common.{sym, subst}
use Rattle.symbols_queries.specs.declared.paths_by_specifier.PathEndBySpecifier.{PathEndBySpecifier}
use Rattle.symbols_queries.specs.Queries.{path_end_view}
use Rattle.symq_core.specs.PathData.{leaf_json}
use Rattle.symq_core.specs.inner.JsonWriting.{AppendsValueTokensIfOk}
use Rattle.symq_core.proofs.write_paths.PathEndBySpecifierWriteJson.write_json.Goals as goal

pub returns-in-Definition : goal.returns-in-Definition
returns-in-Definition c =
    subst (λ (x : PathEndBySpecifier). AppendsValueTokensIfOk c.write_definition.result c.args.out.now c.write_definition.new.out (leaf_json (path_end_view x)))
    (sym c.in-Definition.is) c.write_definition.ensures
