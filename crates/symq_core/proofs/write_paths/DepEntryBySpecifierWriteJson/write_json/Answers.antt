use Rattle.std.proofs.Common.{sym, subst}
use Rattle.symbols_queries.specs.declared.paths_by_specifier.DepEntryBySpecifier.{DepEntryBySpecifier}
use Rattle.symbols_queries.specs.Queries.{dep_entry_view}
use Rattle.symq_core.specs.PathData.{dep_entry_json}
use Rattle.symq_core.specs.inner.JsonWriting.{AppendsValueTokensIfOk}
use Rattle.symq_core.proofs.write_paths.DepEntryBySpecifierWriteJson.write_json.Goals as goal

pub returns-in-ImportType : goal.returns-in-ImportType
returns-in-ImportType c =
    subst (λ (x : DepEntryBySpecifier). AppendsValueTokensIfOk c.write_text.result c.args.out.now c.write_text.new.out (dep_entry_json (dep_entry_view x)))
    (sym c.in-ImportType.is) c.write_text.ensures
