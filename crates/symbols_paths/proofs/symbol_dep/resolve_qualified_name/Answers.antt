use Rattle.std.proofs.lemmas.Result.{IfOk-weaker}
use Rattle.symbols_paths.specs.inner.PathBuilders.{remaining_parts}
use Rattle.symbols_paths.proofs.Answering.{walked_found, walked_listed}
use Rattle.symbols_paths.proofs.symbol_dep.resolve_qualified_name.Goals as goal

pub returns-clause-found : goal.returns-clause-found
returns-clause-found c = IfOk-weaker c.resolve_qualified_name_internal.result _ _
    (λ paths outcome. walked_found c.args.symbol (remaining_parts c.args.parts.now)
    paths.items c.requires.known c.resolve_qualified_name_internal.ensures.keeps.grown outcome) c.resolve_qualified_name_internal.ensures.found

pub returns-clause-listed : goal.returns-clause-listed
returns-clause-listed c = IfOk-weaker c.resolve_qualified_name_internal.result _ _
    (λ paths outcome. walked_listed c.args.symbol (remaining_parts c.args.parts.now)
    paths.items c.requires.known c.resolve_qualified_name_internal.ensures.keeps.grown outcome) c.resolve_qualified_name_internal.ensures.found

pub returns-clause-stored : goal.returns-clause-stored
returns-clause-stored c = IfOk-weaker c.resolve_qualified_name_internal.result _ _ (λ paths outcome. outcome.searched.stored)
    c.resolve_qualified_name_internal.ensures.found
