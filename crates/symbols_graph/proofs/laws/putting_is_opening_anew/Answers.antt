use Rattle.std.proofs.Common.{List, subst}
use Rattle.symbols_ast.specs.Graph.{ModuleView}
use Rattle.symbols_graph.specs.PutModules.{IsFaultlessPut, IsFirstPutFault}
use Rattle.symbols_graph.proofs.OpenedAnew.{faultless_with, refused_with, same_with}
use Rattle.symbols_graph.proofs.laws.putting_is_opening_anew.Goals as goal

pub returns-clause-faultless : goal.returns-clause-faultless
returns-clause-faultless c = λ raw graph m resolved same none put.
    faultless_with raw m resolved none (subst (λ (ms : List ModuleView). IsFaultlessPut ms m resolved) same.0 put)

pub returns-clause-refused : goal.returns-clause-refused
returns-clause-refused c = λ raw graph m resolved fault same none first.
    refused_with raw m resolved none fault (subst (λ (ms : List ModuleView). IsFirstPutFault ms m resolved fault) same.0 first)

pub returns-clause-same : goal.returns-clause-same
returns-clause-same c = λ raw graph m resolved same. same_with raw graph m resolved same
