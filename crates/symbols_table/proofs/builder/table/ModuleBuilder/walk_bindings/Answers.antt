use Rattle.std.proofs.Common.{ℕ, List, take, drop, suc, subst}
use Rattle.symbols_table.specs.EventsByHolderAndStart.{events_of_each}
use Rattle.symbols_table.specs.DeclarationEvents.{binding_events_at}
use Rattle.symbols_table.specs.inner.VariablesViews.{variable_statement_view}
use Rattle.symbols_ast.specs.NodeRefs.{node_view}
use Rattle.symbols_table.specs.inner.Tables.{AppliesEventsUnderHolder}
use Rattle.symbols_table.proofs.Walks.{take_item, split_item, each_none, each_next, each_fault}
use Rattle.symbols_table.proofs.builder.table.ModuleBuilder.walk_bindings.Goals as goal

pub loop-n-init : goal.loop-n-init
loop-n-init c = each_none _ (binding_events_at (variable_statement_view c.args.variables) (node_view c.args.declarator)) _ c.requires.filled

pub loop-n-preserved : goal.loop-n-preserved
loop-n-preserved c =
    rw (take_item c.args.names.now c.loop-n.n-index c.n-item.result c.loop-n-test.true c.n-item.is)
    (each_next (binding_events_at (variable_statement_view c.args.variables) (node_view c.args.declarator)) (take c.loop-n.n-index c.args.names.now)
    c.loop-n.invariant
    c.walk_binding.new.self c.n-item.result c.in_ok-walk_binding.field-0 c.in_ok-walk_binding.ensures.keeps c.in_ok-walk_binding.ensures.table)

pub returns-in_err-walk_binding-clause-table : goal.returns-in_err-walk_binding-clause-table
returns-in_err-walk_binding-clause-table c =
    let items = c.args.names.now in
    let P : List ℕ → Type 0 = λ ms. AppliesEventsUnderHolder c.from_residual.result c.args.self.now c.walk_binding.new.self (events_of_each
    (binding_events_at (variable_statement_view c.args.variables) (node_view c.args.declarator)) ms) c.args.holder in
    subst P (split_item items c.loop-n.n-index c.n-item.result c.loop-n-test.true c.n-item.is)
    (each_fault (Unit {0}) (binding_events_at (variable_statement_view c.args.variables) (node_view c.args.declarator)) (take c.loop-n.n-index items)
    c.loop-n.invariant
    c.walk_binding.new.self c.walk_binding.new.self c.n-item.result (drop (suc c.loop-n.n-index) items) c.in_err-walk_binding.field-0.0
    c.from_residual.result c.from_residual.ensures.1 c.in_err-walk_binding.ensures.table)
