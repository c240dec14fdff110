use Rattle.std.proofs.Common.{ℕ, List, take, drop, suc, subst, ◌∙◌}
use Rattle.symbols_table.specs.EventsByHolderAndStart.{events_of_each}
use Rattle.symbols_table.specs.DeclarationEvents.{declarator_events_at}
use Rattle.symbols_table.specs.inner.VariablesViews.{variable_statement_view}
use Rattle.symbols_table.specs.inner.Tables.{AppliesEventsUnderHolder}
use Rattle.symbols_table.proofs.Walks.{take_item, split_item, each_none, each_next, each_fault}
use Rattle.symbols_table.proofs.builder.table.ModuleBuilder.walk_variables.Goals as goal

pub loop-n-init : goal.loop-n-init
loop-n-init c = each_none _ (declarator_events_at (variable_statement_view c.args.variables)) _ c.requires.filled

pub loop-n-preserved : goal.loop-n-preserved
loop-n-preserved c =
    rw (take_item c.decls-n-items.result.now c.loop-n.n-index c.n-item.result c.loop-n-test.true c.n-item.is)
    (each_next (declarator_events_at (variable_statement_view c.args.variables)) (take c.loop-n.n-index c.decls-n-items.result.now) c.loop-n.invariant
    c.walk_declarator.new.self c.n-item.result c.in_ok-walk_declarator.field-0 c.in_ok-walk_declarator.ensures.keeps c.in_ok-walk_declarator.ensures.table)

pub returns-in_err-walk_declarator-clause-table : goal.returns-in_err-walk_declarator-clause-table
returns-in_err-walk_declarator-clause-table c =
    let items = c.decls-n-items.result.now in
    let P : List ℕ → Type 0 = λ ms. AppliesEventsUnderHolder c.from_residual.result c.args.self.now c.walk_declarator.new.self (events_of_each
    (declarator_events_at (variable_statement_view c.args.variables)) ms) c.args.holder in
    subst P (split_item items c.loop-n.n-index c.n-item.result c.loop-n-test.true c.n-item.is ∙ c.decls-n-items.ensures)
    (each_fault (Unit {0}) (declarator_events_at (variable_statement_view c.args.variables)) (take c.loop-n.n-index items) c.loop-n.invariant
    c.walk_declarator.new.self
    c.walk_declarator.new.self c.n-item.result (drop (suc c.loop-n.n-index) items) c.in_err-walk_declarator.field-0.0 c.from_residual.result
    c.from_residual.ensures.1 c.in_err-walk_declarator.ensures.table)
