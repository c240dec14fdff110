use Rattle.symbols_table.specs.DeclViews.{decl_view}
use Rattle.symbols_table.proofs.Built.{begun}
use Rattle.symbols_table.proofs.builder.analysis.begin.Goals as goal

pub returns-clause-table : goal.returns-clause-table
returns-clause-table c =
    begun _ c.add_symbol.new.self (decl_view c.args.decl) c.in_ok-add_symbol.field-0
    c.new.ensures.items c.with_hasher.ensures.empty c.with_hasher-2.ensures.empty
    c.with_hasher-3.ensures.empty c.new-2.ensures.items c.in_ok-add_symbol.ensures.numbered c.in_ok-add_symbol.ensures.table
