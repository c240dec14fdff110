use Rattle.std.proofs.Common.{List, [], sym, subst, rules}
use Rattle.symbols_ast.specs.declared.graph.raw.RawModule.{RawModule}
use Rattle.symq_reader.specs.inner.Pieces.{ReadsModulesToEnd}
use Rattle.symq_reader.proofs.Pieces.{more_items}
use Rattle.symq_reader.proofs.stream.modules.module_items.Goals as goal

pub returns : goal.returns
returns c =
    let reads : ReadsModulesToEnd c.args.reader.now c.more_modules.new.reader [] c.more_modules.new.found.items = search rules in
    let retained : List RawModule = c.shrink_to_fit.new.self.items in
    more_items c.args.reader.now c.more_modules.new.reader retained
    (subst (ReadsModulesToEnd c.args.reader.now c.more_modules.new.reader []) (sym c.shrink_to_fit.ensures.items) reads)
