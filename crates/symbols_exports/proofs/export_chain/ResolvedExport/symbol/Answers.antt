use Rattle.symbols_exports.proofs.StoredSymbols.{symbol_of_module, no_symbol_of}
use Rattle.symbols_exports.proofs.export_chain.ResolvedExport.symbol.Goals as goal

pub returns-in-Some-clause-of_module : goal.returns-in-Some-clause-of_module
returns-in-Some-clause-of_module c = symbol_of_module c.args.root.now c.args.self.now.«module» c.in-Some.info c.args.self.now.symbol_id c.symbol.result
    c.in-Some.ensures.table c.symbol.ensures

pub returns-in-None-clause-symbol : goal.returns-in-None-clause-symbol
returns-in-None-clause-symbol c = no_symbol_of c.args.root.now c.args.self.now (λ stored. let some = c.in-None.ensures.found.1 stored in let no : ⊥ = cc in no)
