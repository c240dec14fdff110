use Rattle.std.proofs.Common.{◌≡◌}
use Rattle.std.specs.Prelude.{flat_map}
use Rattle.symbols_table.specs.declared.decl.symbol.Symbol.{Symbol}
use Rattle.symbols_table.specs.Modules.{symbol_table_of_ref}
use Rattle.symbols_table.specs.Symbols.{symbol_decls}
use Rattle.symbols_answers.specs.Questions.{append_resolved_specifiers, import_specifiers_among}
use Rattle.symbols_queries.proofs.inputs.add_import_targets.Given as goal

abbrev pub invariant-loop-symbol : goal.invariant-loop-symbol
invariant-loop-symbol l = append_resolved_specifiers l.graph (symbol_table_of_ref l.info).specifier l.list
    (flat_map (λ (s : Symbol). import_specifiers_among (symbol_decls s)) l.symbol-iterator.rest.now)
    ≡ append_resolved_specifiers l.graph (symbol_table_of_ref l.info).specifier l.fn.list
    (flat_map (λ (s : Symbol). import_specifiers_among (symbol_decls s)) (symbol_table_of_ref l.info).symbols)
