use Rattle.std.proofs.Common.{◌≡◌, map, take}
use Rattle.symbols_table.specs.DeclViews.{decl_view}
use Rattle.symbols_answers.specs.Questions.{append_resolved_specifiers, import_specifiers_among}
use Rattle.symbols_queries.proofs.inputs.add_symbol_targets.Given as goal

abbrev pub invariant-loop-decl : goal.invariant-loop-decl
invariant-loop-decl l = l.list ≡ append_resolved_specifiers l.graph l.referrer l.fn.list
    (import_specifiers_among (map decl_view (take l.decl-index l.decl-items)))
