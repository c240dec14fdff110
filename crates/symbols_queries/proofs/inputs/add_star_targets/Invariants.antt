use Rattle.std.proofs.Common.{◌≡◌, ◌-◌, ◌^◌, map, take}
use Rattle.symbols_table.specs.Modules.{symbol_table_of_ref}
use Rattle.symbols_answers.specs.Questions.{append_resolved_specifiers}
use Rattle.symbols_queries.proofs.inputs.add_star_targets.Given as goal

abbrev pub invariant-loop-specifier_text : goal.invariant-loop-specifier_text
invariant-loop-specifier_text l = l.list ≡ append_resolved_specifiers l.graph (symbol_table_of_ref l.info).specifier l.fn.list
    (take l.position (map (λ star. star.specifier_text) (symbol_table_of_ref l.info).stars))

abbrev pub decreases-loop-specifier_text : goal.decreases-loop-specifier_text
decreases-loop-specifier_text l = 2 ^ 63 - l.position
