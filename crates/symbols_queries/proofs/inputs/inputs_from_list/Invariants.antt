use Rattle.std.proofs.Common.{◌≡◌, map}
use Rattle.symbols_answers.specs.Inputs.{input_of_specifier}
use Rattle.symbols_queries.proofs.InputItems.{with_remaining}
use Rattle.symbols_queries.proofs.inputs.inputs_from_list.Given as goal

abbrev pub invariant-loop-specifier : goal.invariant-loop-specifier
invariant-loop-specifier l = with_remaining l.graph l.inputs.items l.specifier-iterator ≡ map (input_of_specifier l.graph) l.fn.list
