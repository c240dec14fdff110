use Rattle.std.proofs.Common.{◌≡◌, ◌++◌, drop, option_map}
use Rattle.symq_reader.specs.inner.Objects.{whole_numbers}
use Rattle.symq_reader.specs.UnderKeys.{read_each_item, as_u32}
use Rattle.symq_reader.proofs.fields.children_numbered.Given as goal

abbrev pub invariant-loop-number : goal.invariant-loop-number
invariant-loop-number l = option_map (λ rest. l.children.items ++ rest) (read_each_item as_u32 (whole_numbers (drop l.number-index l.numbers)))
    ≡ read_each_item as_u32 (whole_numbers l.numbers)
