use Rattle.std.proofs.Common.{◌++◌, string_bytes, ◌≡◌, encode_utf8_all}
use Rattle.std.specs.List.{flat_map}
use Rattle.symbols_table.specs.QualifiedNames.{char_with_quote_escaped}
use Rattle.symbols_table.proofs.info.qualified_name.push_all_escaped.Given as goal

abbrev pub invariant-loop-c : goal.invariant-loop-c
invariant-loop-c l = string_bytes l.made ≡ string_bytes l.initial.made ++ encode_utf8_all (flat_map char_with_quote_escaped l.yielded)
