use Rattle.std.proofs.Common.{◌≡◌, map, take}
use Rattle.std.specs.Cow.{cow_str_bytes}
use Rattle.symbols_paths.specs.inner.Views.{borrowed_strings_view}
use Rattle.symbols_paths.proofs.symbol_dep.borrowed_names.Given as goal

abbrev pub invariant-loop-part : goal.invariant-loop-part
invariant-loop-part l = borrowed_strings_view l.texts.items ≡ map cow_str_bytes (take l.part-index l.parts)
