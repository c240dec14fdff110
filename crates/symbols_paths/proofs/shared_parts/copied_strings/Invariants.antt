use Rattle.std.proofs.Common.{◌≡◌, take}
use Rattle.symbols_paths.specs.Views.{strings_view}
use Rattle.symbols_paths.specs.inner.Views.{borrowed_strings_view}
use Rattle.symbols_paths.proofs.shared_parts.copied_strings.Given as goal

abbrev pub invariant-loop-text : goal.invariant-loop-text
invariant-loop-text l = strings_view l.copies.items ≡ borrowed_strings_view (take l.text-index l.texts)
