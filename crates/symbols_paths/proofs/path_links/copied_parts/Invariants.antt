use Rattle.std.proofs.Common.{◌≡◌, take}
use Rattle.symbols_paths.specs.Views.{strings_view}
use Rattle.symbols_paths.proofs.path_links.copied_parts.Given as goal

abbrev pub invariant-loop-part : goal.invariant-loop-part
invariant-loop-part l = strings_view l.copies.items ≡ strings_view (take l.part-index l.parts)
