use Rattle.std.proofs.Common.{◌≡◌, ◌++◌, List, ℕ, map, take}
use Rattle.std.specs.Borrow.{Bor}
use Rattle.std.specs.Cow.{cow_str_bytes}
use Rattle.symbols_deps.proofs.references.push_parts.Given as goal

abbrev pub invariant-loop-part : goal.invariant-loop-part
invariant-loop-part l = map cow_str_bytes l.parts.items
    ≡ map cow_str_bytes l.initial.parts.items ++ map (λ (part : Bor (List ℕ)). part.now) (take l.part-index l.borrowed)
