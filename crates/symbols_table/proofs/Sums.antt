-- Sums over the numbers below a count, and the number of declarations that changes make.
use Rattle.std.proofs.Common.{ℕ, zero, suc, ◌+◌, List, length, Option, Some, None}
use Rattle.std.specs.List.{filter_map}
use Rattle.symbols_table.specs.DeclViews.{Declaration}
use Rattle.symbols_table.specs.Changes.{Change, adds_decl}

-- The sum of f over the numbers below a count.
abbrev pub sum_below : (ℕ → ℕ) → ℕ → ℕ
sum_below f zero = 0
sum_below f (suc n) = sum_below f n + f n

-- The declaration that a change adds, if it adds one.
abbrev pub declared_in : Change → Option Declaration
declared_in (adds_decl _ decl) = Some decl
declared_in _ = None

-- The number of declarations that the changes add.
abbrev pub declaration_count : List Change → ℕ
declaration_count changes = length (filter_map declared_in changes)
