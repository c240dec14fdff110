use Rattle.std.proofs.Common.{◌≡◌, ℕ, ◌<◌, List, ◌++◌, length}
use Rattle.symbols_table.specs.SymbolViews.{SymbolView, symbol_view_of_number}
use Rattle.symbols_table.specs.QualifiedNames.{symbol_path_within_length, symbol_path_from_module}
use Rattle.symbols_table.specs.inner.NamePaths.{IsNameOfPathSuffixIfAny}
use Rattle.symbols_table.proofs.info.qualified_name.name_along.Given as goal

abbrev pub invariant-loop-number : goal.invariant-loop-number
invariant-loop-number l =
    (n : ℕ) × (lower : List SymbolView) × (l.number.0 < length l.symbols) × (l.number.0 < n)
    × (symbol_path_from_module (symbol_view_of_number l.symbols) l.fn.symbol_id ≡ symbol_path_within_length (symbol_view_of_number l.symbols) n l.number
    ++ lower)
    × IsNameOfPathSuffixIfAny l.inner lower

abbrev pub decreases-loop-number : goal.decreases-loop-number
decreases-loop-number l = l.number.0
