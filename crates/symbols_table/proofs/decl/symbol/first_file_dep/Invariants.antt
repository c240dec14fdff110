use Rattle.std.proofs.Common.{◌≡◌, map, drop}
use Rattle.symbols_table.specs.DeclViews.{decl_view, first_file_dep}
use Rattle.symbols_table.proofs.decl.symbol.first_file_dep.Given as goal

-- The result is that of the remaining declarations.
abbrev pub invariant-loop-decl : goal.invariant-loop-decl
invariant-loop-decl l = first_file_dep (map decl_view l.decls) ≡ first_file_dep (map decl_view (drop l.decl-index l.decls))
