use Rattle.std.proofs.Common.{◌≡◌, map, take}
use Rattle.symbols_table.specs.DeclViews.{decl_view}
use Rattle.symbols_deps.specs.DeclDependencies.{decl_dependencies}
use Rattle.symbols_queries.specs.Queries.{deps_view}
use Rattle.symbols_queries.proofs.decl_deps.symbol_deps.Given as goal

abbrev pub invariant-loop-decl : goal.invariant-loop-decl
invariant-loop-decl l = map deps_view l.deps.items ≡ map (decl_dependencies l.mode) (map decl_view (take l.decl-index l.decl-items))
