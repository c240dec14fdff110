-- The dependencies of a symbol's declaration.
use Rattle.std.specs.Prelude.{◌≡◌, List, [], MatchOption}
use Rattle.std.specs.Option.{option_map_or}
use Rattle.symbols_nodes.specs.declared.deps.dep.ResolveDepsMode.{ResolveDepsMode}
use Rattle.symbols_nodes.specs.References.{NamespacedReference}
use Rattle.symbols_table.specs.DeclViews.{Declaration, decl_kind_node}
use Rattle.symbols_deps.specs.Dependencies.{dependencies, start_steps_of_decl, AreDependenciesOfAllOccurrences}

-- The dependencies of a declaration are those of its node; without a node it has none.
abbrev pub decl_dependencies : ResolveDepsMode → Declaration → List NamespacedReference
decl_dependencies mode decl = option_map_or (dependencies mode) (decl_kind_node decl.kind) []

-- The list has exactly the dependencies of a declaration: those on the paths from its node, in order; without a node the list is empty.
abbrev pub AreDeclDependencies : ResolveDepsMode → Declaration → List NamespacedReference → Type 0
AreDeclDependencies mode decl list = MatchOption (decl_kind_node decl.kind) (list ≡ [])
    (λ node. AreDependenciesOfAllOccurrences mode (start_steps_of_decl node) list)
