-- Definitions of inner functions and proofs, beside those of `Views`.
use Rattle.std.specs.Prelude.{ℕ, List, [], ◌∷◌, map, Option, Some, None}
use Rattle.std.specs.Borrow.{Bor}
use Rattle.symbols_ast.specs.declared.ids.UniqueSymbolId.{UniqueSymbolId}
use Rattle.symbols_root.specs.Roots.{RootView}
use Rattle.symbols_paths.specs.declared.definition_path.DefinitionPathNode.{DefinitionPathNode}
use Rattle.symbols_paths.specs.PathTrees.{SymbolBySpecifier, QualifiedNameParts, PathForest, no_trees, forest_of_tree}
use Rattle.symbols_paths.specs.Views.{symbol_by_specifier, path_by_specifier}

abbrev pub symbol_of_unique_id : RootView → UniqueSymbolId → SymbolBySpecifier
symbol_of_unique_id root s = symbol_by_specifier root s.module_id s.symbol_id

-- borrowed texts
abbrev pub borrowed_strings_view : List (Bor (List ℕ)) → QualifiedNameParts
borrowed_strings_view texts = map (λ (text : Bor (List ℕ)). text.now) texts

-- the first of some parts, and those after it
abbrev pub first_part : QualifiedNameParts → List ℕ
first_part [] = []
first_part (p ∷ ps) = p

abbrev pub later_parts : QualifiedNameParts → QualifiedNameParts
later_parts [] = []
later_parts (p ∷ ps) = ps

abbrev pub forest_of_option : RootView → Option DefinitionPathNode → PathForest
forest_of_option root None = no_trees
forest_of_option root (Some path) = forest_of_tree (path_by_specifier root path)
