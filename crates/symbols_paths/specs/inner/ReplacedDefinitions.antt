-- Paths with their definitions replaced.
use Rattle.std.specs.Prelude.{ℕ, List, [], ◌∷◌, ◌++◌}
use Rattle.symbols_paths.specs.PathTrees.{SymbolBySpecifier, DeclBySpecifier, QualifiedNameParts, DefinitionView, definition, unresolved, PathTree, PathForest}
use Rattle.symbols_paths.specs.PathTrees.{leaf, link, no_trees, more_trees, forest_of_tree, joined_forests, forest_below_link_unless_empty}
use Rattle.symbols_paths.specs.PartTargets.{SearchTargets}
use Rattle.symbols_paths.specs.Derived.{link_head_with_parts_replaced}
use Rattle.symbols_paths.specs.Choice.{IsOutcomeOfPartsInTree}

-- the definitions, from left to right
abbrev mutual
  pub definitions_of_tree : PathTree → List DefinitionView
  definitions_of_tree (leaf (definition x)) = x ∷ []
  definitions_of_tree (leaf (unresolved m)) = []
  definitions_of_tree (link head next) = definitions_of_forest next

  pub definitions_of_forest : PathForest → List DefinitionView
  definitions_of_forest no_trees = []
  definitions_of_forest (more_trees t f) = definitions_of_tree t ++ definitions_of_forest f

abbrev pub first_forest : List PathForest → PathForest
first_forest [] = no_trees
first_forest (g ∷ gs) = g

abbrev pub forests_after_first : List PathForest → List PathForest
forests_after_first [] = []
forests_after_first (g ∷ gs) = gs

-- a tree or forest with its definitions replaced by the first of `gs`, from left to right, and what is left of `gs`; links get the parts
-- `ps`
abbrev mutual
  pub tree_with_definitions_replaced : QualifiedNameParts → PathTree → List PathForest → PathForest × List PathForest
  tree_with_definitions_replaced ps (leaf (definition x)) gs = (first_forest gs, forests_after_first gs)
  tree_with_definitions_replaced ps (leaf (unresolved m)) gs = (forest_of_tree (leaf (unresolved m)), gs)
  tree_with_definitions_replaced ps (link head next) gs = let r = forest_with_definitions_replaced ps next gs
      in (forest_below_link_unless_empty (link_head_with_parts_replaced head ps) r.0, r.1)

  pub forest_with_definitions_replaced : QualifiedNameParts → PathForest → List PathForest → PathForest × List PathForest
  forest_with_definitions_replaced ps no_trees gs = (no_trees, gs)
  forest_with_definitions_replaced ps (more_trees t f) gs = let r = tree_with_definitions_replaced ps t gs in let q = forest_with_definitions_replaced ps f r.1
      in (joined_forests r.0 q.0, q.1)

-- each definition replaced, in order
pub data ReplacesInOrder (routes : SearchTargets) (limit : ℕ) (running : List DeclBySpecifier) : List SymbolBySpecifier → List ℕ → QualifiedNameParts
    → List DefinitionView → List PathForest → List SymbolBySpecifier → Type 0 where
  no_step : {visited : List SymbolBySpecifier} {p : List ℕ} {ps : QualifiedNameParts} → ReplacesInOrder routes limit running visited p ps [] [] visited
  a_step : {visited mid after : List SymbolBySpecifier} {p : List ℕ} {ps : QualifiedNameParts} {x : DefinitionView} {xs : List DefinitionView}
      {g : PathForest} {gs : List PathForest}
      → IsOutcomeOfPartsInTree routes limit running visited p ps (leaf (definition x)) g mid → ReplacesInOrder routes limit running mid p ps xs gs after
      → ReplacesInOrder routes limit running visited p ps (x ∷ xs) (g ∷ gs) after
