-- Replacing the definitions one by one, and rebuilding the paths with the replacements, is `IsOutcomeOfPartsInForest`.
use Rattle.std.proofs.Common.{◌≡◌, ℕ, List, [], ◌∷◌, ◌++◌, refl, append_assoc}
use Rattle.symbols_paths.specs.PathTrees.{SymbolBySpecifier, DeclBySpecifier, QualifiedNameParts, DefinitionView, definition, unresolved, PathTree, PathForest}
use Rattle.symbols_paths.specs.PathTrees.{leaf, link, no_trees, more_trees}
use Rattle.symbols_paths.specs.PartTargets.{SearchTargets}
use Rattle.symbols_paths.specs.Choice.{IsOutcomeOfPartsInForest, no_tree_left, tree_then_forest, IsOutcomeOfPartsInTree, unresolved_leaf_is_unchanged}
use Rattle.symbols_paths.specs.Choice.{link_gets_resolved_forest}
use Rattle.symbols_paths.specs.inner.ReplacedDefinitions.{definitions_of_tree, definitions_of_forest, first_forest, forests_after_first}
use Rattle.symbols_paths.specs.inner.ReplacedDefinitions.{tree_with_definitions_replaced, forest_with_definitions_replaced, ReplacesInOrder, no_step, a_step}

module _ (routes : SearchTargets) (limit : ℕ) (running : List DeclBySpecifier) where
  pub record IsRebuilt (visited : List SymbolBySpecifier) (p : List ℕ) (ps : QualifiedNameParts) (f g : PathForest) (xs : List DefinitionView)
      (gs : List PathForest) (after : List
      SymbolBySpecifier) : Type 0 where
    pub mid : List SymbolBySpecifier
    pub changes : IsOutcomeOfPartsInForest routes limit running visited p ps f g mid
    pub left : ReplacesInOrder routes limit running mid p ps xs gs after

  pub record IsRebuiltTree (visited : List SymbolBySpecifier) (p : List ℕ) (ps : QualifiedNameParts) (t : PathTree) (g : PathForest) (xs : List DefinitionView)
      (gs : List
      PathForest) (after : List SymbolBySpecifier) : Type 0 where
    pub mid : List SymbolBySpecifier
    pub changes : IsOutcomeOfPartsInTree routes limit running visited p ps t g mid
    pub left : ReplacesInOrder routes limit running mid p ps xs gs after

  named_import : {visited after : List SymbolBySpecifier} {p : List ℕ} {ps : QualifiedNameParts} {x : DefinitionView} {xs : List DefinitionView}
      {gs : List PathForest}
      → ReplacesInOrder routes limit running visited p ps (x ∷ xs) gs after → IsRebuiltTree visited p ps (leaf (definition x)) (first_forest gs) xs
      (forests_after_first gs) after
  named_import (a_step {mid = mid} x y) = record { mid = mid; changes = x; left = y }

  mutual
    rebuilt_tree_is : (visited after : List SymbolBySpecifier) (p : List ℕ) (ps : QualifiedNameParts) (t : PathTree) (xs : List DefinitionView)
        (gs : List PathForest)
        → ReplacesInOrder routes limit running visited p ps (definitions_of_tree t ++ xs) gs after
        → IsRebuiltTree visited p ps t (tree_with_definitions_replaced (p ∷ ps) t gs).0 xs (tree_with_definitions_replaced (p ∷ ps) t gs).1 after
    rebuilt_tree_is visited after p ps (leaf (definition x)) xs gs st = named_import st
    rebuilt_tree_is visited after p ps (leaf (unresolved m)) xs gs st = record { mid = visited; changes = unresolved_leaf_is_unchanged; left = st }
    rebuilt_tree_is visited after p ps (link head next) xs gs st =
        let h = rebuilt_is visited after p ps next xs gs st in
        record { mid = h.mid; changes = link_gets_resolved_forest h.changes; left = h.left }

    pub rebuilt_is : (visited after : List SymbolBySpecifier) (p : List ℕ) (ps : QualifiedNameParts) (f : PathForest) (xs : List DefinitionView)
        (gs : List PathForest)
        → ReplacesInOrder routes limit running visited p ps (definitions_of_forest f ++ xs) gs after
        → IsRebuilt visited p ps f (forest_with_definitions_replaced (p ∷ ps) f gs).0 xs (forest_with_definitions_replaced (p ∷ ps) f gs).1 after
    rebuilt_is visited after p ps no_trees xs gs st = record { mid = visited; changes = no_tree_left; left = st }
    rebuilt_is visited after p ps (more_trees t f) xs gs st =
        let h = rebuilt_tree_is visited after p ps t (definitions_of_forest f ++ xs) gs (rw append_assoc at st) in
        let k = rebuilt_is h.mid after p ps f xs (tree_with_definitions_replaced (p ∷ ps) t gs).1 h.left in
        record { mid = k.mid; changes = tree_then_forest h.changes k.changes; left = k.left }

  pub no_steps_left : {visited after : List SymbolBySpecifier} {p : List ℕ} {ps : QualifiedNameParts} {gs : List PathForest} → ReplacesInOrder routes
      limit running visited p ps [] gs after
      → visited ≡ after
  no_steps_left no_step = refl
