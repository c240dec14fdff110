-- Routes of two searches for definitions that agree on marked symbols and definitions.
use Rattle.std.specs.Prelude.{◌≡◌, ℕ, List, [], ◌∷◌, Contains}
use Rattle.symbols_paths.specs.PathTrees.{SymbolBySpecifier, QualifiedNameParts, DefinitionView, definition, unresolved}
use Rattle.symbols_paths.specs.PathTrees.{PathTree, PathForest, leaf, link, no_trees, more_trees}
use Rattle.symbols_paths.specs.DeclTargets.{DeclTargetView, defines, forwards, alias}
use Rattle.symbols_paths.specs.PartTargets.{part_is_symbol, SearchTargets}
use Rattle.symbols_paths.specs.Derived.{definition_of_decl}

-- the symbols and the definitions that are marked
pub record Marks : Type 1 where
  pub symbol : SymbolBySpecifier → Type 0
  pub definition_view : DefinitionView → Type 0

-- each definition at the end of these paths is marked
abbrev mutual
  pub IsMarkedTree : Marks → PathTree → Type 0
  IsMarkedTree marks (leaf (definition x)) = marks.definition_view x
  IsMarkedTree marks (leaf (unresolved x)) = Unit {0}
  IsMarkedTree marks (link head next) = IsMarkedForest marks next

  pub IsMarkedForest : Marks → PathForest → Type 0
  IsMarkedForest marks no_trees = Unit {0}
  IsMarkedForest marks (more_trees t f) = IsMarkedTree marks t × IsMarkedForest marks f

-- the target of a declaration is marked: the definition, each candidate, or the symbol of the alias
abbrev pub IsMarkedTarget : Marks → SymbolBySpecifier → DeclTargetView → Type 0
IsMarkedTarget marks s (defines range star) = (i : ℕ) → marks.definition_view (definition_of_decl s i range star)
IsMarkedTarget marks s (forwards forward) = (c : SymbolBySpecifier) → Contains forward.candidates c → marks.symbol c
IsMarkedTarget marks s (alias t ps) = marks.symbol t

abbrev pub AreMarkedTargets : Marks → SymbolBySpecifier → List DeclTargetView → Type 0
AreMarkedTargets marks s [] = Unit {0}
AreMarkedTargets marks s (x ∷ xs) = IsMarkedTarget marks s x × AreMarkedTargets marks s xs

-- the targets of marked symbols and of parts in marked definitions are the same in both, and marked
pub record AreRoutesAlike (routes other : SearchTargets) (marks : Marks) : Type 0 where
  pub same_targets : (s : SymbolBySpecifier) → marks.symbol s → routes.decl_targets s ≡ other.decl_targets s
  pub marked_targets : (s : SymbolBySpecifier) → marks.symbol s → AreMarkedTargets marks s (routes.decl_targets s)
  pub same_parts : (x : DefinitionView) (p : List ℕ) (ps : QualifiedNameParts) → marks.definition_view x → routes.part x p ps ≡ other.part x p ps
  pub marked_parts : (x : DefinitionView) (p : List ℕ) (ps : QualifiedNameParts) (t : SymbolBySpecifier) → marks.definition_view x → routes.part x p ps
      ≡ part_is_symbol t
      → marks.symbol t
