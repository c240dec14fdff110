-- Definition paths as trees. A symbol is given by the specifier of its module and its number there.
use Rattle.std.specs.Prelude.{◌≡◌, ℕ, List, [], ◌∷◌, ◌++◌, Option, Contains}
use Rattle.symbols_ast.specs.declared.ids.SymbolId.{SymbolId}
use Rattle.symbols_ast.specs.declared.tree.arena.SourceRange.{SourceRange}
use Rattle.symbols_ast.specs.Ids.{IdView}
use Rattle.symbols_table.specs.DeclViews.{FileDepView}

-- a symbol: the specifier of its module, and its number there
pub record SymbolBySpecifier : Type 0 where
  pub specifier : List ℕ
  pub number : SymbolId

-- a declaration: its symbol, and its index among the symbol's declarations
pub record DeclBySpecifier : Type 0 where
  pub symbol : SymbolBySpecifier
  pub index : ℕ

-- parts: the qualifiers of a qualified name that remain to be resolved, as `b` and `c` of `a.b.c`
abbrev pub QualifiedNameParts : Type 0
QualifiedNameParts = List (List ℕ)

-- a definition or a star import: its declaration, its range in the source text, and the dependency of a star import
pub record DefinitionView : Type 0 where
  pub decl : DeclBySpecifier
  pub range : SourceRange
  pub star : Option FileDepView

-- why an end is unresolved: a name without a symbol, a specifier that resolves to no module, or a name that a module or a symbol doesn't
-- export
pub data UnresolvedReason : Type 0 where
  no_symbol : IdView → UnresolvedReason
  no_module : List ℕ → UnresolvedReason
  no_part : List ℕ → UnresolvedReason

-- an unresolved entry: its module, the reason, and the remaining parts
pub record UnresolvedEntry : Type 0 where
  pub specifier : List ℕ
  pub reason : UnresolvedReason
  pub parts : QualifiedNameParts

-- the end of a path
pub data PathLeaf : Type 0 where
  definition : DefinitionView → PathLeaf
  unresolved : UnresolvedEntry → PathLeaf

-- the head of a link: its symbol, its declaration, and the remaining parts. No link is for an `export *`.
pub record LinkHead : Type 0 where
  pub symbol : SymbolBySpecifier
  pub decl : DeclBySpecifier
  pub parts : QualifiedNameParts

mutual
  pub data PathTree : Type 0 where
    leaf : PathLeaf → PathTree
    link : LinkHead → PathForest → PathTree

  pub data PathForest : Type 0 where
    no_trees : PathForest
    more_trees : PathTree → PathForest → PathForest

abbrev pub forest_of_tree : PathTree → PathForest
forest_of_tree t = more_trees t no_trees

-- the trees of both forests, in order
abbrev pub joined_forests : PathForest → PathForest → PathForest
joined_forests no_trees g = g
joined_forests (more_trees t f) g = more_trees t (joined_forests f g)

-- a link in front of paths; no path if there are none
abbrev pub forest_below_link_unless_empty : LinkHead → PathForest → PathForest
forest_below_link_unless_empty head no_trees = no_trees
forest_below_link_unless_empty head (more_trees t f) = forest_of_tree (link head (more_trees t f))

-- the leaves, from left to right
abbrev mutual
  pub leaves_of_tree : PathTree → List PathLeaf
  leaves_of_tree (leaf x) = x ∷ []
  leaves_of_tree (link head next) = leaves_of_forest next

  pub leaves_of_forest : PathForest → List PathLeaf
  leaves_of_forest no_trees = []
  leaves_of_forest (more_trees t f) = leaves_of_tree t ++ leaves_of_forest f

-- the definitions and star imports among leaves
abbrev pub definitions_among : List PathLeaf → List DefinitionView
definitions_among [] = []
definitions_among (definition x ∷ rest) = x ∷ definitions_among rest
definitions_among (unresolved x ∷ rest) = definitions_among rest

-- no two definitions or star imports among the leaves have the same declaration
abbrev pub HasDistinctDefinitions : List PathLeaf → Type 0
HasDistinctDefinitions [] = Unit {0}
HasDistinctDefinitions (definition x ∷ rest) = ((y : DefinitionView) → Contains rest (definition y) → y.decl ≡ x.decl → ⊥) × HasDistinctDefinitions rest
HasDistinctDefinitions (unresolved x ∷ rest) = HasDistinctDefinitions rest
