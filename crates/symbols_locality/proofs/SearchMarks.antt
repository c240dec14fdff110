-- The specifiers that a search for definitions follows at least, and the symbols and definitions that it may reach.
use Rattle.std.specs.Prelude.{◌≡◌, ℕ, List, Contains, IfSome}
use Rattle.symbols_ast.specs.Graph.{GraphView}
use Rattle.symbols_table.specs.DeclViews.{FileDepNameView, FileDepView, file_ref, Declaration}
use Rattle.symbols_exports.specs.StarStatements.{star_specifiers}
use Rattle.symbols_paths.specs.PathTrees.{SymbolBySpecifier}
use Rattle.symbols_paths.specs.DeclTargets.{declarations_of}
use Rattle.symbols_answers.specs.Seen.{FollowedSpecifierRelation}
use Rattle.symbols_locality.proofs.FoundModules.{IsFound}
use Rattle.symbols_locality.proofs.AlikeRoutes.{Marks}

-- the specifiers of the `export *` statements of each found module are followed
abbrev pub FollowsStars : GraphView → FollowedSpecifierRelation → List ℕ → Type 0
FollowsStars graph Follows queried = (specifier specifier_text : List ℕ) → IsFound graph Follows queried specifier
    → Contains (star_specifiers graph specifier) specifier_text → Follows specifier specifier_text

-- so are those of its imports and re-exports
abbrev pub FollowsImports : GraphView → FollowedSpecifierRelation → List ℕ → Type 0
FollowsImports graph Follows queried =
    (s : SymbolBySpecifier) (decl : Declaration) (name : FileDepNameView) (specifier_text : List ℕ) → IsFound graph Follows queried s.specifier
    → Contains (declarations_of graph s) decl → decl.kind ≡ file_ref name specifier_text → Follows s.specifier specifier_text

-- the symbols of found modules, and the definitions there; the specifier of a star import is followed
abbrev pub marks_of : GraphView → FollowedSpecifierRelation → List ℕ → Marks
marks_of graph Follows queried = record {
  symbol = λ s. IsFound graph Follows queried s.specifier;
  definition_view = λ x. IsFound graph Follows queried x.decl.symbol.specifier
      × IfSome x.star (λ (dep : FileDepView). Follows x.decl.symbol.specifier dep.specifier);
}
