-- The answers of the library: definitions for inner functions and proofs.
use Rattle.symbols_paths.specs.PathTrees.{PathTree}
use Rattle.symbols_queries.specs.declared.paths_by_specifier.PathLinkBySpecifier.{PathLinkBySpecifier}
use Rattle.symbols_queries.specs.declared.paths_by_specifier.PathBySpecifier.TheFolds.{fold-PathLinkBySpecifier}
use Rattle.symbols_queries.specs.Queries.{fold_path_by_specifier_to_tree, fold_link_by_specifier_to_tree}

abbrev pub path_link_view : PathLinkBySpecifier → PathTree
path_link_view = fold-PathLinkBySpecifier PathTree PathTree fold_path_by_specifier_to_tree fold_link_by_specifier_to_tree
