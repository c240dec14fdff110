-- The weights of paths with specifiers, for the loop that drops them.
use Rattle.std.proofs.Common.{◌≡◌, ℕ, ◌+◌, rules}
use Rattle.symbols_queries.specs.declared.paths_by_specifier.PathLinkBySpecifier.{PathLinkBySpecifier, PathLinkBySpecifier-F}
use Rattle.symbols_queries.specs.declared.paths_by_specifier.PathBySpecifier.{PathBySpecifier, the_lemmas}
use Rattle.symbols_queries.specs.declared.paths_by_specifier.PathBySpecifier.TheFolds.{fold-PathBySpecifier}
use Rattle.symbols_queries.specs.declared.paths_by_specifier.PathBySpecifier.TheOpen as open_path
use Rattle.symbols_queries.specs.declared.paths_by_specifier.PathBySpecifier.TheVariants as path
use Rattle.symbols_queries.specs.declared.paths_by_specifier.PathBySpecifier.TheViews.{roll-PathLinkBySpecifier}
use Rattle.symbols_paths.proofs.DropOrder.{whole_in, ahead_in, whole, left}

abbrev pub fold_path_to_weight : open_path.PathBySpecifier-F (ℕ × ℕ) (ℕ × ℕ) → ℕ × ℕ
fold_path_to_weight (open_path.Link w) = w
fold_path_to_weight (open_path.Definition x) = (1, 1)
fold_path_to_weight (open_path.Unresolved x) = (1, 1)

abbrev pub fold_link_to_weight : PathLinkBySpecifier-F (ℕ × ℕ) (ℕ × ℕ) → ℕ × ℕ
fold_link_to_weight x = (1 + ahead_in x.next.items, 1 + whole_in x.next.items)

abbrev pub weight_of_named : PathBySpecifier → ℕ × ℕ
weight_of_named = fold-PathBySpecifier (ℕ × ℕ) (ℕ × ℕ) fold_path_to_weight fold_link_to_weight

pub weight_of_link : (x : PathLinkBySpecifier)
    → weight_of_named (path.Link x) ≡ (1 + left weight_of_named x.next.items, 1 + whole weight_of_named x.next.items)
weight_of_link x = search (rules, the_lemmas)

pub weight_of_made : (x : PathLinkBySpecifier-F PathBySpecifier PathLinkBySpecifier)
    → weight_of_named (path.Link (roll-PathLinkBySpecifier x)) ≡ (1 + left weight_of_named x.next.items, 1 + whole weight_of_named x.next.items)
weight_of_made x = search (rules, the_lemmas)
