-- Forests of marked definitions.
use Rattle.std.proofs.Common.{Option, None, Some}
use Rattle.symbols_paths.specs.PathTrees.{UnresolvedEntry, LinkHead, PathForest, no_trees, more_trees, joined_forests, forest_below_link_unless_empty}
use Rattle.symbols_paths.specs.Choice.{forest_of_unresolved}
use Rattle.symbols_locality.proofs.AlikeRoutes.{Marks, IsMarkedForest}

module _ (marks : Marks) where
  pub joined_marked : (f g : PathForest) → IsMarkedForest marks f → IsMarkedForest marks g → IsMarkedForest marks (joined_forests f g)
  joined_marked no_trees g f_is g_is = g_is
  joined_marked (more_trees t f) g f_is g_is = (f_is.0, joined_marked f g f_is.1 g_is)

  pub linked_marked : (head : LinkHead) (f : PathForest) → IsMarkedForest marks f → IsMarkedForest marks (forest_below_link_unless_empty head f)
  linked_marked head no_trees is = tt
  linked_marked head (more_trees t f) is = (is, tt)

  pub missing_marked : (missing : Option UnresolvedEntry) → IsMarkedForest marks (forest_of_unresolved missing)
  missing_marked None = tt
  missing_marked (Some m) = (tt, tt)
