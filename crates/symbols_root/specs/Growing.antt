-- A root after more modules were stored.
use Rattle.std.specs.Prelude.{◌≡◌, ℕ, ◌++◌, List}
use Rattle.std.specs.List.{IsDistinct}
use Rattle.std.specs.Str.{bytes_eq}
use Rattle.symbols_root.specs.Roots.{RootView}

-- the same graph, rules and limits; stored modules keep their index, new ones come after them, and no module is stored twice if none was
pub record HasGrown (old new : RootView) : Type 0 where
  pub graph : new.graph ≡ old.graph
  pub rules : new.rules ≡ old.rules
  pub limits : new.limits ≡ old.limits
  pub added : List (List ℕ)
  pub stored : new.stored ≡ old.stored ++ added
  pub has_no_duplicates : IsDistinct bytes_eq old.stored → IsDistinct bytes_eq new.stored
