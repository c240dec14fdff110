-- The modules that a walk along `export *` reaches, and statements and local exports that are the same in all of them.
use Rattle.std.specs.Prelude.{◌≡◌, ℕ, List, Some}
use Rattle.symbols_exports.specs.Chains.{StarTargets, star_target_at}
use Rattle.symbols_exports.specs.Exports.{ExplicitExports}

-- the module itself, and each module that a statement of one of these resolves to
pub data IsReachedAlongStars (statements : StarTargets) (start : List ℕ) : List ℕ → Type 0 where
  at_start : IsReachedAlongStars statements start start
  by_star : {next : List ℕ} (v : List ℕ) (position : ℕ) → IsReachedAlongStars statements start v → star_target_at statements v position ≡ Some next
      → IsReachedAlongStars statements start next

-- each of them has the same statements and the same local exports in both
pub record AreAlikeAlongStars (statements : StarTargets) (explicit : ExplicitExports) (other_statements : StarTargets) (other_explicit : ExplicitExports)
    (start : List ℕ) : Type 0
  where
    pub same_statements : (v : List ℕ) → IsReachedAlongStars statements start v → statements v ≡ other_statements v
    pub same_explicit : (v : List ℕ) → IsReachedAlongStars statements start v → explicit v ≡ other_explicit v
