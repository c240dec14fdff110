-- Joined paths, and lists from an index on.
use Rattle.std.proofs.Common.{◌≡◌, ℕ, zero, suc, ◌+◌, List, [], ◌∷◌, drop, None, Some, refl, ap, arith, slice_get}
use Rattle.std.proofs.lemmas.Option.{same_Some}
use Rattle.symbols_paths.specs.PathTrees.{PathForest, no_trees, more_trees, joined_forests}

pub join_none : (f : PathForest) → joined_forests f no_trees ≡ f
join_none no_trees = refl
join_none (more_trees t f) = ap (more_trees t) (join_none f)

pub join_assoc : (f g h : PathForest) → joined_forests (joined_forests f g) h ≡ joined_forests f (joined_forests g h)
join_assoc no_trees g h = refl
join_assoc (more_trees t f) g h = ap (more_trees t) (join_assoc f g h)

pub drop_at : {A : Type 0} (xs : List A) (i : ℕ) (x : A) → slice_get xs i ≡ Some x → drop i xs ≡ x ∷ drop (i + 1) xs
drop_at [] i x e = absurd cc
drop_at (y ∷ ys) zero x e = ap (λ z. z ∷ ys) (same_Some y x e)
drop_at (y ∷ ys) (suc i) x e = let over : suc i + 1 ≡ suc (i + 1) = omega arith in rw over (drop_at ys i x e)

pub drop_past : {A : Type 0} (xs : List A) (i : ℕ) → slice_get xs i ≡ None → drop i xs ≡ []
drop_past [] zero e = refl
drop_past [] (suc i) e = refl
drop_past (y ∷ ys) zero e = absurd cc
drop_past (y ∷ ys) (suc i) e = drop_past ys i e
