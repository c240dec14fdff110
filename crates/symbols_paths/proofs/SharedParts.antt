-- Remaining parts in a shared list.
use Rattle.std.proofs.Common.{◌≡◌, ℕ, zero, suc, ◌+◌, ◌-◌, ◌<◌, ◌≤◌, ◌^◌, List, [], ◌∷◌, length, drop, take, add-one, refl, ap, ◌∙◌, arith}
use Rattle.std.specs.Prelude.{String, string_bytes}
use Rattle.std.specs.Global.{Global}
use Rattle.std.specs.Rc.{rc_slice_items}
use Rattle.std.proofs.lemmas.List.{length-map, take_rest}
use Rattle.symbols_paths.specs.declared.shared_parts.SharedParts.{SharedParts}
use Rattle.symbols_paths.specs.PathTrees.{QualifiedNameParts}
use Rattle.symbols_paths.specs.Views.{strings_view}
use Rattle.symbols_paths.specs.inner.Views.{later_parts}
use Rattle.symbols_paths.specs.inner.PathBuilders.{remaining_parts}

no_candidate_left : {A : Type 0} (n : ℕ) (xs : List A) → length (drop n xs) ≤ length xs
no_candidate_left zero xs = omega arith
no_candidate_left (suc n) [] = omega arith
no_candidate_left (suc n) (x ∷ xs) = omega (arith, no_candidate_left n xs)

drop_texts : (n : ℕ) (xs : List (String Global)) → strings_view (drop n xs) ≡ drop n (strings_view xs)
drop_texts zero xs = refl
drop_texts (suc n) [] = refl
drop_texts (suc n) (x ∷ xs) = drop_texts n xs

-- the borrowed parts are the remaining ones
pub borrowed_parts : (parts : SharedParts) (list : List (String Global)) → list ≡ rc_slice_items parts.list
    → strings_view (take (length list - parts.first) (drop parts.first list)) ≡ remaining_parts parts
borrowed_parts parts list is = ap strings_view (take_rest list parts.first) ∙ (drop_texts parts.first list ∙ ap (λ xs. drop parts.first (strings_view xs)) is)

-- the remaining parts without the first
drop_next : (n : ℕ) (ps : QualifiedNameParts) → drop (suc n) ps ≡ later_parts (drop n ps)
drop_next zero [] = refl
drop_next zero (p ∷ ps) = refl
drop_next (suc n) [] = refl
drop_next (suc n) (p ∷ ps) = drop_next n ps

pub drop_one_more : (n : ℕ) (ps : QualifiedNameParts) → drop (n + 1) ps ≡ later_parts (drop n ps)
drop_one_more n ps = rw (add-one) (drop_next n ps)

pub short_parts : (parts : SharedParts) → length (remaining_parts parts) < 2 ^ 64
short_parts parts =
    omega (arith, parts.few, no_candidate_left parts.first (strings_view (rc_slice_items parts.list)), length-map (rc_slice_items parts.list) string_bytes)
