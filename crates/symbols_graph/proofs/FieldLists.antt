-- Lists of fields of which some are absent.
use Rattle.std.proofs.Common.{◌≡◌, Bool, false, List, [], ◌∷◌, ◌++◌, Option, Some, None, refl, ap}
use Rattle.std.specs.Prelude.{◌||◌}
use Rattle.std.specs.Option.{option_map_or}
use Rattle.std.specs.List.{list_any, filter_map, flat_map, cons_option}

-- A test of the present items.
pub list_any_present : {X Y : Type 0} (p : Y → Bool) (h : X → Option Y) (xs : List X)
    → list_any p (filter_map h xs) ≡ list_any (λ x. option_map_or p (h x) false) xs
list_any_present p h [] = refl
list_any_present p h (x ∷ xs) =
    let rest = list_any_present p h xs in
    elim (h x) as (λ o. list_any p (cons_option o (filter_map h xs)) ≡ (option_map_or p o false || list_any (λ y. option_map_or p (h y) false) xs)) [
      | None ↦ rest
      | Some y ↦ ap (λ b. p y || b) rest
    ]

-- The concatenated lists of the present items.
pub flat_map_present : {X Y A : Type 0} (f : Y → List A) (h : X → Option Y) (xs : List X)
    → flat_map f (filter_map h xs) ≡ flat_map (λ x. option_map_or f (h x) []) xs
flat_map_present f h [] = refl
flat_map_present f h (x ∷ xs) =
    let rest = flat_map_present f h xs in
    elim (h x) as (λ o. flat_map f (cons_option o (filter_map h xs)) ≡ (option_map_or f o [] ++ flat_map (λ y. option_map_or f (h y) []) xs)) [
      | None ↦ rest
      | Some y ↦ ap (λ ys. f y ++ ys) rest
    ]
