-- Visited modules, by the numbers of those visited.
use Rattle.std.proofs.Common.{◌≡◌, ℕ, suc, ◌<◌, Bool, true, false, ◌||◌, List, [], ◌∷◌, ◌++◌, length}
use Rattle.std.proofs.Common.{map, get_or, Option, None, Some, refl, sym, ap, ◌∙◌, arith, true≢false}
use Rattle.std.specs.Prelude.{Contains, if◌then◌else◌}
use Rattle.std.specs.List.{IsDistinct}
use Rattle.std.specs.Str.{bytes_eq}
use Rattle.std.proofs.lemmas.Cmp.{nat_list_eq_equiv}
use Rattle.std.proofs.lemmas.List.{length-map}
use Rattle.std.proofs.lemmas.List.Folds.{list_any_at}
use Rattle.std.proofs.lemmas.Map.Keys.{IsDistinct-push}
use Rattle.std.proofs.lemmas.Slice.Eq.{bytes_eq-Decides}
use Rattle.std.proofs.Math.ListN.{get_or-map}
use Rattle.symbols_ast.specs.declared.ids.ModuleId.{ModuleId}
use Rattle.symbols_root.specs.Specifiers.{contains_specifier}
use Rattle.symbols_root.specs.Roots.{RootView, root_with_stored_module, specifier_in}
use Rattle.symbols_exports.proofs.Cursors.{Visit}

-- the visited modules
abbrev pub visited_modules : List Visit → List (List ℕ)
visited_modules visited = map (λ (m : Visit). m.1) visited

pub visited_is_among : (visited : List Visit) (c v : List ℕ) → Contains visited (c, v) → contains_specifier (visited_modules visited) v ≡ true
visited_is_among visited c v has =
    let within : has.0 < length (visited_modules visited) = omega (arith, has.1, length-map visited (λ (m : Visit). m.1)) in
    let at : get_or (visited_modules visited) has.0 v ≡ v = get_or-map (λ (m : Visit). m.1) visited has.0 (c, v) ∙ ap (λ (m : Visit). m.1) has.2 in
    list_any_at (bytes_eq v) (visited_modules visited) has.0 v within (ap (bytes_eq v) at ∙ nat_list_eq_equiv.refl v)

pub among_is_visited : (visited : List Visit) (v : List ℕ) → contains_specifier (visited_modules visited) v ≡ true → (c : List ℕ) × Contains visited (c, v)
among_is_visited [] v is = absurd (true≢false (sym is))
among_is_visited (m ∷ visited) v is = by (bytes_eq v m.1) refl is (among_is_visited visited v)
  where
    by : (b : Bool) → bytes_eq v m.1 ≡ b → (b || contains_specifier (visited_modules visited) v) ≡ true
        → (contains_specifier (visited_modules visited) v ≡ true → (c : List ℕ) × Contains visited (c, v)) → (c : List ℕ) × Contains (m ∷ visited) (c, v)
    by true same is rest = (m.0, (0, omega arith, λ i. (m.0, sym ((bytes_eq-Decides v m.1).0 same) i)))
    by false other is rest = let later = rest is in (later.0, (suc later.1.0, omega (arith, later.1.1), later.1.2))

-- a module in a list of stored modules' numbers is stored
pub among_stored : (root : RootView) (ids : List ModuleId) (v : List ℕ) → ((i : ℕ) (d : ModuleId) → i < length ids → (get_or ids i d).0 < length root.stored)
    → contains_specifier (map (specifier_in root) ids) v ≡ true → contains_specifier root.stored v ≡ true
among_stored root [] v inside is = absurd (true≢false (sym is))
among_stored root (id ∷ ids) v inside is =
    by (bytes_eq v (specifier_in root id)) refl is (among_stored root ids v (λ i d within. inside (suc i) d (omega (arith, within))))
  where
    by : (b : Bool) → bytes_eq v (specifier_in root id) ≡ b → (b || contains_specifier (map (specifier_in root) ids) v) ≡ true
        → (contains_specifier (map (specifier_in root) ids) v ≡ true → contains_specifier root.stored v ≡ true) → contains_specifier root.stored v ≡ true
    by true same is rest = list_any_at (bytes_eq v) root.stored id.0 [] (inside 0 id (omega arith)) same
    by false other is rest = rest is

-- storing a stored module changes nothing
pub stored_already : (root : RootView) (v : List ℕ) → contains_specifier root.stored v ≡ true → root_with_stored_module root (Some v) ≡ root
stored_already root v is = λ i. record root { stored = (ap (λ b. if b then root.stored else root.stored ++ v ∷ []) is) i }

-- storing one more module stores none twice
pub still_once : (root : RootView) (needed : Option (List ℕ)) → IsDistinct bytes_eq root.stored
    → IsDistinct bytes_eq (root_with_stored_module root needed).stored
still_once root None once = once
still_once root (Some v) once = by (contains_specifier root.stored v) refl
  where
    by : (b : Bool) → contains_specifier root.stored v ≡ b → IsDistinct bytes_eq (if b then root.stored else root.stored ++ v ∷ [])
    by true is = once
    by false is = IsDistinct-push nat_list_eq_equiv root.stored v once is
