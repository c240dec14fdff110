-- Laws of `HasGrown`: a root that stores more keeps what it has. They are proved.
use Rattle.std.proofs.Common.{◌≡◌, ℕ, ◌<◌, Bool, true, false, List, [], ◌∷◌, ◌++◌, length, get_or}
use Rattle.std.proofs.Common.{Option, None, Some, refl, sym, ap, subst, ◌∙◌, append-nil, append_assoc}
use Rattle.std.specs.Prelude.{if◌then◌else◌}
use Rattle.std.specs.List.{IsDistinct}
use Rattle.std.specs.Str.{bytes_eq}
use Rattle.std.proofs.Math.Nat.{lt_of_lt_of_le, le-add_right}
use Rattle.std.proofs.lemmas.Cmp.{nat_list_eq_equiv}
use Rattle.std.proofs.lemmas.List.{get_or_append_left, length-append}
use Rattle.std.proofs.lemmas.Map.Keys.{IsDistinct-push}
use Rattle.symbols_ast.specs.declared.ids.ModuleId.{ModuleId}
use Rattle.symbols_root.specs.Specifiers.{contains_specifier}
use Rattle.symbols_root.specs.Roots.{RootView, root_with_stored_module, root_with_stored_modules, specifier_in}
use Rattle.symbols_root.specs.Growing.{HasGrown}

-- ---- roots

-- a root has grown from itself
pub has_grown_refl : (root : RootView) → HasGrown root root
has_grown_refl root = record { graph = refl; rules = refl; limits = refl; added = []; stored = sym (append-nil root.stored); has_no_duplicates = λ h. h }

-- `HasGrown` is transitive
pub has_grown_trans : {a b c : RootView} → HasGrown a b → HasGrown b c → HasGrown a c
has_grown_trans {a = a} x y = record {
  graph = y.graph ∙ x.graph;
  rules = y.rules ∙ x.rules;
  limits = y.limits ∙ x.limits;
  added = x.added ++ y.added;
  stored = y.stored ∙ (ap (λ s. s ++ y.added) x.stored ∙ append_assoc a.stored x.added y.added);
  has_no_duplicates = λ h. y.has_no_duplicates (x.has_no_duplicates h);
}

once_more : (stored : List (List ℕ)) (v : List ℕ) → IsDistinct bytes_eq stored
    → IsDistinct bytes_eq (if contains_specifier stored v then stored else stored ++ v ∷ [])
once_more stored v once = by (contains_specifier stored v) refl
  where
    by : (b : Bool) → contains_specifier stored v ≡ b → IsDistinct bytes_eq (if b then stored else stored ++ v ∷ [])
    by true is = once
    by false is = IsDistinct-push nat_list_eq_equiv stored v once is

-- a root grows by storing the needed module
pub has_grown_by_stored_module : (root : RootView) (needed : Option (List ℕ)) → HasGrown root (root_with_stored_module root needed)
has_grown_by_stored_module root None = has_grown_refl root
has_grown_by_stored_module root (Some v) =
    let added = by (contains_specifier root.stored v) in
    record { graph = refl; rules = refl; limits = refl; added = added.0; stored = added.1; has_no_duplicates = λ h. once_more root.stored v h }
  where
    by : (b : Bool) → (more : List (List ℕ)) × ((if b then root.stored else root.stored ++ v ∷ []) ≡ root.stored ++ more)
    by true = ([], sym (append-nil root.stored))
    by false = (v ∷ [], refl)

-- a root grows by storing some modules
pub has_grown_by_stored_modules : (root : RootView) (specifiers : List (List ℕ)) → HasGrown root (root_with_stored_modules root specifiers)
has_grown_by_stored_modules root [] = has_grown_refl root
has_grown_by_stored_modules root (v ∷ rest) =
    has_grown_trans (has_grown_by_stored_module root (Some v)) (has_grown_by_stored_modules (root_with_stored_module root (Some v)) rest)

-- ---- numbers

longer : (xs ys : List (List ℕ)) (n : ℕ) → n < length xs → n < length (xs ++ ys)
longer xs ys n within = subst (λ (k : ℕ). n < k) (sym (length-append xs ys)) (lt_of_lt_of_le within (le-add_right (length xs) (length ys)))

-- a number of a stored module stays one
pub stored_id_remains_stored : {root more : RootView} → HasGrown root more → (n : ℕ) → n < length root.stored → n < length more.stored
stored_id_remains_stored {root = root} grown n within = subst (λ (stored : List (List ℕ)). n < length stored) (sym grown.stored)
    (longer root.stored grown.added n within)

-- a number of a stored module stays that of the same module
pub specifier_unchanged_by_growth : {root more : RootView} → HasGrown root more → (id : ModuleId) → id.0 < length root.stored
    → specifier_in more id ≡ specifier_in root id
specifier_unchanged_by_growth {root = root} grown id within = ap (λ stored. get_or stored id.0 []) grown.stored
    ∙ get_or_append_left root.stored grown.added [] id.0 within
