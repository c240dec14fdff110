-- Module numbers in a root that stores more.
use Rattle.std.proofs.Common.{◌≡◌, ℕ, suc, ◌<◌, Bool, true, false, List, [], ◌∷◌, ◌++◌, length, map, get_or}
use Rattle.std.proofs.Common.{Option, None, Some, refl, sym, ap, subst, ◌∙◌, arith, append-nil, nat_eq}
use Rattle.std.specs.Prelude.{if◌then◌else◌}
use Rattle.std.specs.List.{IsDistinct, list_any}
use Rattle.std.specs.Str.{bytes_eq}
use Rattle.std.specs.Bool.{Decides, one_answer}
use Rattle.std.proofs.lemmas.Bool.{eqb-true, eq-eqb}
use Rattle.std.proofs.lemmas.Cmp.{nat_list_eq_equiv}
use Rattle.std.proofs.lemmas.List.{get_or_append_left, length-append}
use Rattle.std.proofs.lemmas.Slice.Eq.{bytes_eq-Decides}
use Rattle.symbols_ast.specs.declared.ids.ModuleId.{ModuleId}
use Rattle.symbols_root.specs.Specifiers.{contains_specifier}
use Rattle.symbols_root.specs.Roots.{RootView, root_with_stored_module, specifier_in, root_with_stored_modules}
use Rattle.symbols_exports.proofs.DistinctNames.{same_cursor}

-- ---- a root that stores more

-- modules that are stored later come after the others
pub stored_after : (root : RootView) (needed : Option (List ℕ)) → (more : List (List ℕ)) × ((root_with_stored_module root needed).stored ≡ root.stored ++ more)
stored_after root None = ([], sym (append-nil root.stored))
stored_after root (Some specifier) = by (contains_specifier root.stored specifier)
  where
    by : (b : Bool) → (more : List (List ℕ)) × ((if b then root.stored else root.stored ++ specifier ∷ []) ≡ root.stored ++ more)
    by true = ([], sym (append-nil root.stored))
    by false = (specifier ∷ [], refl)

module _ (root : RootView) (needed : Option (List ℕ)) where
  -- a number keeps its specifier
  pub number_retained : (module_id : ModuleId) → module_id.0 < length root.stored
      → specifier_in (root_with_stored_module root needed) module_id ≡ specifier_in root module_id
  number_retained module_id within =
      let following = stored_after root needed in
      ap (λ stored. get_or stored module_id.0 []) following.1 ∙ get_or_append_left root.stored following.0 [] module_id.0 within

  pub still_within : (n : ℕ) → n < length root.stored → n < length (root_with_stored_module root needed).stored
  still_within n within =
      let following = stored_after root needed in
      omega (arith, within, ap length following.1, length-append root.stored following.0)

pub same_under : {A B : Type 0} (f g : A → B) (P : A → Type 0) → ((x : A) → P x → f x ≡ g x) → (xs : List A)
    → ((i : ℕ) (d : A) → i < length xs → P (get_or xs i d)) → map f xs ≡ map g xs
same_under f g P same [] holds = refl
same_under f g P same (x ∷ xs) holds =
    let first = same x (holds 0 x (omega arith)) in
    let rest = same_under f g P same xs (λ i d within. holds (suc i) d (omega (arith, within))) in
    cc

pub stored_one_more : (root : RootView) (specifiers : List (List ℕ)) (specifier : List ℕ)
    → root_with_stored_modules root (specifiers ++ specifier ∷ []) ≡ root_with_stored_module (root_with_stored_modules root specifiers) (Some specifier)
stored_one_more root [] specifier = refl
stored_one_more root (first ∷ rest) specifier = stored_one_more (root_with_stored_module root (Some first)) rest specifier

pub graph_retained : (root : RootView) (specifiers : List (List ℕ))
    → ((root_with_stored_modules root specifiers).graph ≡ root.graph) × ((root_with_stored_modules root specifiers).limits ≡ root.limits)
graph_retained root [] = (refl, refl)
graph_retained root (first ∷ rest) = graph_retained (root_with_stored_module root (Some first)) rest

pub rules_retained : (root : RootView) (specifiers : List (List ℕ)) → (root_with_stored_modules root specifiers).rules ≡ root.rules
rules_retained root [] = refl
rules_retained root (first ∷ rest) = rules_retained (root_with_stored_module root (Some first)) rest

-- ---- numbers and specifiers, if no module is stored twice

module _ (root : RootView) (once : IsDistinct bytes_eq root.stored) where
  same_test : (a b : ModuleId) → a.0 < length root.stored → b.0 < length root.stored → nat_eq a.0 b.0 ≡ bytes_eq (specifier_in root a) (specifier_in root b)
  same_test a b a_in b_in = one_answer (nat_eq a.0 b.0) (bytes_eq (specifier_in root a) (specifier_in root b)) by_number by_specifier
    where
      by_number : Decides (nat_eq a.0 b.0) (a.0 ≡ b.0)
      by_number = (eqb-true a.0 b.0, eq-eqb a.0 b.0)

      by_specifier : Decides (bytes_eq (specifier_in root a) (specifier_in root b)) (a.0 ≡ b.0)
      by_specifier = (
        λ is. same_cursor root.stored once a.0 b.0 a_in b_in ((bytes_eq-Decides (specifier_in root a) (specifier_in root b)).0 is),
        λ same. subst (λ n. bytes_eq (specifier_in root a) (get_or root.stored n []) ≡ true) same (nat_list_eq_equiv.refl (specifier_in root a)),
      )

  -- a number is in a list of numbers if and only if its specifier is in the list of their specifiers
  pub number_among : (a : ModuleId) → a.0 < length root.stored → (ids : List ModuleId) → ((i : ℕ) (d : ModuleId) → i < length ids → (get_or ids i d).0
      < length root.stored) → list_any (λ (b : ModuleId). nat_eq a.0 b.0) ids ≡ contains_specifier (map (specifier_in root) ids) (specifier_in root a)
  number_among a a_in [] inside = refl
  number_among a a_in (b ∷ ids) inside =
      let first = same_test a b a_in (inside 0 b (omega arith)) in
      let rest = number_among a a_in ids (λ i d within. inside (suc i) d (omega (arith, within))) in
      cc
