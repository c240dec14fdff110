-- Module ids in a root that stores more.
use Rattle.std.proofs.Common.{◌≡◌, ℕ, ◌<◌, inl, inr, true, List, [], length, get_or, sym, subst, nat_eq}
use Rattle.std.specs.Bool.{Decides, one_answer}
use Rattle.std.specs.List.{IsDistinct}
use Rattle.std.specs.Str.{bytes_eq}
use Rattle.std.proofs.lemmas.Bool.{cases_order, eqb-true, eq-eqb}
use Rattle.std.proofs.lemmas.Cmp.{nat_list_eq_equiv}
use Rattle.std.proofs.lemmas.Map.Keys.{apart_from_distinct}
use Rattle.std.proofs.lemmas.Slice.Eq.{bytes_eq-Decides}
use Rattle.symbols_ast.specs.declared.ids.ModuleId.{ModuleId}
use Rattle.symbols_ast.specs.declared.ids.UniqueSymbolId.{UniqueSymbolId}
use Rattle.symbols_root.specs.Roots.{RootView, specifier_in}
use Rattle.symbols_root.specs.Growing.{HasGrown}
use Rattle.symbols_root.specs.laws.Growing.{stored_id_remains_stored}
use Rattle.symbols_paths.specs.PartTargets.{search_targets_of, search_targets_of_root}
use Rattle.symbols_paths.specs.Views.{AreModulesStored}
use Rattle.symbols_paths.specs.inner.SearchSteps.{AreModulesOfSymbolsStored}

-- a root that stores more searches by the same routes
pub same_links : {root more : RootView} → HasGrown root more → search_targets_of_root more ≡ search_targets_of_root root
same_links grown = λ i. search_targets_of (grown.rules i) (grown.graph i)

pub still_numbered : {root more : RootView} → HasGrown root more → (visited : List UniqueSymbolId) → AreModulesOfSymbolsStored root visited
    → AreModulesOfSymbolsStored more visited
still_numbered grown visited numbered = λ k d within. stored_id_remains_stored grown (get_or visited k d).module_id.0 (numbered k d within)

pub all_still_stored : {root more : RootView} → HasGrown root more → (ids : List ModuleId) → AreModulesStored root ids → AreModulesStored more ids
all_still_stored grown ids stored = λ k d within. stored_id_remains_stored grown (get_or ids k d).0 (stored k d within)

-- stored modules have the same id if they have the same specifier
same_index : (xs : List (List ℕ)) → IsDistinct bytes_eq xs → (i j : ℕ) → i < length xs → j < length xs → bytes_eq (get_or xs i []) (get_or xs j []) ≡ true
    → i ≡ j
same_index xs once i j i_in j_in same = elim (cases_order i j) [
  | inl equal ↦ equal
  | inr (inl less) ↦ let other = apart_from_distinct bytes_eq xs i j [] once less j_in in cc
  | inr (inr more) ↦
      let other = apart_from_distinct bytes_eq xs j i [] once more i_in in
      let e = (bytes_eq-Decides (get_or xs i []) (get_or xs j [])).0 same in
      let back : bytes_eq (get_or xs j []) (get_or xs i []) ≡ true =
      subst (λ q. bytes_eq (get_or xs j []) q ≡ true) (sym e) (nat_list_eq_equiv.refl (get_or xs j [])) in
      cc
]

pub same_number : (root : RootView) → IsDistinct bytes_eq root.stored → (a b : ModuleId) → a.0 < length root.stored → b.0 < length root.stored
    → nat_eq a.0 b.0 ≡ bytes_eq (specifier_in root a) (specifier_in root b)
same_number root once a b a_in b_in = one_answer (nat_eq a.0 b.0) (bytes_eq (specifier_in root a) (specifier_in root b)) by_number by_specifier
  where
    by_number : Decides (nat_eq a.0 b.0) (a.0 ≡ b.0)
    by_number = (eqb-true a.0 b.0, eq-eqb a.0 b.0)

    by_specifier : Decides (bytes_eq (specifier_in root a) (specifier_in root b)) (a.0 ≡ b.0)
    by_specifier = (
      λ is. same_index root.stored once a.0 b.0 a_in b_in is,
      λ same. subst (λ n. bytes_eq (specifier_in root a) (get_or root.stored n []) ≡ true) same (nat_list_eq_equiv.refl (specifier_in root a)),
    )
