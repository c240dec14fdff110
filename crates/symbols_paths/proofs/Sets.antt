-- A set by its keys: with one key more, and without it again.
use Rattle.std.proofs.Common.{◌≡◌, ℕ, suc, ◌+◌, ◌<◌, ◌^◌, Bool, true, false, not, cond, ◌&&◌, ◌||◌, List, [], ◌∷◌, ◌++◌}
use Rattle.std.proofs.Common.{length, Option, None, Some, option_to_list, refl, sym, ap, ◌∙◌, arith, true≢false}
use Rattle.std.specs.Prelude.{if◌then◌else◌, IsSome, ◌↔◌}
use Rattle.std.specs.List.{list_any, position_or_len}
use Rattle.std.proofs.lemmas.List.{length-append, append_assoc, same_from_push}
use Rattle.std.proofs.lemmas.List.Folds.{list_any-append}
use Rattle.std.proofs.lemmas.Cmp.{nat_eq_equiv}
use Rattle.symbols_ast.specs.declared.ids.UniqueSymbolId.{UniqueSymbolId}
use Rattle.symbols_paths.specs.inner.VisitedSymbols.{is_same_unique_id}
use Rattle.indexmap.specs.IndexSet.{insert_key}

module _ {A : Type 0} (same : A → A → Bool) where
  pub new_key : (before after : List A) (x : A) (is_new : Bool) → is_new ≡ not (list_any (same x) before) → after ≡ insert_key same before x → is_new ≡ true
      → (list_any (same x) before ≡ false) × (after ≡ before ++ x ∷ [])
  new_key before after x is_new said inserted new = by (list_any (same x) before) (sym said ∙ new) inserted
    where
      by : (b : Bool) → not b ≡ true → after ≡ (if b then before else before ++ x ∷ []) → (b ≡ false) × (after ≡ before ++ x ∷ [])
      by true is equal = absurd (true≢false (sym is))
      by false is equal = (refl, equal)

  pub old_key : (before after : List A) (x : A) (is_new : Bool) → is_new ≡ not (list_any (same x) before) → after ≡ insert_key same before x → is_new ≡ false
      → (list_any (same x) before ≡ true) × (after ≡ before)
  old_key before after x is_new said inserted old = by (list_any (same x) before) (sym said ∙ old) inserted
    where
      by : (b : Bool) → not b ≡ false → after ≡ (if b then before else before ++ x ∷ []) → (b ≡ true) × (after ≡ before)
      by true is equal = (refl, equal)
      by false is equal = absurd (true≢false is)

  -- the index of a new key is the number of keys before it
  new_index : (before : List A) (x : A) → list_any (same x) before ≡ false → position_or_len (same x) before ≡ length before
  new_index [] x absent = refl
  new_index (y ∷ before) x absent = by (same x y) absent (new_index before x)
    where
      by : (b : Bool) → (b || list_any (same x) before) ≡ false → (list_any (same x) before ≡ false → position_or_len (same x) before ≡ length before)
          → cond (not b) (1 + position_or_len (same x) before) 0 ≡ suc (length before)
      by true is rest = absurd (true≢false is)
      by false is rest = omega (arith, rest is)

  pub few_before : (before : List A) (x : A) (slot : ℕ) → list_any (same x) before ≡ false → slot ≡ position_or_len (same x) before → slot < 2 ^ 64
      → length before < 2 ^ 64
  few_before before x slot absent at fits = omega (arith, new_index before x absent, at, fits)

-- removing the last key undoes adding it
pub popped : {A : Type 0} (before now after : List A) (x : A) (last : Option A) (count : ℕ) → now ≡ before ++ x ∷ [] → now ≡ after ++ option_to_list last
    → count ≡ length now → IsSome last ↔ (0 < count) → after ≡ before
popped before now after x None count pushed split counted found =
    absurd (true≢false (sym (found.1 (omega (arith, counted, ap length pushed, length-append before (x ∷ []))))))
popped before now after x (Some y) count pushed split counted found = (same_from_push after before y x (sym split ∙ pushed)).0

-- a set whose keys are in two lists, and an element that is added to the second
module _ {A : Type 0} (same : A → A → Bool) where
  pub in_second : (few more after : List A) (x : A) (is_new : Bool) → list_any (same x) few ≡ false → is_new ≡ not (list_any (same x) more)
      → after ≡ insert_key same more x
      → (is_new ≡ not (list_any (same x) (few ++ more))) × (few ++ after ≡ insert_key same (few ++ more) x)
  in_second few more after x is_new absent said inserted =
      let there : list_any (same x) (few ++ more) ≡ list_any (same x) more = list_any-append (same x) few more
      ∙ ap (λ b. b || list_any (same x) more) absent in (
        said ∙ ap not (sym there),
        by (list_any (same x) more) inserted ∙ ap (λ b. if b then few ++ more else few ++ more ++ x ∷ []) (sym there),
      )
    where
      by : (b : Bool) → after ≡ (if b then more else more ++ x ∷ []) → few ++ after ≡ (if b then few ++ more else few ++ more ++ x ∷ [])
      by true is = ap (λ ys. few ++ ys) is
      by false is = ap (λ ys. few ++ ys) is ∙ sym (append_assoc few more (x ∷ []))

pub same_unique_id_symm : (s t : UniqueSymbolId) → is_same_unique_id s t ≡ is_same_unique_id t s
same_unique_id_symm s t = λ i. nat_eq_equiv.symm s.module_id.0 t.module_id.0 i && nat_eq_equiv.symm s.symbol_id.0 t.symbol_id.0 i

-- whether a symbol is among others, by a test with the sides swapped
pub among_swapped : (xs : List UniqueSymbolId) (s : UniqueSymbolId) → list_any (λ t. is_same_unique_id t s) xs ≡ list_any (is_same_unique_id s) xs
among_swapped [] s = refl
among_swapped (t ∷ xs) s = λ i. same_unique_id_symm t s i || among_swapped xs s i
