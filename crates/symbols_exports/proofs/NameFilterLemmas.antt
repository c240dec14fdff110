-- The filter of a walk, and what follows if nothing was found.
use Rattle.std.proofs.Common.{◌≡◌, true, false, List, [], ◌∷◌, map, refl, sym, true≢false}
use Rattle.symbols_exports.specs.declared.name_filter.NameFilter.{NameFilter}
use Rattle.symbols_exports.specs.declared.name_filter.NameFilter.TheVariants.{AllNames, OneName}
use Rattle.symbols_exports.specs.CollectedNames.{ResolvedExportView}
use Rattle.symbols_exports.specs.inner.NameFilter.{is_name_search_done, is_filter_for_default}

-- if the name was found by this module, nothing was found before, and it isn't `default`
pub newly_done : (name_filter : NameFilter) (names more : List ResolvedExportView) → is_name_search_done name_filter names ≡ false
    → is_name_search_done name_filter more ≡ true
    → (names ≡ []) × (is_filter_for_default name_filter ≡ false)
newly_done AllNames names more goes done = absurd (true≢false (sym done))
newly_done (OneName name) [] more goes done = (refl, goes)
newly_done (OneName name) (found ∷ names) more goes done = absurd (true≢false goes)

-- lists with the same views are empty alike
pub nothing_viewed : {A B C : Type 0} (f : A → C) (g : B → C) (xs : List A) (ys : List B) → map f xs ≡ map g ys → ys ≡ [] → xs ≡ []
nothing_viewed f g [] ys same none = refl
nothing_viewed f g (x ∷ xs) [] same none = absurd cc
nothing_viewed f g (x ∷ xs) (y ∷ ys) same none = absurd cc
