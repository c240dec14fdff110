-- Laws on the number that a root returns for a specifier. They are proved.
use Rattle.std.proofs.Common.{◌≡◌, ℕ, ◌<◌, List, [], length, Option, None, Some, option_map, refl, sym, ap}
use Rattle.std.proofs.lemmas.Option.{get_or_from_slice_get, none-some, same_Some, slice_get_within}
use Rattle.symbols_ast.specs.declared.ids.ModuleId.{ModuleId}
use Rattle.symbols_root.specs.Roots.{RootView, maybe_specifier, specifier_in}

-- the number is that of the stored module that was found
pub record IsIdOfFoundModule (root : RootView) (id : ModuleId) (found : Option (List ℕ)) : Type 0 where
  pub is : found ≡ Some (specifier_in root id)
  pub within : id.0 < length root.stored

pub id_is_that_of_found_module : (root : RootView) (id : ModuleId) (found : Option (List ℕ)) → Some (maybe_specifier root id) ≡ option_map (λ s. Some s) found
    → IsIdOfFoundModule root id found
id_is_that_of_found_module root id None e = absurd (none-some (maybe_specifier root id) (sym e))
id_is_that_of_found_module root id (Some v) e =
    let at : maybe_specifier root id ≡ Some v = same_Some (maybe_specifier root id) (Some v) e in
    record { is = ap Some (sym (get_or_from_slice_get root.stored id.0 v [] at)); within = slice_get_within root.stored id.0 v at }

-- if there is no number, no module was found
pub no_id_no_module_found : (found : Option (List ℕ)) → None ≡ option_map (λ s. Some s) found → found ≡ None
no_id_no_module_found None e = refl
no_id_no_module_found (Some v) e = absurd (none-some (Some v) e)
