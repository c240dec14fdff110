-- Exports and public names store no module but those that `export *` reaches.
use Rattle.std.proofs.Common.{◌≡◌, ℕ, List, map, inl, inr}
use Rattle.std.specs.Prelude.{Contains}
use Rattle.symbols_ast.specs.declared.ids.ModuleId.{ModuleId}
use Rattle.symbols_table.specs.declared.info.fault.SymbolsFault.{SymbolsFault}
use Rattle.symbols_root.specs.Roots.{RootView, specifier_in, root_with_stored_modules}
use Rattle.symbols_exports.specs.Chains.{IsLeastChain, IsReachedByStars, AreReachedByStars}
use Rattle.symbols_exports.specs.ExportAnswers.{IsExportsCallFault}
use Rattle.symbols_exports.specs.StarStatements.{star_targets_of}
use Rattle.symbols_paths.specs.NeededModules.{AreNewlyStoredAmong}
use Rattle.symbols_paths.specs.laws.Storing.{newly_stored_none_if_same_root, newly_stored_chain_ends}

stores_chains : (old new : RootView) (start : List ℕ) (reached : List (List ℕ × List ℕ))
    → ((chain end : List ℕ) → Contains reached (chain, end) → IsLeastChain (star_targets_of old.graph) start chain end)
    → new ≡ root_with_stored_modules old (map (λ (m : List ℕ × List ℕ). m.1) reached)
    → AreNewlyStoredAmong old new (IsReachedByStars (star_targets_of old.graph) start)
stores_chains old new start reached least same = newly_stored_chain_ends old new reached (λ chain end h. (chain, (least chain end h).is_chain)) same

pub stores_reached : (old new : RootView) (start : List ℕ) (reached : List (List ℕ × List ℕ)) → AreReachedByStars (star_targets_of old.graph) start reached
    → new ≡ root_with_stored_modules old (map (λ (m : List ℕ × List ℕ). m.1) reached)
    → AreNewlyStoredAmong old new (IsReachedByStars (star_targets_of old.graph) start)
stores_reached old new start reached are same = stores_chains old new start reached (λ chain end h. (are.all chain end).0 h) same

pub stores_until_fault : (old new : RootView) (id : ModuleId) (fault : SymbolsFault) (lookups : ℕ) → IsExportsCallFault old new id fault lookups
    → AreNewlyStoredAmong old new (IsReachedByStars (star_targets_of old.graph) (specifier_in old id))
stores_until_fault old new id fault lookups (inl is) = newly_stored_none_if_same_root old new is.unchanged
stores_until_fault old new id fault lookups (inr is) = stores_chains old new (specifier_in old id) is.reached is.are_least is.stored
