-- Laws of `AreNewlyStoredAmong` and `IsFaultOfStoringOneOf`: what several calls, one after the other, store. They are proved.
use Rattle.std.proofs.Common.{◌≡◌, ℕ, zero, suc, Bool, true, false, List, [], ◌∷◌, ◌++◌, map, Option, None, Some, inl, inr, sym, ap, subst, arith}
use Rattle.std.specs.Prelude.{◌⊎◌, Contains, if◌then◌else◌}
use Rattle.std.proofs.lemmas.List.Elements.{Contains-append_right, Contains-append_cases, Contains-get_or}
use Rattle.std.proofs.lemmas.Option.{same_Some}
use Rattle.symbols_table.specs.declared.info.fault.SymbolsFault.{SymbolsFault}
use Rattle.symbols_root.specs.Specifiers.{contains_specifier}
use Rattle.symbols_root.specs.Roots.{RootView, root_with_stored_module, root_with_stored_modules}
use Rattle.symbols_paths.specs.NeededModules.{IsFaultOfStoringOneOf, AreNewlyStoredAmong}

-- nothing is stored
pub newly_stored_none : {P : List ℕ → Type 0} (root : RootView) → AreNewlyStoredAmong root root P
newly_stored_none root = record { each = λ v h. inl h }

pub newly_stored_none_if_same_root : {P : List ℕ → Type 0} (old new : RootView) → new ≡ old → AreNewlyStoredAmong old new P
newly_stored_none_if_same_root {P = P} old new same = subst (λ (root : RootView). AreNewlyStoredAmong old root P) (sym same) (newly_stored_none old)

-- more modules may be stored
pub newly_stored_among_more : {old new : RootView} {P Q : List ℕ → Type 0} → AreNewlyStoredAmong old new P → ((v : List ℕ) → P v → Q v)
    → AreNewlyStoredAmong old new Q
newly_stored_among_more {old = old} {P = P} {Q = Q} is wider = record { each = λ v h. by v (is.each v h) }
  where
    by : (v : List ℕ) → Contains old.stored v ⊎ P v → Contains old.stored v ⊎ Q v
    by v (inl h) = inl h
    by v (inr p) = inr (wider v p)

-- a fault of one of these modules is one of more modules
pub fault_of_storing_one_of_more : {root : RootView} {P Q : List ℕ → Type 0} {fault : SymbolsFault} → IsFaultOfStoringOneOf root P fault →
    ((v : List ℕ) → P v → Q v)
    → IsFaultOfStoringOneOf root Q fault
fault_of_storing_one_of_more is wider = record { needed = is.needed; is_needed = λ v e. wider v (is.is_needed v e); refused = is.refused }

-- a call after another
pub newly_stored_by_two_calls : {a b c : RootView} {P Q : List ℕ → Type 0} → AreNewlyStoredAmong a b P → AreNewlyStoredAmong b c Q → ((v : List ℕ) → Q v → P v)
    → AreNewlyStoredAmong a c P
newly_stored_by_two_calls {a = a} {b = b} {P = P} {Q = Q} first next wider = record { each = λ v h. by v (next.each v h) }
  where
    by : (v : List ℕ) → Contains b.stored v ⊎ Q v → Contains a.stored v ⊎ P v
    by v (inl h) = first.each v h
    by v (inr q) = inr (wider v q)

-- the needed module is stored
only_stored : (root : RootView) (needed : Option (List ℕ)) (v : List ℕ) → Contains (root_with_stored_module root needed).stored v
    → Contains root.stored v ⊎ (needed ≡ Some v)
only_stored root None v h = inl h
only_stored root (Some s) v h = by (contains_specifier root.stored s) h
  where
    only : Contains (s ∷ []) v → Some s ≡ Some v
    only (zero, lt, e) = ap Some e
    only (suc k, lt, e) = absurd (omega (arith, lt))

    by : (b : Bool) → Contains (if b then root.stored else root.stored ++ s ∷ []) v → Contains root.stored v ⊎ (Some s ≡ Some v)
    by true w = inl w
    by false w = elim (Contains-append_cases root.stored (s ∷ []) v w) [
      | inl a ↦ inl a
      | inr b ↦ inr (only b)
    ]

pub newly_stored_needed_module : (old new : RootView) (needed : Option (List ℕ)) → new ≡ root_with_stored_module old needed → AreNewlyStoredAmong old new
    (λ v. needed ≡ Some v)
newly_stored_needed_module old new needed same =
    subst (λ (root : RootView). AreNewlyStoredAmong old root (λ v. needed ≡ Some v)) (sym same) (record { each = only_stored old needed })

-- some modules are stored
pub newly_stored_each_of_list : (root : RootView) (specifiers : List (List ℕ)) → AreNewlyStoredAmong root (root_with_stored_modules root specifiers)
    (Contains specifiers)
newly_stored_each_of_list root [] = newly_stored_none root
newly_stored_each_of_list root (s ∷ rest) = record { each = λ v h. by v ((newly_stored_each_of_list (root_with_stored_module root (Some s)) rest).each v h) }
  where
    first : (v : List ℕ) → Contains root.stored v ⊎ (Some s ≡ Some v) → Contains root.stored v ⊎ Contains (s ∷ rest) v
    first v (inl h) = inl h
    first v (inr e) = inr (subst (Contains (s ∷ rest)) (same_Some s v e) (Contains-get_or (s ∷ rest) 0 s (omega arith)))

    by : (v : List ℕ) → Contains (root_with_stored_module root (Some s)).stored v ⊎ Contains rest v → Contains root.stored v ⊎ Contains (s ∷ rest) v
    by v (inl h) = first v (only_stored root (Some s) v h)
    by v (inr c) = inr (Contains-append_right (s ∷ []) rest v c)

-- the modules at the ends of chains are stored
abbrev end_of : List ℕ × List ℕ → List ℕ
end_of m = m.1

end_among : (reached : List (List ℕ × List ℕ)) (v : List ℕ) → Contains (map end_of reached) v → (chain : List ℕ) × Contains reached (chain, v)
end_among [] v (k, lt, e) = absurd (omega (arith, lt))
end_among (m ∷ rest) v (zero, lt, e) =
    (m.0, subst (λ (u : List ℕ). Contains (m ∷ rest) (m.0, u)) e (Contains-get_or (m ∷ rest) 0 m (omega arith)))
end_among (m ∷ rest) v (suc k, lt, e) =
    let further = end_among rest v (k, omega (arith, lt), e) in
    (further.0, Contains-append_right (m ∷ []) rest (further.0, v) further.1)

pub newly_stored_chain_ends : {P : List ℕ → Type 0} (old new : RootView) (reached : List (List ℕ × List ℕ))
    → ((chain end : List ℕ) → Contains reached (chain, end) → P end) → new ≡ root_with_stored_modules old (map (λ (m : List ℕ × List ℕ). m.1) reached)
    → AreNewlyStoredAmong old new P
newly_stored_chain_ends {P = P} old new reached each same = subst (λ (root : RootView). AreNewlyStoredAmong old root P) (sym same)
    (newly_stored_among_more (newly_stored_each_of_list old (map end_of reached)) (λ v h. let at = end_among reached v h in each at.0 v at.1))
