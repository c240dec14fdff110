-- The aliases being resolved, and one more.
use Rattle.std.proofs.Common.{◌≡◌, Bool, true, false, ◌||◌, List, [], ◌∷◌, ◌++◌, ◌⊎◌, inl, inr, refl, sym, nat_eq, true≢false}
use Rattle.std.proofs.lemmas.Bool.{eqb-true, and_parts}
use Rattle.symbols_paths.specs.PathTrees.{DeclBySpecifier}
use Rattle.symbols_paths.specs.Choice.{is_same_symbol, is_same_decl, is_alias_being_resolved}
use Rattle.symbols_paths.proofs.VisitedSymbols.{same_is}

pub same_decl_is : (d e : DeclBySpecifier) → is_same_decl d e ≡ true → d ≡ e
same_decl_is d e h =
    let b = and_parts (is_same_symbol d.symbol e.symbol) (nat_eq d.index e.index) h in
    let p = same_is d.symbol e.symbol b.0 in
    let q = eqb-true d.index e.index b.1 in
    λ i. record { symbol = p i; index = q i }

-- an alias being resolved after one was added was so before, or is that one
pub running_or_one : (running : List DeclBySpecifier) (d e : DeclBySpecifier) → is_alias_being_resolved (running ++ d ∷ []) e ≡ true
    → (is_alias_being_resolved running e ≡ true) ⊎ (e ≡ d)
running_or_one [] d e h = last (is_same_decl e d) refl h
  where
    last : (b : Bool) → is_same_decl e d ≡ b → (b || false) ≡ true → (is_alias_being_resolved [] e ≡ true) ⊎ (e ≡ d)
    last true is g = inr (same_decl_is e d is)
    last false is g = absurd (true≢false (sym g))
running_or_one (m ∷ running) d e h = by (is_same_decl e m) (running_or_one running d e) h
  where
    by : (b : Bool) → (is_alias_being_resolved (running ++ d ∷ []) e ≡ true → (is_alias_being_resolved running e ≡ true) ⊎ (e ≡ d))
        → (b || is_alias_being_resolved (running ++ d ∷ []) e) ≡ true
        → ((b || is_alias_being_resolved running e) ≡ true) ⊎ (e ≡ d)
    by true rest g = inl refl
    by false rest g = rest g
