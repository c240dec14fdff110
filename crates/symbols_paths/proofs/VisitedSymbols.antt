-- Visited symbols, and one more.
use Rattle.std.proofs.Common.{◌≡◌, Bool, true, false, ◌||◌, List, [], ◌∷◌, ◌++◌, refl, sym, nat_eq, true≢false}
use Rattle.std.specs.Str.{bytes_eq}
use Rattle.std.proofs.lemmas.Bool.{eqb-true, eq-eqb, and_parts, or_right}
use Rattle.std.proofs.lemmas.Cmp.{nat_list_eq_equiv}
use Rattle.std.proofs.lemmas.Slice.Eq.{bytes_eq-Decides}
use Rattle.symbols_paths.specs.PathTrees.{SymbolBySpecifier}
use Rattle.symbols_paths.specs.Choice.{is_same_symbol, is_visited}

pub same_is : (s t : SymbolBySpecifier) → is_same_symbol s t ≡ true → s ≡ t
same_is s t e =
    let h = and_parts (bytes_eq s.specifier t.specifier) (nat_eq s.number.0 t.number.0) e in
    let p = (bytes_eq-Decides s.specifier t.specifier).0 h.0 in
    let q = eqb-true s.number.0 t.number.0 h.1 in
    λ i. record { specifier = p i; number = record { 0 = q i } }

pub same_self : (s : SymbolBySpecifier) → is_same_symbol s s ≡ true
same_self s = rw (nat_list_eq_equiv.refl s.specifier, eq-eqb s.number.0 s.number.0 refl) refl

or_retained : (b x y : Bool) → (x ≡ true → y ≡ true) → (b || x) ≡ true → (b || y) ≡ true
or_retained true x y h e = refl
or_retained false x y h e = h e

pub retained_by_one : (visited : List SymbolBySpecifier) (s u : SymbolBySpecifier) → is_visited visited u ≡ true → is_visited (visited ++ s ∷ []) u ≡ true
retained_by_one [] s u e = absurd (true≢false (sym e))
retained_by_one (m ∷ visited) s u e = or_retained (is_same_symbol u m) (is_visited visited u) (is_visited (visited ++ s ∷ []) u) (retained_by_one visited s u) e

pub one_visited : (visited : List SymbolBySpecifier) (s : SymbolBySpecifier) → is_visited (visited ++ s ∷ []) s ≡ true
one_visited [] s = rw (same_self s) refl
one_visited (m ∷ visited) s = or_right (is_same_symbol s m) (is_visited (visited ++ s ∷ []) s) (one_visited visited s)

-- a symbol visited after one was added, and not before, is that one
pub only_one : (visited : List SymbolBySpecifier) (s u : SymbolBySpecifier) → is_visited visited u ≡ false → is_visited (visited ++ s ∷ []) u ≡ true → u ≡ s
only_one [] s u e f = last (is_same_symbol u s) refl f
  where
    last : (b : Bool) → is_same_symbol u s ≡ b → (b || false) ≡ true → u ≡ s
    last true is g = same_is u s is
    last false is g = absurd (true≢false (sym g))
only_one (m ∷ visited) s u e f = by (is_same_symbol u m) (only_one visited s u) e f
  where
    by : (b : Bool) → (is_visited visited u ≡ false → is_visited (visited ++ s ∷ []) u ≡ true → u ≡ s) → (b || is_visited visited u) ≡ false
        → (b || is_visited (visited ++ s ∷ []) u) ≡ true → u ≡ s
    by true rest g h = absurd (true≢false g)
    by false rest g h = rest g h
