-- The accepted names of a module, among its local exports.
use Rattle.std.proofs.Common.{◌≡◌, ℕ, Bool, true, false, cond, List, [], ◌∷◌, find, None, Some, option_to_list, refl, sym, ap, ◌∙◌, Bor}
use Rattle.std.specs.Map.{lookup}
use Rattle.std.specs.Str.{bytes_eq}
use Rattle.std.proofs.lemmas.Option.{none-some, same_Some}
use Rattle.std.proofs.lemmas.Slice.Eq.{bytes_eq-Decides}
use Rattle.symbols_ast.specs.declared.ids.SymbolId.{SymbolId}
use Rattle.symbols_exports.specs.declared.name_filter.NameFilter.{NameFilter}
use Rattle.symbols_exports.specs.declared.name_filter.NameFilter.TheVariants.{OneName}
use Rattle.symbols_exports.specs.inner.NameFilter.{exports_accepted_by}

abbrev pub ExplicitEntry : Type 0
ExplicitEntry = List ℕ × SymbolId

found_in : (q : List ℕ) (exported : List ExplicitEntry) (s : SymbolId) → lookup (λ key. bytes_eq q key) exported ≡ Some s
    → find (λ (x : ExplicitEntry). bytes_eq q x.0) exported ≡ Some (q, s)
found_in q [] s none = absurd (none-some s none)
found_in q (entry ∷ exported) s found = by (bytes_eq q entry.0) refl found (found_in q exported s)
  where
    by : (b : Bool) → bytes_eq q entry.0 ≡ b → cond b (Some entry.1) (lookup (λ key. bytes_eq q key) exported) ≡ Some s
        → (lookup (λ key. bytes_eq q key) exported ≡ Some s → find (λ (x : ExplicitEntry). bytes_eq q x.0) exported ≡ Some (q, s))
        → cond b (Some entry) (find (λ (x : ExplicitEntry). bytes_eq q x.0) exported) ≡ Some (q, s)
    by true is same rest = λ i. Some (sym ((bytes_eq-Decides q entry.0).0 is) i, same_Some entry.1 s same i)
    by false is same rest = rest same

none_in : (q : List ℕ) (exported : List ExplicitEntry) → lookup (λ key. bytes_eq q key) exported ≡ None
    → find (λ (x : ExplicitEntry). bytes_eq q x.0) exported ≡ None
none_in q [] none = refl
none_in q (entry ∷ exported) none = by (bytes_eq q entry.0) none (none_in q exported)
  where
    by : (b : Bool) → cond b (Some entry.1) (lookup (λ key. bytes_eq q key) exported) ≡ None
        → (lookup (λ key. bytes_eq q key) exported ≡ None → find (λ (x : ExplicitEntry). bytes_eq q x.0) exported ≡ None)
        → cond b (Some entry) (find (λ (x : ExplicitEntry). bytes_eq q x.0) exported) ≡ None
    by true same rest = absurd (none-some entry.1 (sym same))
    by false same rest = rest same

-- filtering for one name: a local export is found, and nothing is found where there is none
pub one_explicit : (name : Bor (List ℕ)) (name_filter : NameFilter) (exported : List ExplicitEntry) (s : SymbolId) → name_filter ≡ OneName name
    → Some s ≡ lookup (λ key. bytes_eq name.now key) exported → exports_accepted_by name_filter exported ≡ (name.now, s) ∷ []
one_explicit name name_filter exported s is found = (λ i. exports_accepted_by (is i) exported) ∙ ap option_to_list (found_in name.now exported s (sym found))

pub none_explicit : (name : Bor (List ℕ)) (name_filter : NameFilter) (exported : List ExplicitEntry) → name_filter ≡ OneName name
    → None ≡ lookup (λ key. bytes_eq name.now key) exported → exports_accepted_by name_filter exported ≡ []
none_explicit name name_filter exported is none = (λ i. exports_accepted_by (is i) exported) ∙ ap option_to_list (none_in name.now exported (sym none))
