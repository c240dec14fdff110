-- The total number of declarations of all symbols is the number that the changes make.
use Rattle.std.proofs.Common.{◌≡◌, ℕ, suc, ◌+◌, Bool, true, false, cond, eqb, List, [], ◌∷◌, length, fold, slice_get, All, Some, refl, ap, ◌∙◌, arith}
use Rattle.std.specs.List.{filter_map, cons_option, sum_by}
use Rattle.std.proofs.lemmas.List.{length_push}
use Rattle.std.proofs.lemmas.List.Sums.{sum_by-cons}
use Rattle.symbols_ast.specs.declared.ids.SymbolId.{SymbolId}
use Rattle.symbols_table.specs.DeclViews.{Declaration, append_decl_with_overload_flag, last_decl, gets_overload_flag_after_decl}
use Rattle.symbols_table.specs.Changes.{Change, parents_after_changes, adds_symbol, adds_decl, exports, adds_child, adds_member, maps, re_exports_all, some_if}
use Rattle.symbols_table.specs.Changes.{decl_added_by, decls_after_changes}
use Rattle.symbols_table.specs.declared.decl.symbol.Symbol.{Symbol}
use Rattle.symbols_table.specs.Symbols.{symbol_decls}
use Rattle.symbols_table.specs.inner.Tables.{NamesSymbolsBelow}
use Rattle.symbols_table.specs.Laws.{count_of_declarations}
use Rattle.symbols_table.proofs.Sums.{declaration_count, sum_below}
use Rattle.symbols_table.proofs.Inside.{All-head, All-tail}
use Rattle.symbols_table.proofs.CountsWeights.{same, sum_none, sum_same, sum-plus, sum-first, sum_as}

-- Adding declarations to a list adds as many entries, whatever their flags.
length_with : (before decls : List Declaration) → length (fold append_decl_with_overload_flag before decls) ≡ length before + length decls
length_with before [] = omega arith
length_with before (decl ∷ decls) =
    omega (
      arith,
      length_with (append_decl_with_overload_flag before decl) decls,
      length_push before
          (record decl { has_overloads = gets_overload_flag_after_decl (last_decl before) decl }),
    )

abbrev pub symbol_at_number : ℕ → SymbolId
symbol_at_number n = record { 0 = n }

-- The number of declarations of symbol n among the changes.
abbrev pub decls_among : List Change → ℕ → ℕ
decls_among changes n = length (filter_map (decl_added_by (symbol_at_number n)) changes)

pub length-decls_after : (changes : List Change) (n : ℕ) → length (decls_after_changes changes (symbol_at_number n)) ≡ decls_among changes n
unfolding decls_after_changes
length-decls_after changes n = length_with [] (filter_map (decl_added_by (symbol_at_number n)) changes) ∙ omega arith

among_declares : (t : SymbolId) (decl : Declaration) (changes : List Change) (n : ℕ)
    → decls_among (adds_decl t decl ∷ changes) n ≡ same t.0 n + decls_among changes n
among_declares t decl changes n = by (eqb t.0 n)
  where
    by : (b : Bool) → length (cons_option (some_if b decl) (filter_map (decl_added_by (symbol_at_number n)) changes)) ≡ cond b 1 0 + decls_among changes n
    by true = omega arith
    by false = omega arith

decls_sum : (count : ℕ) (changes : List Change) → All (NamesSymbolsBelow count) changes → sum_below (decls_among changes) count ≡ declaration_count changes
decls_sum count [] all = sum_none count
decls_sum count (change ∷ changes) all =
    by change (All-head (NamesSymbolsBelow count) change changes all) (decls_sum count changes (All-tail (NamesSymbolsBelow count) change changes all))
  where
    by : (change : Change) → NamesSymbolsBelow count change → sum_below (decls_among changes) count ≡ declaration_count changes
        → sum_below (decls_among (change ∷ changes)) count ≡ declaration_count (change ∷ changes)
    by (adds_decl t decl) fits rest =
        let parts = sum_as (decls_among (adds_decl t decl ∷ changes)) (λ n. same t.0 n + decls_among changes n) count (among_declares t decl changes) in
        omega (arith, parts, sum-plus (same t.0) (decls_among changes) count, sum_same t.0 count fits, rest)
    by (adds_symbol _) fits rest = rest
    by (exports _ _ _) fits rest = rest
    by (adds_child _ _) fits rest = rest
    by (adds_member _ _) fits rest = rest
    by (maps _ _) fits rest = rest
    by (re_exports_all _) fits rest = rest

-- If the changes name only symbols below the count, the declarations of these symbols are as many as the changes make.
pub all_declarations : (count : ℕ) (changes : List Change) → All (NamesSymbolsBelow count) changes
    → sum_below (λ n. length (decls_after_changes changes (symbol_at_number n))) count ≡ declaration_count changes
all_declarations count changes all = sum_as (λ n. length (decls_after_changes changes (symbol_at_number n))) (decls_among changes) count
    (length-decls_after changes)
    ∙ decls_sum count changes all

-- A sum over a list is the sum over its indices.
sum_by_indices : {A : Type 0} (g : A → ℕ) (f : ℕ → ℕ) (xs : List A) → ((n : ℕ) (x : A) → slice_get xs n ≡ Some x → g x ≡ f n)
    → sum_by g xs ≡ sum_below f (length xs)
sum_by_indices g f [] each = refl
sum_by_indices g f (x ∷ xs) each =
    omega (arith, sum_by-cons g x xs, each 0 x refl, sum_by_indices g (λ n. f (suc n)) xs (λ n y at. each (suc n) y at), sum-first f (length xs))

-- A list of symbols with the declarations of the changes has as many declarations as the changes make.
pub module_declarations : (symbols : List Symbol) (changes : List Change) → length symbols ≡ length (parents_after_changes changes)
    → ((s : SymbolId) (symbol : Symbol) → slice_get symbols s.0 ≡ Some symbol → symbol_decls symbol ≡ decls_after_changes changes s)
    → All (NamesSymbolsBelow (length (parents_after_changes changes))) changes → count_of_declarations symbols ≡ declaration_count changes
module_declarations symbols changes count borrowed_symbol all =
    let decls : ℕ → ℕ = λ n. length (decls_after_changes changes (symbol_at_number n)) in
    let names_are_in_insertion_order = sum_by_indices (λ (symbol : Symbol). length (symbol_decls symbol)) decls symbols
    (λ n symbol at. ap length (borrowed_symbol (symbol_at_number n) symbol at)) in
    names_are_in_insertion_order ∙ ap (sum_below decls) count ∙ all_declarations (length (parents_after_changes changes)) changes all
