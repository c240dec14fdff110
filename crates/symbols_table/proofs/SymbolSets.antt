-- Adding a symbol to a list without repetition.
use Rattle.std.proofs.Common.{◌≡◌, Bool, true, false, List, [], ◌∷◌, ◌++◌, fold, refl, ap, ◌∙◌}
use Rattle.std.specs.List.{list_any}
use Rattle.std.proofs.lemmas.List.Sums.{fold-append}
use Rattle.symbols_ast.specs.declared.ids.SymbolId.{SymbolId}
use Rattle.symbols_table.specs.Changes.{is_same_symbol_id, append_if_absent}
use Rattle.symbols_table.specs.inner.SymbolSets.{HasDistinctSymbols}

-- A list without repetition has none after a symbol is added, unless the list has it.
pub once_more : (symbols : List SymbolId) (symbol : SymbolId) → HasDistinctSymbols symbols → HasDistinctSymbols (append_if_absent symbols symbol)
once_more symbols symbol once = by (list_any (is_same_symbol_id symbol) symbols) refl
  where
    by : (there : Bool) → list_any (is_same_symbol_id symbol) symbols ≡ there → HasDistinctSymbols (append_if_absent symbols symbol)
    by true is = rw is once
    by false is =
        let last : fold append_if_absent [] (symbols ++ symbol ∷ []) ≡ append_if_absent symbols symbol =
        fold-append append_if_absent [] symbols (symbol ∷ []) ∙ ap (λ (done : List SymbolId). append_if_absent done symbol) once in
        rw is (last ∙ rw is refl)
