-- What specifiers resolve to, added one after the other.
use Rattle.std.proofs.Common.{◌≡◌, ℕ, zero, suc, ◌+◌, ◌<◌, ◌≤◌, List, [], ◌∷◌, ◌++◌, length, map, take, get_or, slice_get}
use Rattle.std.proofs.Common.{None, Some, option_map, refl, sym, ap, ◌∙◌, arith}
use Rattle.std.specs.Prelude.{flat_map}
use Rattle.std.specs.List.{cons_option}
use Rattle.std.proofs.lemmas.List.{take_more, take_all, map-append}
use Rattle.std.proofs.lemmas.List.Elements.{filter_map-append}
use Rattle.std.proofs.lemmas.List.Sums.{fold-append}
use Rattle.std.proofs.lemmas.Option.{none-some, slice_get_within, get_or_from_slice_get}
use Rattle.symbols_ast.specs.Graph.{GraphView, resolved_dependency}
use Rattle.symbols_table.specs.declared.decl.dep.FileDep.{FileDep}
use Rattle.symbols_table.specs.declared.decl.symbol.Symbol.{Symbol}
use Rattle.symbols_table.specs.declared.decl.symbol_decl.SymbolDeclKind.{SymbolDeclKind}
use Rattle.symbols_table.specs.declared.decl.symbol_decl.SymbolDecl.{SymbolDecl}
use Rattle.symbols_table.specs.DeclViews.{FileDepView, Declaration, decl_kind_view, decl_view, decl_kind_dep}
use Rattle.symbols_table.specs.Symbols.{symbol_decls}
use Rattle.symbols_answers.specs.Questions.{append_optional_specifier_if_absent, append_resolved_specifiers, import_specifiers_among}

module _ (graph : GraphView) (referrer : List ℕ) where
  pub targets_joined : (a b xs : List (List ℕ)) → append_resolved_specifiers graph referrer (append_resolved_specifiers graph referrer xs a) b
      ≡ append_resolved_specifiers graph referrer xs (a ++ b)
  targets_joined a b xs =
      sym (fold-append (λ list specifier_text. append_optional_specifier_if_absent list (resolved_dependency graph referrer specifier_text)) xs a b)

  -- one more of a list
  pub target_more : (texts old list new : List (List ℕ)) (index : ℕ) (text : List ℕ) → list ≡ append_resolved_specifiers graph referrer old (take index texts)
      → slice_get texts index ≡ Some text → new ≡ append_resolved_specifiers graph referrer list (text ∷ [])
      → new ≡ append_resolved_specifiers graph referrer old (take (index + 1) texts)
  target_more texts old list new index text before at added =
      added ∙ (ap (λ (l : List (List ℕ)). append_resolved_specifiers graph referrer l (text ∷ [])) before
      ∙ (targets_joined (take index texts) (text ∷ []) old ∙ ap (append_resolved_specifiers graph referrer old) (sym (one_more texts index text at))))
    where
      one_more : (xs : List (List ℕ)) (i : ℕ) (x : List ℕ) → slice_get xs i ≡ Some x → take (i + 1) xs ≡ take i xs ++ x ∷ []
      one_more xs i x is = take_more xs i x (slice_get_within xs i x is) ∙ ap (λ y. take i xs ++ y ∷ []) (get_or_from_slice_get xs i x x is)

  -- the imports of one more declaration
  pub decl_more : (decls : List SymbolDecl) (old list new : List (List ℕ)) (index : ℕ) (decl : SymbolDecl) → index < length decls
      → decl ≡ get_or decls index decl → list ≡ append_resolved_specifiers graph referrer old (import_specifiers_among (map decl_view (take index decls)))
      → new ≡ append_resolved_specifiers graph referrer list (import_specifiers_among (decl_view decl ∷ []))
      → new ≡ append_resolved_specifiers graph referrer old (import_specifiers_among (map decl_view (take (index + 1) decls)))
  decl_more decls old list new index decl within at before added =
      added ∙ (ap (λ (l : List (List ℕ)). append_resolved_specifiers graph referrer l (import_specifiers_among (decl_view decl ∷ []))) before
      ∙ (targets_joined (import_specifiers_among (map decl_view (take index decls))) (import_specifiers_among (decl_view decl ∷ [])) old
      ∙ ap (append_resolved_specifiers graph referrer old) (sym (ap (λ (ds : List SymbolDecl). import_specifiers_among (map decl_view ds)) next
      ∙ (ap import_specifiers_among (map-append decl_view (take index decls) (decl ∷ []))
      ∙ filter_map-append (λ (d : Declaration). option_map (λ (dep : FileDepView). dep.specifier) (decl_kind_dep d.kind)) (map decl_view (take index decls))
      (decl_view decl ∷ []))))))
    where
      next : take (index + 1) decls ≡ take index decls ++ decl ∷ []
      next = take_more decls index decl within ∙ ap (λ d. take index decls ++ d ∷ []) (sym at)

  -- those of the next symbol
  pub symbol_next : (all before after : List Symbol) (old list new : List (List ℕ)) (symbol : Symbol)
      → append_resolved_specifiers graph referrer list (flat_map (λ (s : Symbol). import_specifiers_among (symbol_decls s)) before)
      ≡ append_resolved_specifiers graph referrer old (flat_map (λ (s : Symbol). import_specifiers_among (symbol_decls s)) all)
      → before ≡ symbol ∷ after → new ≡ append_resolved_specifiers graph referrer list (import_specifiers_among (symbol_decls symbol))
      → append_resolved_specifiers graph referrer new (flat_map (λ (s : Symbol). import_specifiers_among (symbol_decls s)) after)
      ≡ append_resolved_specifiers graph referrer old (flat_map (λ (s : Symbol). import_specifiers_among (symbol_decls s)) all)
  symbol_next all before after old list new symbol is first added =
      ap (λ (l : List (List ℕ)). append_resolved_specifiers graph referrer l (flat_map specifiers after)) added
      ∙ (targets_joined (specifiers symbol) (flat_map specifiers after) list
      ∙ (ap (λ (symbols : List Symbol). append_resolved_specifiers graph referrer list (flat_map specifiers symbols)) (sym first) ∙ is))
    where
      specifiers : Symbol → List (List ℕ)
      specifiers s = import_specifiers_among (symbol_decls s)

  -- all of a list
  pub targets_all : (texts old list : List (List ℕ)) (index : ℕ) → list ≡ append_resolved_specifiers graph referrer old (take index texts)
      → slice_get texts index ≡ None
      → list ≡ append_resolved_specifiers graph referrer old texts
  targets_all texts old list index is past = is ∙ ap (append_resolved_specifiers graph referrer old) (take_all index texts (over texts index past))
    where
      over : (xs : List (List ℕ)) (i : ℕ) → slice_get xs i ≡ None → length xs ≤ i
      over [] i at = omega arith
      over (x ∷ xs) zero at = absurd (none-some x (sym at))
      over (x ∷ xs) (suc i) at = omega (arith, over xs i at)

-- the import of a declaration, if it is one
pub decl_imports : (decl : SymbolDecl) (dep : FileDep) → decl.kind ≡ SymbolDeclKind.FileRef dep
    → import_specifiers_among (decl_view decl ∷ []) ≡ dep.specifier.now ∷ []
decl_imports decl dep is =
    ap (λ (kind : SymbolDeclKind). cons_option (option_map (λ (d : FileDepView). d.specifier) (decl_kind_dep (decl_kind_view kind))) []) is

pub decl_imports_nothing : (decl : SymbolDecl) → ((dep : FileDep) → decl.kind ≡ SymbolDeclKind.FileRef dep → ⊥)
    → import_specifiers_among (decl_view decl ∷ []) ≡ []
decl_imports_nothing decl no_import = by decl.kind refl
  where
    by : (kind : SymbolDeclKind) → decl.kind ≡ kind
        → cons_option (option_map (λ (d : FileDepView). d.specifier) (decl_kind_dep (decl_kind_view kind))) [] ≡ []
    by (SymbolDeclKind.Target name) at = refl
    by (SymbolDeclKind.QualifiedTarget name parts) at = refl
    by (SymbolDeclKind.FileRef dep) at = absurd (no_import dep at)
    by (SymbolDeclKind.Definition node_of_decl) at = refl
