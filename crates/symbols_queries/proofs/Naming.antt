-- Lists converted to specifiers element by element, and links as trees.
use Rattle.std.proofs.Common.{◌≡◌, ℕ, ◌+◌, ◌<◌, List, [], ◌∷◌, ◌++◌, length, map, take, get_or}
use Rattle.std.proofs.Common.{Option, None, Some, refl, sym, ap, ◌∙◌, append_assoc, append-nil}
use Rattle.std.specs.Prelude.{filter_map}
use Rattle.std.proofs.lemmas.List.{map-append, take_more}
use Rattle.symbols_ast.specs.declared.ids.ModuleId.{ModuleId}
use Rattle.symbols_exports.specs.declared.export_chain.ResolvedExportOrReExportAllPath.{ResolvedExportOrReExportAllPath}
use Rattle.symbols_exports.specs.declared.export_chain.ResolvedExportOrReExportAllPath.TheVariants.{Export, ReExportAllPath'}
use Rattle.symbols_exports.specs.ExportChains.{statements_of_chain, chain_suffixes}

-- the converted elements, followed by the conversions of the remaining ones, are those of the whole list
abbrev pub AreNamed : {A B C : Type 0} → (A → C) → (B → C) → List A → List B → List B → Type 0
AreNamed view named_form named rest all = map view named ++ map named_form rest ≡ map named_form all

pub named_next : {A B C : Type 0} (view : A → C) (named_form : B → C) (named further : List A) (x : A) (y : B) (rest all : List B)
    → AreNamed view named_form named (y ∷ rest) all → further ≡ named ++ x ∷ [] → view x ≡ named_form y → AreNamed view named_form further rest all
named_next view named_form named further x y rest all so put same =
    ap (λ xs. map view xs ++ map named_form rest) put
    ∙ (ap (λ xs. xs ++ map named_form rest) (map-append view named (x ∷ []))
    ∙ (append_assoc (map view named) (view x ∷ []) (map named_form rest)
    ∙ (ap (λ z. map view named ++ z ∷ map named_form rest) same ∙ so)))

pub named_last : {A B C : Type 0} (view : A → C) (named_form : B → C) (named : List A) (rest all : List B) → rest ≡ [] → AreNamed view named_form named rest all
    → map view named ≡ map named_form all
named_last view named_form named rest all over so = sym (append-nil (map view named)) ∙ (ap (λ xs. map view named ++ map named_form xs) (sym over) ∙ so)

-- one more element of a list is converted, read in two steps
pub named_more : {A B C X : Type 0} (view : A → C) (named_form : B → C) (chain : X → B) (named further : List A) (x : A) (items : List X) (i : ℕ) (item : X)
    → i < length items → item ≡ get_or items i item
    → map view named ≡ map named_form (map chain (take i items)) → further ≡ named ++ x ∷ [] → view x ≡ named_form (chain item)
    → map view further ≡ map named_form (map chain (take (i + 1) items))
named_more view named_form chain named further x items i item within at so put same =
    let consumed : take (i + 1) items ≡ take i items ++ item ∷ [] = take_more items i item within ∙ ap (λ y. take i items ++ y ∷ []) (sym at) in
    let read = ap (λ xs. map named_form (map chain xs)) consumed
    ∙ (ap (map named_form) (map-append chain (take i items) (item ∷ [])) ∙ map-append named_form (map chain (take i items)) (chain item ∷ [])) in
    ap (map view) put ∙ (map-append view named (x ∷ []) ∙ ((λ j. so j ++ same j ∷ []) ∙ sym read))

-- ---- chains

-- the first statement of a chain, if it has one
abbrev pub first_statement : ResolvedExportOrReExportAllPath → Option (ModuleId × List ℕ)
first_statement (Export export) = None
first_statement (ReExportAllPath' referrer text p rest) = Some (referrer, text.now)

pub statements_of_suffixes : (path : ResolvedExportOrReExportAllPath) → filter_map first_statement (chain_suffixes path) ≡ statements_of_chain path
statements_of_suffixes (Export export) = refl
statements_of_suffixes (ReExportAllPath' referrer text p rest) = ap (λ statements. (referrer, text.now) ∷ statements) (statements_of_suffixes rest)
