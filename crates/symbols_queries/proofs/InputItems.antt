-- The loop that lists inputs, and what is listed.
use Rattle.std.proofs.Common.{◌≡◌, ℕ, List, [], ◌∷◌, ◌++◌, map, sym, ap, ◌∙◌, append_assoc}
use Rattle.std.specs.Borrow.{Bor}
use Rattle.std.proofs.lemmas.List.{map-append}
use Rattle.symbols_ast.specs.Graph.{GraphView}
use Rattle.symbols_answers.specs.Inputs.{InputView, input_of_specifier}
use Rattle.symbols_queries.specs.declared.inputs.QueryInput.{QueryInput}
use Rattle.symbols_queries.specs.Queries.{input_view}
use Rattle.symbols_queries.specs.inner.SpecifierLists.{specifiers_of_keys}

-- the inputs of the remaining specifiers, after those that are listed
abbrev pub with_remaining : GraphView → List QueryInput → List (Bor (List ℕ)) → List InputView
with_remaining graph inputs keys = map input_view inputs ++ map (input_of_specifier graph) (specifiers_of_keys keys)

pub input_next : (graph : GraphView) (inputs new : List QueryInput) (input : QueryInput) (before after : List (Bor (List ℕ))) (key : Bor (List ℕ))
    → before ≡ key ∷ after → new ≡ inputs ++ input ∷ [] → input_view input ≡ input_of_specifier graph key.now
    → with_remaining graph new after ≡ with_remaining graph inputs before
input_next graph inputs new input before after key first put is =
    ap (λ (list : List QueryInput). with_remaining graph list after) put
    ∙ (ap (λ (views : List InputView). views ++ map (input_of_specifier graph) (specifiers_of_keys after)) (map-append input_view inputs (input ∷ []))
    ∙ (append_assoc (map input_view inputs) (input_view input ∷ []) (map (input_of_specifier graph) (specifiers_of_keys after))
    ∙ (ap (λ (view : InputView). map input_view inputs ++ view ∷ map (input_of_specifier graph) (specifiers_of_keys after)) is
    ∙ ap (with_remaining graph inputs) (sym first))))
