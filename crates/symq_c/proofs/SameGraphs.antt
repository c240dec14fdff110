-- Graphs with the same modules, redirects and resolved specifier texts.
use Rattle.std.proofs.Common.{◌≡◌, ℕ, List, find, sym, ◌∙◌}
use Rattle.std.specs.Prelude.{unwrap_or}
use Rattle.std.specs.Map.{lookup}
use Rattle.std.specs.Str.{bytes_eq}
use Rattle.symbols_ast.specs.Graph.{GraphView, module_after_redirect}
use Rattle.symbols_graph.specs.PutModules.{IsSameGraph}
use Rattle.symbols_answers.specs.Questions.{QueryView, AreAlikeForQuery}

pub same_through : (a b c : GraphView) → IsSameGraph a b → IsSameGraph b c → IsSameGraph a c
same_through a b c p q = (q.0 ∙ p.0, q.1 ∙ p.1, λ r t. q.2 r t ∙ p.2 r t)

same_module : (a b : GraphView) → IsSameGraph a b → (key : List ℕ) → module_after_redirect a key ≡ module_after_redirect b key
same_module a b p key =
    let modules = sym p.0 in
    let redirects = sym p.1 in
    λ i. find (λ m. bytes_eq (unwrap_or (lookup (bytes_eq key) (redirects i)) key) m.specifier) (modules i)

-- they agree on what any query looks up
pub alike_for_query : (a b : GraphView) → IsSameGraph a b → (query : QueryView) → AreAlikeForQuery a b query
alike_for_query a b p query = record {
  same_modules = λ key seen. same_module a b p key;
  same_resolutions = λ key specifier specifier_text requested at follows. sym (p.2 specifier specifier_text);
}
