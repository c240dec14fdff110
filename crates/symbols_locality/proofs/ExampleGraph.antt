-- An example of what is seen and what isn't: a graph of two modules, of which the first names the second as its types dependency. A query on
-- the first looks up the second, and no query on the second looks up the first.
use Rattle.std.proofs.Common.{◌≡◌, ℕ, List, [], ◌∷◌, None, Some, inl, inr, refl, ap, ◌∙◌, arith}
use Rattle.std.proofs.lemmas.Option.{none-some, same_Some}
use Rattle.symbols_ast.specs.Graph.{GraphView, ModuleView, esm, external, content_types_dependency}
use Rattle.symbols_answers.specs.Questions.{QuestionView, QueryForm, IsSpecifierLookedUpByQuery, IsModuleNotLookedUpByQuery}
use Rattle.symbols_answers.specs.Seen.{queried_specifier_is_looked_up, is_requested, types_dependency_is_looked_up}
use Rattle.symbols_locality.specs.ChangedModule.{IsUnreferenced}
use Rattle.symbols_locality.proofs.Lists.{first_or_later, only_one, contains_nothing}
use Rattle.symbols_locality.proofs.UnseenModules.{unseen_by_query}

-- the specifiers `a` and `b`
abbrev a : List ℕ
a = 97 ∷ []

abbrev b : List ℕ
b = 98 ∷ []

abbrev module_a : ModuleView
module_a = record { specifier = a; content = esm [] None (Some b) }

abbrev module_b : ModuleView
module_b = record { specifier = b; content = external }

abbrev example : GraphView
example = record { modules = module_a ∷ module_b ∷ []; redirects = []; resolutions = [] }

same_number : (m n : ℕ) → m ∷ [] ≡ n ∷ [] → m ≡ n
same_number m n e = cc

exporters_are_different : b ≡ a → ⊥
exporters_are_different e = omega (arith, same_number 98 97 e)

a_is_unreferenced : IsUnreferenced example a
a_is_unreferenced = record {
  is_no_types_dependency = λ m next has types it. elim (first_or_later module_a (module_b ∷ []) m has) [
    | inl same ↦
        let next_is : b ≡ next = same_Some b next (ap (λ (x : ModuleView). content_types_dependency x.content) same ∙ types) in
        exporters_are_different (next_is ∙ it)
    | inr later ↦
        none-some next (ap (λ (x : ModuleView). content_types_dependency x.content) (only_one module_b m later) ∙ types)
  ];
  is_no_resolution_target = λ resolution has it. contains_nothing resolution has;
}

a_is_unseen : (question : QuestionView) (form : QueryForm) → IsModuleNotLookedUpByQuery example (record { specifier = b; question = question; form = form }) a
a_is_unseen question form = unseen_by_query example (record { specifier = b; question = question; form = form }) a a_is_unreferenced exporters_are_different

b_is_seen : (question : QuestionView) (form : QueryForm) → IsSpecifierLookedUpByQuery example (record { specifier = a; question = question; form = form }) b
b_is_seen question form = types_dependency_is_looked_up a module_a (is_requested queried_specifier_is_looked_up) refl refl
