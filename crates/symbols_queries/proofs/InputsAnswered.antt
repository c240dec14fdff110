-- The inputs of a query, by the contracts of the calls.
use Rattle.std.proofs.Common.{◌≡◌, ℕ, zero, suc, ◌≤◌, inr, ◌^◌, List, [], ◌∷◌, length, map, Option, Some, option_map, refl, sym, ap, subst, ◌∙◌, arith}
use Rattle.std.specs.Prelude.{Contains, Result, Ok, Err, IfOk, OnOk, Vec}
use Rattle.std.specs.Global.{Global}
use Rattle.std.specs.List.{IsDistinct}
use Rattle.std.specs.Str.{bytes_eq}
use Rattle.std.proofs.lemmas.List.{length-map, get_or-map}
use Rattle.std.proofs.lemmas.Option.{none-some}
use Rattle.symbols_ast.specs.declared.ids.ModuleId.{ModuleId}
use Rattle.symbols_ast.specs.Graph.{GraphView}
use Rattle.symbols_table.specs.declared.info.fault.SymbolsFault.{SymbolsFault}
use Rattle.symbols_root.specs.Growing.{HasGrown}
use Rattle.symbols_root.specs.Roots.{RootView, root_with_stored_module, maybe_specifier}
use Rattle.symbols_root.specs.TypesChains.{resolved_module_specifier}
use Rattle.symbols_paths.specs.NeededModules.{IsFaultOfStoringOneOf, AreNewlyStoredAmong}
use Rattle.symbols_paths.specs.laws.Storing.{newly_stored_among_more, newly_stored_by_two_calls}
use Rattle.symbols_answers.specs.Questions.{QueryView, inputs_query, seen_specifiers, inputs_of_query, IsSpecifierLookedUpByQuery}
use Rattle.symbols_answers.specs.Answers.{answer_inputs, IsAnswerOfInputs, AreRequestedModulesStored}
use Rattle.symbols_answers.specs.Inputs.{InputView, input_of_specifier}
use Rattle.symbols_answers.specs.laws.SeenLists.{seen_specifiers_are_looked_up, looked_up_specifiers_are_seen, seen_specifiers_are_distinct}
use Rattle.symbols_queries.specs.declared.inputs.QueryInput.{QueryInput}
use Rattle.symbols_queries.specs.Queries.{input_view, inputs_view, IsNeededForInputs, CanBeStoredByQuery, IsQueryFault}
use Rattle.symbols_queries.specs.inner.Given.{IsQueryAnswerReturned}

-- ---- elements of mapped lists

mapped_from : {A B : Type 0} (f : A → B) (xs : List A) (y : B) → Contains (map f xs) y → (x : A) × Contains xs x × (f x ≡ y)
mapped_from f [] y has = absurd (omega (arith, has.1))
mapped_from f (x ∷ xs) y (zero, within, same) = (x, (0, omega arith, refl), same)
mapped_from f (x ∷ xs) y (suc k, within, same) =
    let later = mapped_from f xs y (k, omega (arith, within), same) in
    (later.0, (suc later.1.0, omega (arith, later.1.1), later.1.2), later.2)

mapped_has : {A B : Type 0} (f : A → B) (xs : List A) (x : A) → Contains xs x → Contains (map f xs) (f x)
mapped_has f xs x has =
    (has.0, omega (arith, has.1, length-map xs f), get_or-map f xs has.0 x (f x) has.1 ∙ ap f has.2)

-- ---- the meaning of the list

module _ (graph : GraphView) (query : QueryView) where
  specifiers_of : (xs : List (List ℕ)) → map (λ (input : InputView). input.specifier) (map (input_of_specifier graph) xs) ≡ xs
  specifiers_of [] = refl
  specifiers_of (x ∷ xs) = ap (λ ys. x ∷ ys) (specifiers_of xs)

  listed_is_seen : (input : InputView) → Contains (inputs_of_query graph query) input
      → IsSpecifierLookedUpByQuery graph query input.specifier × (input ≡ input_of_specifier graph input.specifier)
  listed_is_seen input has =
      let from = mapped_from (input_of_specifier graph) (seen_specifiers graph query) input has in
      let same : from.0 ≡ input.specifier = ap (λ (i : InputView). i.specifier) from.2 in (
        subst (IsSpecifierLookedUpByQuery graph query) same (seen_specifiers_are_looked_up graph query from.0 from.1),
        sym from.2
            ∙ ap (input_of_specifier graph) same,
      )

  seen_is_listed : length (seen_specifiers graph query) ≤ 2 ^ 63 → (input : InputView)
      → IsSpecifierLookedUpByQuery graph query input.specifier × (input ≡ input_of_specifier graph input.specifier)
      → Contains (inputs_of_query graph query) input
  seen_is_listed few input is = subst (Contains (inputs_of_query graph query)) (sym is.1)
      (mapped_has (input_of_specifier graph) (seen_specifiers graph query) input.specifier
      (looked_up_specifiers_are_seen graph query (omega (arith, few)) input.specifier is.0))

  pub inputs_mean : (inputs : List InputView) → length (seen_specifiers graph query) ≤ 2 ^ 63 → inputs ≡ inputs_of_query graph query
      → IsAnswerOfInputs graph query (answer_inputs inputs)
  inputs_mean inputs few listed = record {
    inputs = inputs;
    all = λ input. (
      λ has. listed_is_seen input (subst (λ (list : List InputView). Contains list input) listed has),
      λ is. subst (λ (list : List InputView). Contains list input) (sym listed) (seen_is_listed few input is),
    );
    has_no_duplicates = subst (IsDistinct bytes_eq)
        (sym (ap (map (λ (input : InputView). input.specifier)) listed ∙ specifiers_of (seen_specifiers graph query)))
        (seen_specifiers_are_distinct graph query);
    in_order = listed;
    answer_is = refl;
  }

-- ---- a call for the inputs

module _ (old mid new : RootView) (queried : QueryView) (specifier : List ℕ) (same : specifier ≡ queried.specifier) (grown : HasGrown old mid)
    (stored : mid ≡ root_with_stored_module old (resolved_module_specifier old.graph specifier)) where
  abbrev query : QueryView
  query = inputs_query queried

  stored_for_query : mid ≡ root_with_stored_module old (resolved_module_specifier old.graph query.specifier)
  stored_for_query = subst (λ (text : List ℕ). mid ≡ root_with_stored_module old (resolved_module_specifier old.graph text)) same stored

  -- the number of the module that the specifier resolves to
  pub resolved_in : (found : Option ModuleId)
      → option_map (maybe_specifier mid) found ≡ option_map (λ (s : List ℕ). Some s) (resolved_module_specifier old.graph specifier)
      → option_map (maybe_specifier mid) found ≡ option_map (λ (s : List ℕ). Some s) (resolved_module_specifier mid.graph queried.specifier)
  resolved_in found gives =
      gives ∙ (λ i. option_map (λ (s : List ℕ). Some s) (resolved_module_specifier (sym grown.graph i) (same i)))

  inputs_given : (inputs : List InputView) → length (seen_specifiers mid.graph query) ≤ 2 ^ 63 → inputs ≡ inputs_of_query mid.graph query
      → AreRequestedModulesStored new query → IsQueryAnswerReturned old new query (answer_inputs inputs)
  inputs_given inputs few listed modules = record {
    answers = ap (λ (list : List InputView). Some (answer_inputs list)) (sym (subst (λ (g : GraphView). inputs ≡ inputs_of_query g query) grown.graph listed));
    is_right_answer = subst (λ (g : GraphView). IsAnswerOfInputs g query (answer_inputs inputs)) grown.graph (inputs_mean mid.graph query inputs few listed);
    stored = modules;
  }

  needed_before : (v : List ℕ) → IsNeededForInputs mid.graph query v → IsNeededForInputs old.graph query v
  needed_before v needed = subst (λ (g : GraphView). IsNeededForInputs g query v) grown.graph needed

  pub inputs_returned : (result : Result (Vec QueryInput Global) SymbolsFault)
      → IfOk result (λ inputs. map input_view inputs.items ≡ inputs_of_query mid.graph queried)
      → OnOk result (length (seen_specifiers mid.graph queried) ≤ 2 ^ 63) → OnOk result (AreRequestedModulesStored new queried)
      → IfOk result (λ inputs. IsQueryAnswerReturned old new query (inputs_view inputs))
  inputs_returned (Ok inputs) listed few modules = inputs_given (map input_view inputs.items) few listed modules
  inputs_returned (Err f) listed few modules = tt

  pub inputs_refused : (f : SymbolsFault) → HasGrown mid new → AreNewlyStoredAmong mid new (IsNeededForInputs mid.graph query)
      → IsFaultOfStoringOneOf new (IsNeededForInputs mid.graph query) f → IsQueryFault old new query f
  inputs_refused f further only refused = inr (inr (record {
    has_answer = λ none. none-some (answer_inputs (inputs_of_query old.graph query)) (sym none);
    stored = subst (λ (root : RootView). HasGrown root new) stored_for_query further;
    are_newly_stored_for_queries = subst (λ (root : RootView). AreNewlyStoredAmong root new (IsNeededForInputs old.graph query)) stored_for_query
        (newly_stored_among_more only needed_before);
    needed = refused.needed;
    is_needed = λ v e. needed_before v (refused.is_needed v e);
    refused = refused.refused;
  }))

  pub stores_for_inputs : AreNewlyStoredAmong old mid (CanBeStoredByQuery old.rules old.graph query) → AreNewlyStoredAmong mid new
      (IsNeededForInputs mid.graph query)
      → AreNewlyStoredAmong old new (CanBeStoredByQuery old.rules old.graph query)
  stores_for_inputs first then = newly_stored_by_two_calls first then (λ v needed. inr (needed_before v needed))
