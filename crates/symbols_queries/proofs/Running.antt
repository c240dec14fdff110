-- A query by the module that its specifier resolves to, and queries one after the other.
use Rattle.std.proofs.Common.{◌≡◌, ℕ, ◌+◌, ◌<◌, ◌≤◌, inl, inr, List, [], ◌∷◌, ◌++◌, length, map, take}
use Rattle.std.proofs.Common.{drop, get_or, Option, None, Some, option_map, refl, sym, ap, subst, ◌∙◌, arith}
use Rattle.std.specs.Prelude.{◌⊎◌, All, MatchOption, IfSome, Result, Ok, Err, IfErr}
use Rattle.std.specs.List.{AllZip}
use Rattle.std.specs.Option.{option_map_or}
use Rattle.std.specs.Result.{IsErrAnd}
use Rattle.std.proofs.lemmas.List.{take-append-drop, drop_more, take_more, take_all, map-append}
use Rattle.std.proofs.lemmas.List.Elements.{All-nil, All-cons, Contains-append_left, Contains-append_right, Contains-get_or}
use Rattle.std.proofs.lemmas.Option.{none-some, same_Some}
use Rattle.symbols_ast.specs.declared.ids.ModuleId.{ModuleId}
use Rattle.symbols_ast.specs.Graph.{GraphView, ModuleView}
use Rattle.symbols_table.specs.declared.info.fault.SymbolsFault.{SymbolsFault}
use Rattle.symbols_table.specs.declared.info.fault.SymbolsFault.TheVariants as fault
use Rattle.symbols_root.specs.declared.rules.Rules.{Rules}
use Rattle.symbols_root.specs.Growing.{HasGrown}
use Rattle.symbols_root.specs.Calls.{IsUnstoredOrHasTypesDependency}
use Rattle.symbols_root.specs.Roots.{RootView, root_with_stored_module, maybe_specifier, specifier_in, IsStoringFault}
use Rattle.symbols_root.specs.TypesChains.{types_chain, resolved_module_specifier, IsUniqueTypesChain}
use Rattle.symbols_root.specs.laws.Growing.{has_grown_refl, has_grown_trans, has_grown_by_stored_module}
use Rattle.symbols_root.specs.laws.Numbers.{id_is_that_of_found_module, no_id_no_module_found}
use Rattle.symbols_exports.specs.Chains.{IsReachedByStars}
use Rattle.symbols_exports.specs.StarStatements.{star_targets_of}
use Rattle.symbols_answers.specs.Questions.{QueryForm, for_answer, for_inputs, QueryView, IsSpecifierRequestedByQuery}
use Rattle.symbols_answers.specs.Answers.{AnswerView, answer_no_module, question_answer, answer_in_form, query_answer, IsAnswerToQuestion}
use Rattle.symbols_answers.specs.Answers.{last_analyzable_module, IsAnswerInForm, IsAnswerToQuery, modules_of_answer, AreAnswerModulesStored}
use Rattle.symbols_answers.specs.Answers.{AreRequestedModulesStored, AreModulesStoredInForm, AreQueryModulesStored}
use Rattle.symbols_paths.specs.NeededModules.{AreNewlyStoredAmong}
use Rattle.symbols_paths.specs.laws.Storing.{newly_stored_none, newly_stored_among_more, newly_stored_by_two_calls, newly_stored_needed_module}
use Rattle.symbols_queries.specs.declared.query.Answer.{Answer}
use Rattle.symbols_queries.specs.declared.query.Query.{Query}
use Rattle.symbols_queries.specs.Queries.{query_view, answer_view, IsOtherModuleNeededByQuestion, IsNeededInForm, IsOtherModuleNeededByQuery}
use Rattle.symbols_queries.specs.Queries.{CanBeStoredByQuery, CanBeStoredByQueries, IsQueryFault, HasAnswerWithModulesStored, IsOutOfMemoryAfterAnswer}
use Rattle.symbols_queries.specs.Queries.{IsQueryListFault}
use Rattle.symbols_queries.specs.inner.Given.{IsQuestionAnswerReturned, IsQueryAnswerReturned}
use Rattle.symbols_queries.specs.inner.QueryFaults.{IsQuestionFault}
use Rattle.symbols_queries.proofs.Storing.{all_still_there, still_there}

-- ---- a query, by the module that its specifier resolves to

-- the module that the specifier resolves to, by its number in the root that has stored it
pub record IsQueried (old mid : RootView) (module_id : ModuleId) (query : QueryView) : Type 0 where
  pub grown : HasGrown old mid
  pub stored : mid ≡ root_with_stored_module old (resolved_module_specifier old.graph query.specifier)
  pub occurs : resolved_module_specifier old.graph query.specifier ≡ Some (specifier_in mid module_id)
  pub within : module_id.0 < length mid.stored
  pub chain : IsUniqueTypesChain old.graph query.specifier (types_chain old.graph query.specifier)

pub queried_first : (old mid : RootView) (module_id : ModuleId) (specifier : List ℕ) (query : QueryView) → specifier ≡ query.specifier
    → mid ≡ root_with_stored_module old (resolved_module_specifier old.graph specifier) → Some (maybe_specifier mid module_id)
    ≡ option_map (λ (s : List ℕ). Some s) (resolved_module_specifier old.graph specifier)
    → IsUniqueTypesChain old.graph specifier (types_chain old.graph specifier) → IsQueried old mid module_id query
queried_first old mid module_id specifier query same stored gives chain =
    let found = id_is_that_of_found_module mid module_id (resolved_module_specifier old.graph specifier) gives in
    record {
      grown = subst (HasGrown old) (sym stored) (has_grown_by_stored_module old (resolved_module_specifier old.graph specifier));
      stored = subst (λ (text : List ℕ). mid ≡ root_with_stored_module old (resolved_module_specifier old.graph text)) same stored;
      occurs = subst (λ (text : List ℕ). resolved_module_specifier old.graph text ≡ Some (specifier_in mid module_id)) same found.is;
      within = found.within;
      chain = subst (λ (text : List ℕ). IsUniqueTypesChain old.graph text (types_chain old.graph text)) same chain;
    }

-- what holds of the module that a specifier resolves to, or if it resolves to none
on_resolved : (found : Option ModuleView) (m : List ℕ) (P : Type 0) (Q : List ℕ → Type 0) → option_map (λ (it : ModuleView). it.specifier) found ≡ Some m → Q m
    → MatchOption found P (λ (it : ModuleView). Q it.specifier)
on_resolved None m P Q e is = absurd (none-some m e)
on_resolved (Some it) m P Q e is = subst Q (sym (same_Some it.specifier m e)) is

on_none : (found : Option ModuleView) (P : Type 0) (Q : List ℕ → Type 0) → option_map (λ (it : ModuleView). it.specifier) found ≡ None → P
    → MatchOption found P (λ (it : ModuleView). Q it.specifier)
on_none None P Q e is = is
on_none (Some it) P Q e is = absurd (none-some it.specifier (sym e))

answer_by : (rules : Rules) (graph : GraphView) (query : QueryView) (found : Option (List ℕ)) → query.form ≡ for_answer
    → resolved_module_specifier graph query.specifier ≡ found
    → query_answer rules graph query ≡ option_map_or (λ (m : List ℕ). question_answer rules graph m query.question) found (Some answer_no_module)
answer_by rules graph query found form occurs =
    ap (λ f. answer_in_form f rules graph query) form
    ∙ ap (λ it. option_map_or (λ (m : List ℕ). question_answer rules graph m query.question) it (Some answer_no_module)) occurs

-- the answer on the module is the answer to the query
answer_is : (old mid : RootView) (query : QueryView) (specifier : List ℕ)
    → query.form ≡ for_answer → HasGrown old mid → resolved_module_specifier old.graph query.specifier
    ≡ Some specifier → query_answer old.rules old.graph query ≡ question_answer mid.rules mid.graph specifier query.question
answer_is old mid query specifier form grown occurs =
    answer_by old.rules old.graph query (Some specifier) form occurs ∙ (λ i. question_answer (sym grown.rules i) (sym grown.graph i) specifier query.question)

pub query_given : (old mid new : RootView) (module_id : ModuleId) (query : QueryView) (given : AnswerView)
    → query.form ≡ for_answer → IsQueried old mid module_id query
    → HasGrown mid new → IsQuestionAnswerReturned mid new (specifier_in mid module_id) query.question given → IsQueryAnswerReturned old new query given
query_given old mid new module_id query given form queried grown is =
    record {
      answers = answer_is old mid query (specifier_in mid module_id) form queried.grown queried.occurs ∙ is.answers;
      is_right_answer = subst (λ f. IsAnswerInForm f old.rules old.graph query given) (sym form) (record {
        chain = types_chain old.graph query.specifier;
        is_chain = queried.chain;
        is_right_answer = on_resolved (last_analyzable_module (types_chain old.graph query.specifier)) (specifier_in mid module_id) (given ≡ answer_no_module)
            (λ (m : List ℕ). IsAnswerToQuestion old.rules old.graph m query.question given) queried.occurs
            (subst (λ (g : GraphView). IsAnswerToQuestion old.rules g (specifier_in mid module_id) query.question given) queried.grown.graph
            (subst (λ (r : Rules). IsAnswerToQuestion r mid.graph (specifier_in mid module_id) query.question given) queried.grown.rules is.is_right_answer));
      });
      stored = subst (λ f. AreModulesStoredInForm f new query given) (sym form)
          (subst (λ found. IfSome found (λ (m : List ℕ). AreAnswerModulesStored new m query.question given))
          (sym (ap (λ (g : GraphView). resolved_module_specifier g query.specifier) (grown.graph ∙ queried.grown.graph) ∙ queried.occurs)) is.stored);
    }

-- the specifier resolves to no module
pub none_given : (old mid : RootView) (specifier : List ℕ) (query : QueryView) → query.form ≡ for_answer → specifier ≡ query.specifier → HasGrown old mid
    → None ≡ option_map (λ (s : List ℕ). Some s) (resolved_module_specifier old.graph specifier)
    → IsUniqueTypesChain old.graph specifier (types_chain old.graph specifier) → IsQueryAnswerReturned old mid query answer_no_module
none_given old mid specifier query form same grown gives chain =
    let occurs : resolved_module_specifier old.graph query.specifier ≡ None =
    subst (λ (text : List ℕ). resolved_module_specifier old.graph text ≡ None) same
    (no_id_no_module_found (resolved_module_specifier old.graph specifier) gives) in
    record {
      answers = answer_by old.rules old.graph query None form occurs;
      is_right_answer = subst (λ f. IsAnswerInForm f old.rules old.graph query answer_no_module) (sym form) (record {
        chain = types_chain old.graph query.specifier;
        is_chain = subst (λ (text : List ℕ). IsUniqueTypesChain old.graph text (types_chain old.graph text)) same chain;
        is_right_answer = on_none (last_analyzable_module (types_chain old.graph query.specifier)) (answer_no_module ≡ answer_no_module)
            (λ (m : List ℕ). IsAnswerToQuestion old.rules old.graph m query.question answer_no_module) occurs refl;
      });
      stored = subst (λ f. AreModulesStoredInForm f mid query answer_no_module) (sym form)
          (subst (λ found. IfSome found (λ (m : List ℕ). AreAnswerModulesStored mid m query.question answer_no_module))
          (sym (ap (λ (g : GraphView). resolved_module_specifier g query.specifier) grown.graph ∙ occurs)) tt);
    }

-- ---- what a query stores

-- the module that the specifier resolves to
pub stores_queried : (old mid : RootView) (specifier : List ℕ) (query : QueryView) → specifier ≡ query.specifier
    → mid ≡ root_with_stored_module old (resolved_module_specifier old.graph specifier)
    → AreNewlyStoredAmong old mid (CanBeStoredByQuery old.rules old.graph query)
stores_queried old mid specifier query same stored = newly_stored_among_more
    (newly_stored_needed_module old mid (resolved_module_specifier old.graph specifier) stored)
    (λ v e. inl (subst (λ (text : List ℕ). resolved_module_specifier old.graph text ≡ Some v) same e))

needed_by_query : (old mid : RootView) (module_id : ModuleId) (query : QueryView) → query.form ≡ for_answer → IsQueried old mid module_id query → (v : List ℕ)
    → IsOtherModuleNeededByQuestion mid.rules mid.graph (specifier_in mid module_id) query.question v → IsOtherModuleNeededByQuery old.rules old.graph query v
needed_by_query old mid module_id query form queried v needed = subst (λ f. IsNeededInForm f old.rules old.graph query v) (sym form) (
  specifier_in mid module_id,
  queried.occurs,
  subst (λ (g : GraphView). IsOtherModuleNeededByQuestion old.rules g (specifier_in mid module_id) query.question v) queried.grown.graph
      (subst (λ (r : Rules). IsOtherModuleNeededByQuestion r mid.graph (specifier_in mid module_id) query.question v) queried.grown.rules needed),
)

-- and those that the question needs
pub stores_for_query : (old mid new : RootView) (module_id : ModuleId) (query : QueryView) → query.form ≡ for_answer → IsQueried old mid module_id query
    → AreNewlyStoredAmong old mid (CanBeStoredByQuery old.rules old.graph query)
    → AreNewlyStoredAmong mid new (IsOtherModuleNeededByQuestion mid.rules mid.graph (specifier_in mid module_id) query.question)
    → AreNewlyStoredAmong old new (CanBeStoredByQuery old.rules old.graph query)
stores_for_query old mid new module_id query form queried first then =
    newly_stored_by_two_calls first then (λ v needed. inr (needed_by_query old mid module_id query form queried v needed))

-- ---- why a query fails

pub query_refused : (old mid new : RootView) (module_id : ModuleId) (query : QueryView) (f : SymbolsFault)
    → query.form ≡ for_answer → IsQueried old mid module_id query
    → HasGrown mid new → AreNewlyStoredAmong mid new (IsOtherModuleNeededByQuestion mid.rules mid.graph (specifier_in mid module_id) query.question)
    → IsQuestionFault mid new (specifier_in mid module_id) query.question f → IsQueryFault old new query f
query_refused old mid new module_id query f form queried grown only (inl is) = inl (record {
  no_answer = answer_is old mid query (specifier_in mid module_id) form queried.grown queried.occurs ∙ is.no_answer_in_module;
  fault_is = is.fault_is;
  stored = is.unchanged ∙ queried.stored;
})
query_refused old mid new module_id query f form queried grown only (inr is) = inr (inr (record {
  has_answer = λ no_answer_in_module. is.has_answer (sym (answer_is old mid query (specifier_in mid module_id) form queried.grown queried.occurs)
      ∙ no_answer_in_module);
  stored = subst (λ (root : RootView). HasGrown root new) queried.stored grown;
  are_newly_stored_for_queries = subst (λ (root : RootView). AreNewlyStoredAmong root new (IsOtherModuleNeededByQuery old.rules old.graph query)) queried.stored
      (newly_stored_among_more only (needed_by_query old mid module_id query form queried));
  needed = is.needed;
  is_needed = λ v e. needed_by_query old mid module_id query form queried v (is.is_needed v e);
  refused = is.refused;
}))

pub module_refused : (old new : RootView) (specifier : List ℕ) (query : QueryView) (f : SymbolsFault) → specifier ≡ query.specifier → new ≡ old
    → IsStoringFault old (resolved_module_specifier old.graph specifier) f → IsUnstoredOrHasTypesDependency old specifier → IsQueryFault old new query f
module_refused old new specifier query f same unchanged refusal can_fail =
    inr (inl (record {
      refused = subst (λ (text : List ℕ). IsStoringFault old (resolved_module_specifier old.graph text) f) same refusal;
      can_fail = subst (IsUnstoredOrHasTypesDependency old) same can_fail;
      unchanged = unchanged;
    }))

-- ---- queries one after the other

module _ {A B : Type 0} where
  zip_more : (R : A → B → Type 0) (xs : List A) (ys : List B) (x : A) (y : B) → AllZip R xs ys → R x y → AllZip R (xs ++ x ∷ []) (ys ++ y ∷ [])
  zip_more R [] [] x y all next = (next, tt)
  zip_more R [] (b ∷ ys) x y all next = absurd all
  zip_more R (a ∷ xs) [] x y all next = absurd all
  zip_more R (a ∷ xs) (b ∷ ys) x y all next = (all.0, zip_more R xs ys x y all.1 next)

  pub zip_weaker : (R S : A → B → Type 0) → ((x : A) (y : B) → R x y → S x y) → (xs : List A) (ys : List B) → AllZip R xs ys → AllZip S xs ys
  zip_weaker R S less [] [] all = tt
  zip_weaker R S less [] (b ∷ ys) all = absurd all
  zip_weaker R S less (a ∷ xs) [] all = absurd all
  zip_weaker R S less (a ∷ xs) (b ∷ ys) all = (less a b all.0, zip_weaker R S less xs ys all.1)

  -- lists that agree at each index are equal
  zip_same : {C : Type 0} (f : A → C) (g : B → C) (xs : List A) (ys : List B) → AllZip (λ x y. f x ≡ g y) xs ys → map g ys ≡ map f xs
  zip_same f g [] [] all = refl
  zip_same f g [] (b ∷ ys) all = absurd all
  zip_same f g (a ∷ xs) [] all = absurd all
  zip_same f g (a ∷ xs) (b ∷ ys) all = λ i. sym all.0 i ∷ zip_same f g xs ys all.1 i

  -- a property implied by the relation at each index holds of the first list
  zip_first : (P : A → Type 0) (R : A → B → Type 0) → ((x : A) (y : B) → R x y → P x) → (xs : List A) (ys : List B) → AllZip R xs ys → All P xs
  zip_first P R of [] ys all = All-nil P
  zip_first P R of (a ∷ xs) [] all = absurd all
  zip_first P R of (a ∷ xs) (b ∷ ys) all = All-cons P a xs (of a b all.0) (zip_first P R of xs ys all.1)

abbrev pub answer_named : Answer → Option AnswerView
answer_named given = Some (answer_view given)

abbrev pub answer_to : Rules → GraphView → Query → Option AnswerView
answer_to rules graph query = query_answer rules graph (query_view query)

-- a returned answer is right, in the root at a later time
abbrev pub IsNamed : RootView → RootView → Query → Answer → Type 0
IsNamed old now query given = IsQueryAnswerReturned old now (query_view query) (answer_view given)

pub record AreAnswered (old now : RootView) (answers : List Answer) (queries : List Query) (index : ℕ) : Type 0 where
  pub grown : HasGrown old now
  pub named_form : AllZip (IsNamed old now) (take index queries) answers
  pub are_newly_stored_for_queries : AreNewlyStoredAmong old now (CanBeStoredByQueries old.rules old.graph (map query_view (take index queries)))

pub answered_first : (root : RootView) (answers : List Answer) (queries : List Query) → answers ≡ [] → AreAnswered root root answers queries 0
answered_first root answers queries none_yet =
    record {
      grown = has_grown_refl root;
      named_form = subst (AllZip (IsNamed root root) []) (sym none_yet) tt;
      are_newly_stored_for_queries =
          newly_stored_none root;
    }

-- the modules of some queries, and of one after them
stores_further : (old mid new : RootView) (before : List Query) (query : Query) → HasGrown old mid
    → AreNewlyStoredAmong old mid (CanBeStoredByQueries old.rules old.graph (map query_view before))
    → AreNewlyStoredAmong mid new (CanBeStoredByQuery mid.rules mid.graph (query_view query))
    → AreNewlyStoredAmong old new (CanBeStoredByQueries old.rules old.graph (map query_view (before ++ query ∷ [])))
stores_further old mid new before query grown first then = subst (λ (qs : List QueryView). AreNewlyStoredAmong old new
    (CanBeStoredByQueries old.rules old.graph qs))
    (sym (map-append query_view before (query ∷ []))) (newly_stored_by_two_calls (newly_stored_among_more first earlier) then this)
  where
    all : List QueryView
    all = map query_view before ++ query_view query ∷ []

    earlier : (v : List ℕ) → CanBeStoredByQueries old.rules old.graph (map query_view before) v → CanBeStoredByQueries old.rules old.graph all v
    earlier v s = (s.0, Contains-append_left (map query_view before) (query_view query ∷ []) s.0 s.1, s.2)

    this : (v : List ℕ) → CanBeStoredByQuery mid.rules mid.graph (query_view query) v → CanBeStoredByQueries old.rules old.graph all v
    this v s = (
      query_view query,
      Contains-append_right (map query_view before) (query_view query ∷ []) (query_view query)
          (Contains-get_or (query_view query ∷ []) 0 (query_view query) (omega arith)),
      subst (λ (g : GraphView). CanBeStoredByQuery old.rules g (query_view query) v) grown.graph
          (subst (λ (r : Rules). CanBeStoredByQuery r mid.graph (query_view query) v) grown.rules s),
    )

-- the queries up to an index
with_this : (queries : List Query) (index : ℕ) (query : Query) → index < length queries → query ≡ get_or queries index query
    → take index queries ++ query ∷ [] ≡ take (index + 1) queries
with_this queries index query within at = ap (λ q. take index queries ++ q ∷ []) at ∙ sym (take_more queries index query within)

stores_for_all : (old new : RootView) (queries : List Query) (index : ℕ)
    → AreNewlyStoredAmong old new (CanBeStoredByQueries old.rules old.graph (map query_view (take index queries)))
    → AreNewlyStoredAmong old new (CanBeStoredByQueries old.rules old.graph (map query_view queries))
stores_for_all old new queries index is = subst (λ (qs : List Query). AreNewlyStoredAmong old new (CanBeStoredByQueries old.rules old.graph
    (map query_view qs)))
    (take-append-drop index queries) (subst (λ (qs : List QueryView). AreNewlyStoredAmong old new (CanBeStoredByQueries old.rules old.graph qs))
    (sym (map-append query_view (take index queries) (drop index queries))) (newly_stored_among_more is earlier))
  where
    earlier : (v : List ℕ) → CanBeStoredByQueries old.rules old.graph (map query_view (take index queries)) v
        → CanBeStoredByQueries old.rules old.graph (map query_view (take index queries) ++ map query_view (drop index queries)) v
    earlier v s = (s.0, Contains-append_left (map query_view (take index queries)) (map query_view (drop index queries)) s.0 s.1, s.2)

-- up to a query that was answered or failed
pub stores_up_to : (old mid new : RootView) (answers : List Answer) (queries : List Query) (index : ℕ) (query : Query)
    → AreAnswered old mid answers queries index → index < length queries → query ≡ get_or queries index query
    → AreNewlyStoredAmong mid new (CanBeStoredByQuery mid.rules mid.graph (query_view query))
    → AreNewlyStoredAmong old new (CanBeStoredByQueries old.rules old.graph (map query_view queries))
stores_up_to old mid new answers queries index query is within at then = stores_for_all old new queries (index + 1)
    (subst (λ (qs : List Query). AreNewlyStoredAmong old new (CanBeStoredByQueries old.rules old.graph (map query_view qs)))
    (with_this queries index query within at)
    (stores_further old mid new (take index queries) query is.grown is.are_newly_stored_for_queries then))

-- and after all of them
pub stores_last : (old new : RootView) (answers : List Answer) (queries : List Query) (index : ℕ) → AreAnswered old new answers queries index
    → AreNewlyStoredAmong old new (CanBeStoredByQueries old.rules old.graph (map query_view queries))
stores_last old new answers queries index is = stores_for_all old new queries index is.are_newly_stored_for_queries

-- it is right in a root that has stored more
still_stored_by_module : (old new : RootView) (query : QueryView) (given : AnswerView) → HasGrown old new → AreModulesStoredInForm for_answer old query given
    → AreModulesStoredInForm for_answer new query given
still_stored_by_module old new query given grown is = subst (λ (g : GraphView). IfSome (resolved_module_specifier g query.specifier)
    (λ (m : List ℕ). AreAnswerModulesStored new m query.question given)) (sym grown.graph) (by (resolved_module_specifier old.graph query.specifier) is)
  where
    by : (found : Option (List ℕ)) → IfSome found (λ (m : List ℕ). AreAnswerModulesStored old m query.question given)
        → IfSome found (λ (m : List ℕ). AreAnswerModulesStored new m query.question given)
    by None w = tt
    by (Some m) w = record {
      is_queried_stored = still_there old new m grown w.is_queried_stored;
      reached = λ exports end reached. still_there old new end grown
          (w.reached exports end (subst (λ (g : GraphView). IsReachedByStars (star_targets_of g) m end) grown.graph reached));
      are_named_stored = all_still_there old new (modules_of_answer given) grown w.are_named_stored;
    }

still_stored_for_inputs : (old new : RootView) (query : QueryView) → HasGrown old new → AreRequestedModulesStored old query
    → AreRequestedModulesStored new query
still_stored_for_inputs old new query grown stored key v requested at =
    still_there old new v grown (stored key v (subst (λ (g : GraphView). IsSpecifierRequestedByQuery g query key) grown.graph requested)
    (subst (λ (g : GraphView). resolved_module_specifier g key ≡ Some v) grown.graph at))

still_stored_for : (old new : RootView) (query : QueryView) (given : AnswerView) → HasGrown old new → AreQueryModulesStored old query given
    → AreQueryModulesStored new query given
still_stored_for old new query given grown = by query.form
  where
    by : (form : QueryForm) → AreModulesStoredInForm form old query given → AreModulesStoredInForm form new query given
    by for_answer is = still_stored_by_module old new query given grown is
    by for_inputs is = still_stored_for_inputs old new query grown is

still_named : (old now new : RootView) → HasGrown now new → (query : Query) (given : Answer) → IsNamed old now query given → IsNamed old new query given
still_named old now new grown query given is =
    record {
      answers = is.answers;
      is_right_answer = is.is_right_answer;
      stored = still_stored_for now new (query_view query)
          (answer_view given) grown is.stored;
    }

-- it is right for the root as it was at first
named_at_first : (old now new : RootView) (query : Query) (given : Answer) → HasGrown old now → IsNamed now new query given → IsNamed old new query given
named_at_first old now new query given grown is = record {
  answers = (λ i. query_answer (sym grown.rules i) (sym grown.graph i) (query_view query)) ∙ is.answers;
  is_right_answer = subst (λ (g : GraphView). IsAnswerToQuery old.rules g (query_view query) (answer_view given)) grown.graph
      (subst (λ (r : Rules). IsAnswerToQuery r now.graph (query_view query) (answer_view given)) grown.rules is.is_right_answer);
  stored = is.stored;
}

pub answered_on : (old mid new : RootView) (answers further : List Answer) (given : Answer) (queries : List Query) (index : ℕ) (query : Query)
    → AreAnswered old mid answers queries index → index < length queries → query ≡ get_or queries index query → HasGrown mid new → IsNamed mid new query given
    → AreNewlyStoredAmong mid new (CanBeStoredByQuery mid.rules mid.graph (query_view query)) → further ≡ answers ++ given ∷ []
    → AreAnswered old new further queries (index + 1)
answered_on old mid new answers further given queries index query is within at grown named_form then put =
    let before = zip_weaker (IsNamed old mid) (IsNamed old new) (still_named old mid new grown) (take index queries) answers is.named_form in
    let consumed = with_this queries index query within at in
    record {
      grown = has_grown_trans is.grown grown;
      named_form = subst (AllZip (IsNamed old new) (take (index + 1) queries)) (sym put) (subst (λ (qs : List Query). AllZip (IsNamed old new) qs (answers
          ++ given ∷ [])) consumed (zip_more (IsNamed old new) (take index queries) answers query given before
          (named_at_first old mid new query given is.grown named_form)));
      are_newly_stored_for_queries = subst (λ (qs : List Query). AreNewlyStoredAmong old new (CanBeStoredByQueries old.rules old.graph (map query_view qs)))
          consumed
          (stores_further old mid new (take index queries) query is.grown is.are_newly_stored_for_queries then);
    }

pub last_named : (old new : RootView) (answers : List Answer) (queries : List Query) (index : ℕ) → AreAnswered old new answers queries index
    → length queries ≤ index → AllZip (IsNamed old new) queries answers
last_named old new answers queries index is over = subst (λ (qs : List Query). AllZip (IsNamed old new) qs answers) (take_all index queries over) is.named_form

pub same_last : (old new : RootView) (answers : List Answer) (queries : List Query) → AllZip (IsNamed old new) queries answers
    → map answer_named answers ≡ map (answer_to old.rules old.graph) queries
same_last old new answers queries named_form = zip_same (answer_to old.rules old.graph) answer_named queries answers (zip_weaker (IsNamed old new)
    (λ query given. answer_to old.rules old.graph query ≡ answer_named given) (λ query given is. is.answers) queries answers named_form)

-- the queries before are answered
all_answered : (old now : RootView) (queries : List Query) (answers : List Answer) → HasGrown old now → AllZip (IsNamed old now) queries answers
    → All (HasAnswerWithModulesStored now) (map query_view queries)
all_answered old now [] answers grown named_form = All-nil (HasAnswerWithModulesStored now)
all_answered old now (query ∷ queries) [] grown named_form = absurd named_form
all_answered old now (query ∷ queries) (given ∷ answers) grown named_form =
    All-cons (HasAnswerWithModulesStored now) (query_view query) (map query_view queries) (
      answer_view given,
      (λ i. query_answer (grown.rules i) (grown.graph i)
          (query_view query)) ∙ named_form.0.answers,
      named_form.0.stored,
    ) (all_answered old now queries answers grown named_form.1)

pub run_refused : (old mid new : RootView) (answers : List Answer) (queries : List Query) (index : ℕ) (query : Query) (f : SymbolsFault)
    → AreAnswered old mid answers queries index → index < length queries → query ≡ get_or queries index query
    → IsQueryFault mid new (query_view query) f ⊎ IsOutOfMemoryAfterAnswer mid new (query_view query) f → IsQueryListFault old new (map query_view queries) f
run_refused old mid new answers queries index query f is within at fails = record {
  queries_before = map query_view (take index queries);
  query = query_view query;
  queries_after = map query_view (drop (index + 1) queries);
  queries_are_split =
      ap (map query_view) (sym (take-append-drop index queries)
      ∙ ap (λ rest. take index queries ++ rest) (drop_more queries index query within ∙ ap (λ q. q ∷ drop (index + 1) queries) (sym at)))
      ∙ map-append query_view (take index queries) (query ∷ drop (index + 1) queries);
  root_between = mid;
  grown = is.grown;
  are_newly_stored_for_queries = is.are_newly_stored_for_queries;
  answered = all_answered old mid (take index queries) answers is.grown is.named_form;
  query_fails_or_loses_answer = fails;
}

-- an allocation failed for one more answer
pub run_out_of_memory : {A : Type 0} (r : Result A SymbolsFault) (old mid new : RootView) (answers : List Answer) (given : Answer) (queries : List Query)
    (index : ℕ) (query : Query) → AreAnswered old mid answers queries index → index < length queries → query ≡ get_or queries index query
    → HasGrown mid new → IsNamed mid new query given → AreNewlyStoredAmong mid new (CanBeStoredByQuery mid.rules mid.graph (query_view query))
    → IsErrAnd r (λ e. e ≡ fault.OutOfMemory) → IfErr r (IsQueryListFault old new (map query_view queries))
run_out_of_memory (Ok x) old mid new answers given queries index query is within at grown named_form then h = tt
run_out_of_memory (Err e) old mid new answers given queries index query is within at grown named_form then h =
    run_refused old mid new answers queries index query e is within at (inr (record {
      fault_is = h;
      answered = (
        answer_view given,
        (λ i. query_answer (grown.rules i) (grown.graph i) (query_view query)) ∙ named_form.answers,
        named_form.stored,
      );
      grown = grown;
      are_newly_stored_for_queries = then;
    }))
