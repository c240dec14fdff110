-- The loop that requests specifiers, and what it stores.
use Rattle.std.proofs.Common.{◌≡◌, ℕ, zero, suc, ◌+◌, ◌<◌, ◌≤◌, ◌⊎◌, inl, inr, ◌^◌, List, [], ◌∷◌, length, get_or, slice_get}
use Rattle.std.proofs.Common.{Option, None, Some, option_map, sym, ap, subst, ◌∙◌, arith}
use Rattle.std.specs.Prelude.{Contains, Result, Ok, Err}
use Rattle.std.specs.Result.{IsErrAnd}
use Rattle.std.specs.Option.{option_map_or}
use Rattle.std.proofs.lemmas.Option.{none-some, slice_get_within, slice_get_cases, get_or_from_slice_get}
use Rattle.symbols_ast.specs.Graph.{GraphView}
use Rattle.symbols_ast.specs.declared.ids.ModuleId.{ModuleId}
use Rattle.symbols_table.specs.declared.info.fault.SymbolsFault.{SymbolsFault}
use Rattle.symbols_table.specs.declared.info.fault.SymbolsFault.TheVariants.{OutOfMemory}
use Rattle.symbols_root.specs.Growing.{HasGrown}
use Rattle.symbols_root.specs.Roots.{RootView, root_with_stored_module, maybe_specifier, specifier_in, widest_limits, IsStoringFault}
use Rattle.symbols_root.specs.TypesChains.{resolved_module_specifier}
use Rattle.symbols_root.specs.laws.Growing.{has_grown_refl, has_grown_trans, has_grown_by_stored_module}
use Rattle.symbols_root.specs.laws.Calls.{fails_only_for_out_of_memory}
use Rattle.symbols_root.specs.laws.Numbers.{id_is_that_of_found_module, no_id_no_module_found}
use Rattle.symbols_paths.specs.NeededModules.{IsFaultOfStoringOneOf, AreNewlyStoredAmong}
use Rattle.symbols_paths.specs.laws.Storing.{newly_stored_none, newly_stored_by_two_calls, newly_stored_needed_module}
use Rattle.symbols_answers.specs.Questions.{QuestionView, QueryView, IsSpecifierRequestedByQuery, append_resolved_specifiers, list_grown_by_walk_from_index}
use Rattle.symbols_answers.specs.Questions.{walk_limit, followed_specifiers, append_requested_specifiers, append_resolved_import_type, requested_specifiers}
use Rattle.symbols_answers.specs.Answers.{AreRequestedModulesStored}
use Rattle.symbols_answers.specs.laws.Walks.{BeginsWith, beginning_agrees_at_index, appended_list_begins_with_old, walk_past_end_adds_nothing}
use Rattle.symbols_answers.specs.laws.Walks.{walk_takes_step_at_index, step_holds}
use Rattle.symbols_answers.specs.laws.SeenLists.{specifiers_requested_from_module, append_requested_is_step_that_appends, requested_by_requested_is_requested}
use Rattle.symbols_answers.specs.laws.SeenLists.{queried_and_import_type_are_requested, requested_specifiers_are_listed}
use Rattle.symbols_queries.specs.Queries.{IsNeededForInputs}
use Rattle.symbols_queries.specs.inner.SpecifierLists.{HasGrownAndInputsFailOnlyStoring}
use Rattle.symbols_queries.proofs.Storing.{still_there, stored_there}

-- the specifiers before the index have added what they request, and the modules that they resolve to are stored
pub record IsRequesting (old now : RootView) (query : QueryView) (list : List (List ℕ)) (index : ℕ) : Type 0 where
  pub more : ℕ
  pub enough : walk_limit ≤ more + index
  pub walk : list_grown_by_walk_from_index (append_requested_specifiers old.graph query.question) more index list ≡ requested_specifiers old.graph query
  pub grown : HasGrown old now
  pub stores : AreNewlyStoredAmong old now (IsNeededForInputs old.graph query)
  pub sound : (x : List ℕ) → Contains list x → IsSpecifierRequestedByQuery old.graph query x
  pub done : (k : ℕ) → k < index → (d v : List ℕ) → resolved_module_specifier old.graph (get_or list k d) ≡ Some v → Contains now.stored v

pub requesting_first : (root : RootView) (query : QueryView) (list : List (List ℕ)) → list ≡ append_resolved_import_type root.graph query (query.specifier ∷ [])
    → IsRequesting root root query list 0
requesting_first root query list is = record {
  more = walk_limit;
  enough = omega arith;
  walk = ap (list_grown_by_walk_from_index (append_requested_specifiers root.graph query.question) walk_limit 0) is;
  grown = has_grown_refl root;
  stores = newly_stored_none root;
  sound = λ x has. queried_and_import_type_are_requested root.graph query x (subst (λ (l : List (List ℕ)). Contains l x) is has);
  done = λ k before d v at. absurd (omega (arith, before));
}

-- the module that the specifier at the index resolves to is needed
needed_here : (old now : RootView) (query : QueryView) (list : List (List ℕ)) (index : ℕ) (key v : List ℕ) → IsRequesting old now query list index
    → slice_get list index ≡ Some key → resolved_module_specifier now.graph key ≡ Some v → IsNeededForInputs old.graph query v
needed_here old now query list index key v is at resolves = (
  key,
  is.sound key (index, slice_get_within list index key at, get_or_from_slice_get list index key key at),
  subst (λ (g : GraphView). resolved_module_specifier g key ≡ Some v) is.grown.graph resolves,
)

-- the walk has steps left
steps_left : (old now : RootView) (query : QueryView) (list : List (List ℕ)) (index : ℕ) → IsRequesting old now query list index → index < 2 ^ 63
    → (n : ℕ) × (walk_limit ≤ n + (index + 1)) × (list_grown_by_walk_from_index (append_requested_specifiers old.graph query.question) (suc n) index list
    ≡ requested_specifiers old.graph query)
steps_left old now query list index is few = by is.more is.enough is.walk
  where
    by : (more : ℕ) → walk_limit ≤ more + index → list_grown_by_walk_from_index (append_requested_specifiers old.graph query.question) more index list
        ≡ requested_specifiers old.graph query
        → (n : ℕ) × (walk_limit ≤ n + (index + 1))
        × (list_grown_by_walk_from_index (append_requested_specifiers old.graph query.question) (suc n) index list ≡ requested_specifiers old.graph query)
    by zero enough walk = absurd (omega (arith, enough, few))
    by (suc n) enough walk = (n, omega (arith, enough), walk)

-- what is stored when the next specifier is resolved
pub stored_so_far : (old now new : RootView) (query : QueryView) (list : List (List ℕ)) (index : ℕ) (key : List ℕ) → IsRequesting old now query list index
    → slice_get list index ≡ Some key → new ≡ root_with_stored_module now (resolved_module_specifier now.graph key)
    → AreNewlyStoredAmong old new (IsNeededForInputs old.graph query)
stored_so_far old now new query list index key is at stored =
    newly_stored_by_two_calls is.stores (newly_stored_needed_module now new (resolved_module_specifier now.graph key) stored)
    (λ v e. needed_here old now query list index key v is at e)

pub requesting_next : (old now new : RootView) (query : QueryView) (list further : List (List ℕ)) (index : ℕ) (key : List ℕ)
    → IsRequesting old now query list index → length list ≤ 2 ^ 63 → slice_get list index ≡ Some key
    → new ≡ root_with_stored_module now (resolved_module_specifier now.graph key) → further ≡ append_requested_specifiers now.graph query.question key list
    → IsRequesting old new query further (index + 1)
requesting_next old now new query list further index key is few at stored added =
    let within = slice_get_within list index key at in
    let left = steps_left old now query list index is (omega (arith, within, few)) in
    record {
      more = left.0;
      enough = left.1;
      walk = subst (λ (l : List (List ℕ)). list_grown_by_walk_from_index (append_requested_specifiers old.graph query.question) left.0 (index + 1) l
          ≡ requested_specifiers old.graph query)
          (sym added_then) (subst (λ (j : ℕ). list_grown_by_walk_from_index (append_requested_specifiers old.graph query.question) left.0 j
          (append_requested_specifiers old.graph query.question key list)
          ≡ requested_specifiers old.graph query) (omega arith)
          (sym (walk_takes_step_at_index (append_requested_specifiers old.graph query.question) left.0 index list key at) ∙ left.2));
      grown = has_grown_trans is.grown grown_now;
      stores = stored_so_far old now new query list index key is at stored;
      sound = λ x has. step_holds (append_requested_specifiers old.graph query.question) (specifiers_requested_from_module old.graph query.question)
          (append_requested_is_step_that_appends old.graph query.question)
          (IsSpecifierRequestedByQuery old.graph query) (requested_by_requested_is_requested old.graph query) key list here is.sound x
          (subst (λ (l : List (List ℕ)). Contains l x) added_then has);
      done = λ k before d v resolves. elim (before_or_here k (omega (arith, before))) [
        | inl earlier ↦ still_there now new v grown_now (is.done k earlier d v
            (subst (λ (w : List ℕ). resolved_module_specifier old.graph w ≡ Some v) (unchanged k d (omega (arith, earlier, within))) resolves))
        | inr same ↦ this k d v same resolves
      ];
    }
  where
    grown_now : HasGrown now new
    grown_now = subst (HasGrown now) (sym stored) (has_grown_by_stored_module now (resolved_module_specifier now.graph key))

    added_then : further ≡ append_requested_specifiers old.graph query.question key list
    added_then = subst (λ (g : GraphView). further ≡ append_requested_specifiers g query.question key list) is.grown.graph added

    here : IsSpecifierRequestedByQuery old.graph query key
    here = is.sound key (index, slice_get_within list index key at, get_or_from_slice_get list index key key at)

    begins : BeginsWith list further
    begins = subst (BeginsWith list) (sym (added_then ∙ (append_requested_is_step_that_appends old.graph query.question).is key list))
        (appended_list_begins_with_old (specifiers_requested_from_module old.graph query.question key) list)

    unchanged : (k : ℕ) (d : List ℕ) → k < length list → get_or further k d ≡ get_or list k d
    unchanged k d inside = beginning_agrees_at_index list further k d begins inside

    before_or_here : (k : ℕ) → k ≤ index → (k < index) ⊎ (k ≡ index)
    before_or_here k le = grind (arith, le)

    this : (k : ℕ) (d v : List ℕ) → k ≡ index → resolved_module_specifier old.graph (get_or further k d) ≡ Some v → Contains new.stored v
    this k d v same resolves =
        let key_is : get_or further k d ≡ key = ap (λ j. get_or further j d) same
        ∙ (unchanged index d (slice_get_within list index key at) ∙ get_or_from_slice_get list index key d at) in
        let found : resolved_module_specifier now.graph key ≡ Some v =
        subst (λ (g : GraphView). resolved_module_specifier g key ≡ Some v) (sym is.grown.graph)
        (subst (λ (w : List ℕ). resolved_module_specifier old.graph w ≡ Some v) key_is resolves) in
        subst (λ (root : RootView). Contains root.stored v) (sym (stored ∙ ap (root_with_stored_module now) found)) (stored_there now v)

-- the same by the number of the module that the specifier resolves to
pub requesting_next_by : (old now new : RootView) (query : QueryView) (list further : List (List ℕ)) (index : ℕ) (key : List ℕ) (found : Option ModuleId)
    → IsRequesting old now query list index → length list ≤ 2 ^ 63 → slice_get list index ≡ Some key
    → new ≡ root_with_stored_module now (resolved_module_specifier now.graph key) → new.graph ≡ now.graph
    → option_map (maybe_specifier new) found ≡ option_map (λ (s : List ℕ). Some s) (resolved_module_specifier now.graph key)
    → ((k : List ℕ) → option_map (maybe_specifier new) found ≡ option_map (λ (s : List ℕ). Some s) (resolved_module_specifier new.graph k)
    → further ≡ append_requested_specifiers new.graph query.question k list) → IsRequesting old new query further (index + 1)
requesting_next_by old now new query list further index key found is few at stored same gives requests =
    requesting_next old now new query list further index key is few at stored
    (subst (λ (g : GraphView). further ≡ append_requested_specifiers g query.question key list) same (requests key
    (subst (λ (g : GraphView). option_map (maybe_specifier new) found ≡ option_map (λ (s : List ℕ). Some s) (resolved_module_specifier g key)) (sym same)
    gives)))

-- a module that is refused is one that the inputs need
pub requesting_refused : (old now new : RootView) (query : QueryView) (list : List (List ℕ)) (index : ℕ) (key : List ℕ) (f : SymbolsFault)
    → IsRequesting old now query list index → slice_get list index ≡ Some key → new ≡ now
    → IsStoringFault now (resolved_module_specifier now.graph key) f → IsFaultOfStoringOneOf new (IsNeededForInputs old.graph query) f
requesting_refused old now new query list index key f is at unchanged refused = record {
  needed = resolved_module_specifier now.graph key;
  is_needed = λ v e. needed_here old now query list index key v is at e;
  refused = subst (λ (root : RootView). IsStoringFault root (resolved_module_specifier now.graph key) f) (sym unchanged) refused;
}

-- at the end all are listed, and the modules that they resolve to are stored
pub requesting_over : (old now : RootView) (query : QueryView) (list : List (List ℕ)) (index : ℕ) → IsRequesting old now query list index
    → slice_get list index ≡ None → list ≡ requested_specifiers old.graph query
requesting_over old now query list index is past = sym (walk_past_end_adds_nothing (append_requested_specifiers old.graph query.question) is.more index list
    past) ∙ is.walk

pub requested_stored : (old now : RootView) (query : QueryView) (list : List (List ℕ)) (index : ℕ) → IsRequesting old now query list index
    → length list ≤ 2 ^ 63 → slice_get list index ≡ None → AreRequestedModulesStored now query
requested_stored old now query list index is few past key v requested resolves =
    let over = requesting_over old now query list index is past in
    let listed = requested_specifiers_are_listed old.graph query (omega (arith, few, ap length over)) key
    (subst (λ (g : GraphView). IsSpecifierRequestedByQuery g query key) is.grown.graph requested) in
    let at = subst (λ (l : List (List ℕ)). Contains l key) (sym over) listed in
    is.done at.0 (inside at.0 at.1) key v (subst (λ (w : List ℕ). resolved_module_specifier old.graph w ≡ Some v) (sym at.2)
    (subst (λ (g : GraphView). resolved_module_specifier g key ≡ Some v) is.grown.graph resolves))
  where
    inside : (k : ℕ) → k < length list → k < index
    inside k within = elim (slice_get_cases list index).1 [
      | inl found ↦ absurd (none-some found.0 (sym past ∙ found.2))
      | inr after ↦ omega (arith, within, after.0)
    ]

-- ---- what a specifier requests

pub requests_found : (root : RootView) (question : QuestionView) (module_id : ModuleId) (key : List ℕ) (list new : List (List ℕ))
    → Some (maybe_specifier root module_id) ≡ option_map (λ s. Some s) (resolved_module_specifier root.graph key)
    → new ≡ append_resolved_specifiers root.graph (specifier_in root module_id) list (followed_specifiers root.graph question (specifier_in root module_id))
    → new ≡ append_requested_specifiers root.graph question key list
requests_found root question module_id key list new gives added =
    added ∙ sym (ap (λ (found : Option (List ℕ)). option_map_or (λ u. append_resolved_specifiers root.graph u list (followed_specifiers root.graph question u))
    found list) (id_is_that_of_found_module root module_id (resolved_module_specifier root.graph key) gives).is)

pub nothing_requested : (root : RootView) (question : QuestionView) (key : List ℕ) (list new : List (List ℕ))
    → None ≡ option_map (λ (s : List ℕ). Some s) (resolved_module_specifier root.graph key) → new ≡ list → new ≡ append_requested_specifiers root.graph question
    key list
nothing_requested root question key list new gives same =
    same ∙ sym (ap (λ (found : Option (List ℕ)). option_map_or (λ u. append_resolved_specifiers root.graph u list (followed_specifiers root.graph question u))
    found list) (no_id_no_module_found (resolved_module_specifier root.graph key) gives))

-- ---- of a call

-- stored modules stay, and what is stored and refused is what the inputs need
pub keeps_at_err : {A : Type 0} (old now new : RootView) (query : QueryView) (list : List (List ℕ)) (index : ℕ) (key : List ℕ) (f : SymbolsFault)
    → IsRequesting old now query list index → slice_get list index ≡ Some key → new ≡ now → HasGrown now new
    → IsStoringFault now (resolved_module_specifier now.graph key) f → (now.limits ≡ widest_limits → f ≡ OutOfMemory)
    → HasGrownAndInputsFailOnlyStoring {A = A} old new query (Err f)
keeps_at_err old now new query list index key f is at unchanged grown refused enough = record {
  keeps = record {
    grown = has_grown_trans is.grown grown;
    refused = requesting_refused old now new query list index key f is at unchanged refused;
    enough = λ wide. enough (is.grown.limits ∙ wide);
  };
  stores = subst (λ (root : RootView). AreNewlyStoredAmong old root (IsNeededForInputs old.graph query)) (sym unchanged) is.stores;
}

pub keeps_out_of_memory : {A : Type 0} (old new : RootView) (query : QueryView) (result : Result A SymbolsFault) → HasGrown old new
    → AreNewlyStoredAmong old new (IsNeededForInputs old.graph query) → IsErrAnd result (λ f. f ≡ OutOfMemory) → HasGrownAndInputsFailOnlyStoring old new query
    result
keeps_out_of_memory old new query result grown stores is = record {
  keeps = fails_only_for_out_of_memory result grown is (record { needed = None; is_needed = λ v e. absurd (none-some v e); refused = tt });
  stores = stores;
}

pub keeps_at_ok : {A : Type 0} (old new : RootView) (query : QueryView) (x : A) → HasGrown old new → AreNewlyStoredAmong old new
    (IsNeededForInputs old.graph query)
    → HasGrownAndInputsFailOnlyStoring old new query (Ok x)
keeps_at_ok old new query x grown stores = record { keeps = record { grown = grown; refused = tt; enough = λ wide. tt }; stores = stores }
