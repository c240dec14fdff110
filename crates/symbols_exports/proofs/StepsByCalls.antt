-- The steps of the walk, by the contracts of the calls in its body, over the root at that time.
use Rattle.std.proofs.Common.{◌≡◌, ℕ, zero, suc, ◌+◌, ◌<◌, ◌≤◌, ◌^◌, Bool, true, false, ◌||◌, not, cond, List, [], ◌∷◌, ◌++◌}
use Rattle.std.proofs.Common.{length, map, get_or, slice_get, Option, None, Some, Bor, refl, sym, ap, subst, ◌∙◌, arith, true≢false}
use Rattle.std.specs.Prelude.{Contains, if◌then◌else◌}
use Rattle.std.specs.List.{IsDistinct, list_any, position_or_len}
use Rattle.std.specs.Option.{option_map}
use Rattle.std.specs.Str.{bytes_eq}
use Rattle.indexmap.specs.IndexSet.{insert_key}
use Rattle.std.proofs.lemmas.List.{length-map}
use Rattle.std.proofs.lemmas.List.Elements.{Contains-get_or}
use Rattle.std.proofs.lemmas.Cmp.{nat_list_eq_equiv}
use Rattle.std.proofs.lemmas.List.Folds.{list_any_at}
use Rattle.std.proofs.lemmas.List.Sums.{sum_by-le}
use Rattle.std.proofs.lemmas.Option.{none-some, slice_get_within, get_or_from_slice_get, same_Some}
use Rattle.symbols_ast.specs.declared.ids.ModuleId.{ModuleId}
use Rattle.symbols_ast.specs.Graph.{ModuleView}
use Rattle.symbols_table.specs.declared.info.fault.SymbolsFault.{SymbolsFault}
use Rattle.symbols_table.specs.declared.info.fault.SymbolsFault.TheVariants.{OutOfMemory}
use Rattle.symbols_root.specs.Specifiers.{module_with_specifier, contains_specifier}
use Rattle.symbols_root.specs.Roots.{RootView, root_with_stored_module, maybe_specifier, IsStoringFault, specifier_in}
use Rattle.symbols_exports.specs.declared.frame.Frame.{Frame}
use Rattle.symbols_exports.specs.declared.name_filter.NameFilter.{NameFilter}
use Rattle.symbols_exports.specs.StarStatements.{star_specifiers, resolve_specifier, star_targets_of}
use Rattle.symbols_exports.specs.inner.Collecting.{CollectedView, nothing_collected, is_same_module, frame_view}
use Rattle.symbols_exports.specs.inner.NameFilter.{is_name_search_done}
use Rattle.symbols_exports.proofs.CandidatesOfWalk.{graph_with_put_module}
use Rattle.symbols_exports.proofs.VisitedModules.{visited_modules, among_is_visited, among_stored, stored_already, still_once}
use Rattle.symbols_exports.proofs.IdsInGrownRoots.{number_retained, number_among, same_under, still_within}
use Rattle.symbols_exports.proofs.Cursors.{Visit}
use Rattle.symbols_exports.proofs.StoringWalk.{IsWalking, walking_first, all_few, statements_counted}
use Rattle.symbols_exports.proofs.StepStoresNothing.{walking_graph, walking_rules, is_one, walking_unresolved, walking_visited}
use Rattle.symbols_exports.proofs.StepVisitsModule.{module_collected, walking_entered}
use Rattle.symbols_exports.proofs.WalkEndsByFilter.{IsCut, cut_first, cut_refused, cut_unresolved, cut_stored}
use Rattle.symbols_exports.proofs.WalkEndsOrBreaks.{not_visited}
use Rattle.symbols_exports.proofs.WalkTerminates.{work_left, next_less, entered_less}

-- ---- the start

pub begun : (name_filter : NameFilter) (old : RootView) (start : ModuleId) → start.0 < length old.stored
    → IsWalking name_filter old start old start 0 [] (start ∷ []) (graph_with_put_module name_filter old [] start nothing_collected) 0
begun name_filter old start known = walking_first name_filter old start known (stored_already old (specifier_in old start)
    (list_any_at (bytes_eq (specifier_in old start)) old.stored start.0 [] known (nat_list_eq_equiv.refl (specifier_in old start))))

pub begun_cut : (name_filter : NameFilter) (old : RootView) (start : ModuleId) → start.0 < length old.stored → IsCut name_filter old old start OutOfMemory 0
begun_cut name_filter old start known = cut_first name_filter old start known (stored_already old (specifier_in old start)
    (list_any_at (bytes_eq (specifier_in old start)) old.stored start.0 [] known (nat_list_eq_equiv.refl (specifier_in old start))))

-- ---- the set of numbers

pub new_key : (keys after : List ModuleId) (id : ModuleId) (is_new : Bool) → is_new ≡ not (list_any (is_same_module id) keys)
    → after ≡ insert_key is_same_module keys id
    → is_new ≡ true → (list_any (is_same_module id) keys ≡ false) × (after ≡ keys ++ id ∷ [])
new_key keys after id is_new said inserted new = by (list_any (is_same_module id) keys) (sym said ∙ new) inserted
  where
    by : (b : Bool) → not b ≡ true → after ≡ (if b then keys else keys ++ id ∷ []) → (b ≡ false) × (after ≡ keys ++ id ∷ [])
    by true is same = absurd (true≢false (sym is))
    by false is same = (refl, same)

pub old_key : (keys after : List ModuleId) (id : ModuleId) (is_new : Bool) → is_new ≡ not (list_any (is_same_module id) keys)
    → after ≡ insert_key is_same_module keys id
    → is_new ≡ false → (list_any (is_same_module id) keys ≡ true) × (after ≡ keys)
old_key keys after id is_new said inserted old = by (list_any (is_same_module id) keys) (sym said ∙ old) inserted
  where
    by : (b : Bool) → not b ≡ false → after ≡ (if b then keys else keys ++ id ∷ []) → (b ≡ true) × (after ≡ keys)
    by true is same = (refl, same)
    by false is same = absurd (true≢false is)

-- the index of a new key is the number of keys before it
pub new_cursor : (keys : List ModuleId) (id : ModuleId) → list_any (is_same_module id) keys ≡ false → position_or_len (is_same_module id) keys ≡ length keys
new_cursor [] id none = refl
new_cursor (key ∷ keys) id none = by (is_same_module id key) none (new_cursor keys id)
  where
    by : (b : Bool) → (b || list_any (is_same_module id) keys) ≡ false
        → (list_any (is_same_module id) keys ≡ false → position_or_len (is_same_module id) keys ≡ length keys)
        → cond (not b) (1 + position_or_len (is_same_module id) keys) 0 ≡ suc (length keys)
    by true is rest = absurd (true≢false is)
    by false is rest = omega (arith, rest is)

-- so if the index has 64 bits, there are fewer than 2^64 keys
pub new_few : (keys : List ModuleId) (id : ModuleId) (is_new : Bool) (cursor : ℕ) → is_new ≡ not (list_any (is_same_module id) keys)
    → cursor ≡ position_or_len (is_same_module id) keys → cursor < 2 ^ 64 → is_new ≡ true → length keys < 2 ^ 64
new_few keys id is_new cursor said at fits new = by (list_any (is_same_module id) keys) (sym said ∙ new) (new_cursor keys id)
  where
    by : (b : Bool) → not b ≡ true → (b ≡ false → position_or_len (is_same_module id) keys ≡ length keys) → length keys < 2 ^ 64
    by true is following = absurd (true≢false (sym is))
    by false is following = omega (arith, following refl, at, fits)

-- a value that depends on whether a module is new, for a new one
pub if_new : {A : Type 0} (is_new : Bool) (x y z : A) → x ≡ (if is_new then y else z) → is_new ≡ true → x ≡ y
if_new true x y z same is = same
if_new false x y z same is = absurd (true≢false (sym is))

pub if_old : {A : Type 0} (is_new : Bool) (x y z : A) → x ≡ (if is_new then y else z) → is_new ≡ false → x ≡ z
if_old true x y z same is = absurd (true≢false is)
if_old false x y z same is = same

-- ---- an optional target

gives_none : (f : ModuleId → Option (List ℕ)) (ends_at : Option (List ℕ)) → option_map f None ≡ option_map (λ (s : List ℕ). Some s) ends_at → ends_at ≡ None
gives_none f None same = refl
gives_none f (Some v) same = absurd cc

gives_some : (f : ModuleId → Option (List ℕ)) (id : ModuleId) (ends_at : Option (List ℕ)) → option_map f (Some id) ≡ option_map (λ (s : List ℕ). Some s) ends_at
    → (v : List ℕ) × (ends_at ≡ Some v) × (f id ≡ Some v)
gives_some f id None same = absurd cc
gives_some f id (Some v) same = (v, refl, same_Some (f id) (Some v) same)

pub ended_past : {A : Type 0} (xs : List A) (n : ℕ) → slice_get xs n ≡ None → length xs ≤ n
ended_past [] n none = omega arith
ended_past (x ∷ xs) zero none = absurd (none-some x (sym none))
ended_past (x ∷ xs) (suc n) none = omega (arith, ended_past xs n none)

module _ {name_filter : NameFilter} {old : RootView} {start : ModuleId} {root : RootView} {here : ModuleId} {next : ℕ} {stack : List Frame} {ids : List
    ModuleId} {collected : CollectedView} {lookups : ℕ} (walk : IsWalking name_filter old start root here next stack ids collected
    lookups) (few : length (star_specifiers root.graph (specifier_in root here)) < 2 ^ 63) where
  pub few_here : length (star_targets_of old.graph (specifier_in root here)) < 2 ^ 63
  few_here = omega (
    arith,
    statements_counted old.graph (specifier_in root here),
    subst (λ g. length (star_specifiers g (specifier_in root here)) < 2 ^ 63) (walking_graph walk) few,
  )

  pub ended_here : slice_get (star_specifiers root.graph (specifier_in root here)) next ≡ None
      → length (star_targets_of old.graph (specifier_in root here)) ≤ next
  ended_here none = omega (
    arith,
    statements_counted old.graph (specifier_in root here),
    ended_past (star_specifiers old.graph (specifier_in root here)) next
        (subst (λ g. slice_get (star_specifiers g (specifier_in root here)) next ≡ None) (walking_graph walk) none),
  )

  -- at a statement
  module _ (specifier_text : Bor (List ℕ)) (read : Some specifier_text.now ≡ slice_get (star_specifiers root.graph (specifier_in root here)) next) where
    abbrev pub frame : Frame
    frame = record { referrer = here; position = next; specifier_text = specifier_text }

    specifier_is : slice_get (star_specifiers old.graph (specifier_in root here)) next ≡ Some specifier_text.now
    specifier_is = sym (subst (λ g. Some specifier_text.now ≡ slice_get (star_specifiers g (specifier_in root here)) next) (walking_graph walk) read)

    pub fits : next + 1 < 2 ^ 64
    fits = omega (arith, is_one walk specifier_text.now specifier_is, few_here)

    -- the count has room: at most 2^64 modules were visited, each of fewer than 2^63 statements
    pub room : (before : ℕ) → before < 2 ^ 64 → length ids ≤ 2 ^ 64 → (before + lookups) + 1 < 2 ^ 128
    room before begun short =
        let most : ℕ = 2 ^ 63 in
        let each = sum_by-le (λ (m : Visit). length (star_targets_of old.graph m.1)) (2 ^ 63) walk.visited
        (λ k d within. at_most (get_or walk.visited k d) (Contains-get_or walk.visited k d within)) in
        let counted : length walk.visited ≡ length ids =
        sym (length-map walk.visited (λ (m : Visit). m.1)) ∙ (ap length walk.visited_are ∙ length-map ids (specifier_in root)) in
        omega (arith, each, counted, short, begun, walk.counted, is_one walk specifier_text.now specifier_is)
      where
        at_most : (m : Visit) → Contains walk.visited m → length (star_targets_of old.graph m.1) ≤ 2 ^ 63
        at_most m has = omega (arith, all_few walk few_here m.0 m.1 has)

    -- the root refused the module
    pub looked_up_refused : is_name_search_done name_filter collected.names ≡ false → (after : RootView) (fault : SymbolsFault) → after ≡ root
        → IsStoringFault root (resolve_specifier root.graph (specifier_in root here) specifier_text.now) fault
        → IsCut name_filter old after start fault (lookups + 1)
    looked_up_refused goes after fault same refused = subst (λ r. IsCut name_filter old r start fault (lookups + 1)) (sym same) (cut_refused name_filter frame
        walk goes specifier_is few_here fault
        (subst (λ g. IsStoringFault root (resolve_specifier g (specifier_in root here) specifier_text.now) fault) (walking_graph walk) refused))

    -- it is unresolved
    module _ (after : RootView) (stored : after ≡ root_with_stored_module root (resolve_specifier root.graph (specifier_in root here) specifier_text.now))
        (gives : option_map (maybe_specifier after) None
        ≡ option_map (λ (s : List ℕ). Some s) (resolve_specifier root.graph (specifier_in root here) specifier_text.now)) where
      ends_unresolved : resolve_specifier root.graph (specifier_in root here) specifier_text.now ≡ None
      ends_unresolved = gives_none (maybe_specifier after) (resolve_specifier root.graph (specifier_in root here) specifier_text.now) gives

      same_root : after ≡ root
      same_root = stored ∙ ap (root_with_stored_module root) ends_unresolved

      pub looked_up_unresolved : is_name_search_done name_filter collected.names ≡ false → IsWalking name_filter old start after here (next
          + 1) stack ids (record collected { unresolved = collected.unresolved ++ (here, specifier_text.now) ∷ [] }) (lookups + 1)
      looked_up_unresolved goes = subst (λ r. IsWalking name_filter old start r here (next + 1) stack ids (record collected {
        unresolved = collected.unresolved
            ++ (here, specifier_text.now) ∷ [];
      }) (lookups + 1)) (sym same_root) (walking_unresolved walk specifier_text.now specifier_is goes
          (subst (λ g. resolve_specifier g (specifier_in root here) specifier_text.now ≡ None) (walking_graph walk) ends_unresolved))

      pub unresolved_cut : is_name_search_done name_filter collected.names ≡ false → IsCut name_filter old after start OutOfMemory (lookups + 1)
      unresolved_cut goes = subst (λ r. IsCut name_filter old r start OutOfMemory (lookups + 1)) (sym same_root)
          (cut_unresolved name_filter frame walk goes specifier_is few_here)

      pub unresolved_less : work_left old.graph after here (next + 1) stack ids < work_left old.graph root here next stack ids
      unresolved_less = subst (λ r. work_left old.graph r here (next + 1) stack ids < work_left old.graph root here next stack ids) (sym same_root)
          (next_less old.graph root here next stack ids (is_one walk specifier_text.now specifier_is))

    -- it resolves to a module
    module _ (after : RootView) (stored : after ≡ root_with_stored_module root (resolve_specifier root.graph (specifier_in root here) specifier_text.now))
        (number : ModuleId) (gives : option_map (maybe_specifier after) (Some number)
        ≡ option_map (λ (s : List ℕ). Some s) (resolve_specifier root.graph (specifier_in root here) specifier_text.now)) where
      led : (v : List ℕ) × (resolve_specifier root.graph (specifier_in root here) specifier_text.now ≡ Some v) × (maybe_specifier after number ≡ Some v)
      led = gives_some (maybe_specifier after) number (resolve_specifier root.graph (specifier_in root here) specifier_text.now) gives

      ends_at : resolve_specifier old.graph (specifier_in root here) specifier_text.now ≡ Some led.0
      ends_at = subst (λ g. resolve_specifier g (specifier_in root here) specifier_text.now ≡ Some led.0) (walking_graph walk) led.1

      more_is : after ≡ root_with_stored_module root (Some led.0)
      more_is = stored ∙ ap (root_with_stored_module root) led.1

      number_under : maybe_specifier (root_with_stored_module root (Some led.0)) number ≡ Some led.0
      number_under = subst (λ (r : RootView). maybe_specifier r number ≡ Some led.0) more_is led.2

      pub number_in : number.0 < length after.stored
      number_in = slice_get_within after.stored number.0 led.0 led.2

      pub somewhere_cut : is_name_search_done name_filter collected.names ≡ false → IsCut name_filter old after start OutOfMemory (lookups + 1)
      somewhere_cut goes = subst (λ r. IsCut name_filter old r start OutOfMemory (lookups + 1)) (sym more_is)
          (cut_stored name_filter frame walk goes specifier_is few_here led.0 ends_at)

      module _ (once : IsDistinct bytes_eq root.stored) where
        -- the set of numbers has the module if and only if it was visited
        visited_is : list_any (is_same_module number) ids ≡ contains_specifier (visited_modules walk.visited) led.0
        visited_is =
            let more : RootView = root_with_stored_module root (Some led.0) in
            let within : number.0 < length more.stored = slice_get_within more.stored number.0 led.0 number_under in
            let before : map (specifier_in more) ids ≡ map (specifier_in root) ids = same_under (specifier_in more) (specifier_in root) (λ (id : ModuleId). id.0
            < length root.stored) (λ id in_root. number_retained root (Some led.0) id in_root) ids walk.inside.ids_in in
            let called : specifier_in more number ≡ led.0 = get_or_from_slice_get more.stored number.0 led.0 [] number_under in
            number_among more (still_once root (Some led.0) once) number within ids
            (λ i d short. still_within root (Some led.0) (get_or ids i d).0 (walk.inside.ids_in i d short))
            ∙ (λ i. contains_specifier ((before ∙ sym walk.visited_are) i) (called i))

        module _ (visited : list_any (is_same_module number) ids ≡ true) where
          already_visited : contains_specifier (visited_modules walk.visited) led.0 ≡ true
          already_visited = sym visited_is ∙ visited

          root_stays : after ≡ root
          root_stays = more_is ∙ stored_already root led.0 (among_stored root ids led.0 walk.inside.ids_in
              (subst (λ xs. contains_specifier xs led.0 ≡ true) walk.visited_are already_visited))

          pub looked_up_visited : is_name_search_done name_filter collected.names ≡ false
              → IsWalking name_filter old start after here (next + 1) stack ids collected (lookups + 1)
          looked_up_visited goes =
              let by = among_is_visited walk.visited led.0 already_visited in
              subst (λ r. IsWalking name_filter old start r here (next + 1) stack ids collected (lookups + 1)) (sym root_stays)
              (walking_visited walk specifier_text.now specifier_is goes led.0 ends_at by.0 by.1)

          pub visited_less : work_left old.graph after here (next + 1) stack ids < work_left old.graph root here next stack ids
          visited_less = subst (λ r. work_left old.graph r here (next + 1) stack ids < work_left old.graph root here next stack ids) (sym root_stays)
              (next_less old.graph root here next stack ids (is_one walk specifier_text.now specifier_is))

        module _ (new : list_any (is_same_module number) ids ≡ false) where
          fresh : contains_specifier (visited_modules walk.visited) led.0 ≡ false
          fresh = sym visited_is ∙ new

          abbrev trace_too : List (ModuleId × List ℕ)
          trace_too = map frame_view (stack ++ frame ∷ [])

          pub looked_up_entered : is_name_search_done name_filter collected.names ≡ false
              → IsWalking name_filter old start after number 0 (stack ++ frame ∷ []) (ids
              ++ number ∷ []) (graph_with_put_module name_filter after trace_too number collected) (lookups + 1)
          looked_up_entered goes =
              let more : RootView = root_with_stored_module root (Some led.0) in
              let called : specifier_in more number ≡ led.0 = get_or_from_slice_get more.stored number.0 led.0 [] number_under in
              let entered = walking_entered frame walk specifier_is few_here led.0 ends_at (not_visited frame walk specifier_is few_here led.0 fresh) number
              number_under goes in
              let same : module_collected name_filter old.rules old.graph led.0 trace_too number collected
              ≡ graph_with_put_module name_filter more trace_too number
              collected = (λ i. module_collected name_filter (sym (walking_rules walk) i) (sym (walking_graph walk) i) (sym called i) trace_too number
              collected) in
              subst (λ r. IsWalking name_filter old start r number 0 (stack ++ frame ∷ []) (ids ++ number ∷ [])
              (graph_with_put_module name_filter r trace_too number collected) (lookups + 1)) (sym more_is)
              (subst (λ t. IsWalking name_filter old start more number 0 (stack ++ frame ∷ []) (ids ++ number ∷ []) t (lookups + 1)) same entered)

          pub looked_up_less : ((v : List ℕ) → resolve_specifier root.graph (specifier_in root here) specifier_text.now ≡ Some v → (m : ModuleView)
              × (module_with_specifier root.graph v ≡ Some m))
              → work_left old.graph after number 0 (stack ++ frame ∷ []) (ids ++ number ∷ []) < work_left old.graph root here next stack ids
          looked_up_less there =
              let found = there led.0 led.1 in
              let under : module_with_specifier old.graph led.0 ≡ Some found.0 =
              subst (λ g. module_with_specifier g led.0 ≡ Some found.0) (walking_graph walk) found.1 in
              subst (λ r. work_left old.graph r number 0 (stack ++ frame ∷ []) (ids ++ number ∷ []) < work_left old.graph root here next stack ids)
              (sym more_is) (entered_less frame walk specifier_is few_here led.0 ends_at fresh number number_under found.0 under)
