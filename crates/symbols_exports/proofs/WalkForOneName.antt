-- The ends of a walk for one name: with its entry, without one, or by a fault.
use Rattle.std.proofs.Common.{◌≡◌, ℕ, ◌+◌, ◌<◌, ◌≤◌, ◌⊎◌, inl, inr, Bool, true, false, List, [], ◌∷◌, ◌++◌, length, map, slice_get}
use Rattle.std.proofs.Common.{option_map, option_to_list, Option, None, Some, Bor, refl, sym, ap, subst, ◌∙◌, arith, true≢false}
use Rattle.std.specs.Prelude.{Contains, AllPairs, if◌then◌else◌}
use Rattle.std.specs.Str.{bytes_eq}
use Rattle.std.proofs.lemmas.List.{length_push}
use Rattle.std.proofs.lemmas.List.Elements.{Contains-push, Contains-push_cases}
use Rattle.std.proofs.lemmas.Option.{none-some}
use Rattle.std.proofs.lemmas.Slice.Eq.{bytes_eq-Decides}
use Rattle.symbols_ast.specs.declared.ids.ModuleId.{ModuleId}
use Rattle.symbols_table.specs.declared.info.fault.SymbolsFault.{SymbolsFault}
use Rattle.symbols_table.specs.declared.info.fault.SymbolsFault.TheVariants.{OutOfMemory}
use Rattle.symbols_table.specs.Events.{default_export_name}
use Rattle.symbols_root.specs.Roots.{RootView, root_with_stored_module, IsStoringFault, specifier_in, root_with_stored_modules}
use Rattle.symbols_root.specs.Specifiers.{contains_specifier}
use Rattle.symbols_exports.specs.declared.frame.Frame.{Frame}
use Rattle.symbols_exports.specs.declared.name_filter.NameFilter.TheVariants.{OneName}
use Rattle.symbols_exports.specs.Chains.{IsChainBeforeOrEqual, IsLeastChain}
use Rattle.symbols_exports.specs.Exports.{ExportEntry, StarPosition, AreExports, IsStarStatementBefore}
use Rattle.symbols_exports.specs.OneName.{find_export, last_searched_chain, IsChainNotAfterLastSearched, AreReachedUpToChain, IsStarLookedUp, AreStarsLookedUp}
use Rattle.symbols_exports.specs.OneName.{IsExportOfCallResult}
use Rattle.symbols_exports.specs.OneName.{IsExportOfWalkFault}
use Rattle.symbols_exports.specs.StarStatements.{star_specifiers, resolve_specifier, star_targets_of, explicit_exports_of}
use Rattle.symbols_exports.specs.CollectedNames.{ResolvedExportView}
use Rattle.symbols_exports.specs.inner.Collecting.{CollectedView}
use Rattle.symbols_exports.specs.ExportViews.{export_view_of_entry, export_by_specifier}
use Rattle.symbols_exports.specs.inner.NameFilter.{is_name_search_done}
use Rattle.symbols_exports.specs.Traces.{exports_of}
use Rattle.symbols_exports.proofs.DistinctNames.{exports_once}
use Rattle.symbols_exports.proofs.ExportLists.{exports_are_listed}
use Rattle.symbols_exports.proofs.LeastChainsVisited.{visited_are_least}
use Rattle.symbols_exports.proofs.VisitedModules.{visited_modules, visited_is_among, among_stored, stored_already}
use Rattle.symbols_exports.proofs.UnresolvedSoFar.{IsThere, AreSelected, retained_in_order}
use Rattle.symbols_exports.proofs.OneNameAmongExports.{entry_is, no_entry, found_is_export, is_named, one_found, not_before, within_last}
use Rattle.symbols_exports.proofs.ChainOrder.{never_before_itself, up_to_then_before, beginning_up_to}
use Rattle.symbols_exports.proofs.Cursors.{Visit, OccursAt, start_alone, occurs_first}
use Rattle.symbols_exports.proofs.UpToChain.{reached_up_to, looked_up_up_to, reached_all}
use Rattle.symbols_exports.proofs.StoringWalk.{IsWalking, forks_in}
use Rattle.symbols_exports.proofs.WalkEndsOrBreaks.{stored_is}
use Rattle.symbols_exports.proofs.StepStoresNothing.{is_one, target_specifier, after_next}
use Rattle.symbols_exports.proofs.WalkStates.{chain_of, cursor_of, at_entered, all_reached, all_looked_up, ends_after}
use Rattle.symbols_exports.proofs.NameFilterLemmas.{nothing_viewed}

-- while the walk goes on, nothing was found, and the name isn't `default`
goes_on : (name : Bor (List ℕ)) (names : List ResolvedExportView) → is_name_search_done (OneName name) names ≡ false → (names ≡ [])
    × (bytes_eq name.now default_export_name ≡ false)
goes_on name [] goes = (refl, goes)
goes_on name (found ∷ names) goes = absurd (true≢false goes)

after_nothing : (k : ℕ) (c : List ℕ) → c ≡ [] → IsChainBeforeOrEqual (k ∷ []) c → ⊥
after_nothing k c none up_to = by (subst (IsChainBeforeOrEqual (k ∷ [])) none up_to)
  where
    by : IsChainBeforeOrEqual (k ∷ []) [] → ⊥
    by (inl same) = cc
    by (inr before) = before

module _ {name : Bor (List ℕ)} {old : RootView} {start : ModuleId} {root : RootView} {here : ModuleId} {next : ℕ} {stack : List Frame} {ids : List
    ModuleId} {collected : CollectedView} {lookups : ℕ} (walk : IsWalking (OneName name) old start root here next stack ids collected lookups) where
  abbrev pub s0 : List ℕ
  s0 = specifier_in old start

  abbrev pub cursor : List ℕ
  cursor = cursor_of (forks_in root stack) next

  they : AreExports (star_targets_of old.graph) (explicit_exports_of old.graph) s0 (exports_of old.graph s0)
  they = exports_are_listed old.graph s0

  -- an answer by what the entry is
  answer_by : (entry : Option ExportEntry) (last : Option (List ℕ)) → find_export old.graph s0 name.now ≡ entry → last_searched_chain name.now entry ≡ last
      → map (export_by_specifier root) collected.names ≡ option_to_list (option_map (export_view_of_entry old.graph s0) entry)
      → AreReachedUpToChain (star_targets_of old.graph) s0 last walk.visited → AreStarsLookedUp (star_targets_of old.graph) s0 last walk.following
      → IsExportOfCallResult old root start name.now collected.names lookups
  answer_by entry last is last_is viewed reached statements = record {
    known = walk.known;
    is_found_export = viewed ∙ ap (λ (e : Option ExportEntry). option_to_list (option_map (export_view_of_entry old.graph s0) e)) (sym is);
    are_modules_of_exports_stored = walk.inside.names_in;
    reached = walk.visited;
    are_reached = subst (λ l. AreReachedUpToChain (star_targets_of old.graph) s0 l walk.visited) (sym (ap (last_searched_chain name.now) is ∙ last_is)) reached;
    stored = stored_is walk;
    statements = walk.following;
    are_looked_up_stars = subst (λ l. AreStarsLookedUp (star_targets_of old.graph) s0 l walk.following) (sym (ap (last_searched_chain name.now) is ∙ last_is))
        statements;
    lookups_counted = walk.after_counted;
  }

  -- it was found, or isn't looked up along `export *`
  pub name_search_ended : is_name_search_done (OneName name) collected.names ≡ true → IsExportOfCallResult old root start name.now collected.names lookups
  name_search_ended done = by walk.found refl
    where
      q : List ℕ
      q = chain_of (forks_in root stack)

      broken_off : OccursAt (star_targets_of old.graph) s0 (q ++ 0 ∷ []) walk.visited
      broken_off = subst (λ k. OccursAt (star_targets_of old.graph) s0 (q ++ k ∷ []) walk.visited) (walk.ends_here done).first_statement walk.at.occurs

      retained : AreSelected (IsThere (star_targets_of old.graph)) (q ++ 0 ∷ []) walk.visited walk.following
      retained = subst (λ k. AreSelected (IsThere (star_targets_of old.graph)) (q ++ k ∷ []) walk.visited walk.following) (walk.ends_here done).first_statement
          walk.after_are

      answer : (entry : Option ExportEntry) → find_export old.graph s0 name.now ≡ entry → last_searched_chain name.now entry ≡ Some q
          → map (export_by_specifier root) collected.names ≡ option_to_list (option_map (export_view_of_entry old.graph s0) entry)
          → IsExportOfCallResult old root start name.now collected.names lookups
      answer entry is last_is viewed = answer_by entry (Some q) is last_is viewed (reached_up_to (star_targets_of old.graph) s0 q walk.visited broken_off)
          (looked_up_up_to (star_targets_of old.graph) s0 q walk.visited broken_off walk.following retained)

      by : (found : List ExportEntry) → walk.found ≡ found → IsExportOfCallResult old root start name.now collected.names lookups
      by (e ∷ rest) is =
          let at : Contains walk.found e = subst (λ xs. Contains xs e) (sym is) (0, omega arith, refl) in
          let alone : walk.found ≡ e ∷ [] = is ∙ ap (λ xs. e ∷ xs) (one_found (star_targets_of old.graph) (explicit_exports_of old.graph) s0
          (exports_once old.graph) name.now (exports_of old.graph s0) they cursor walk.visited walk.at.occurs walk.found walk.found_are e rest is) in
          let export = found_is_export (star_targets_of old.graph) (explicit_exports_of old.graph) s0 (exports_once old.graph) name.now
          (exports_of old.graph s0)
          they cursor walk.visited walk.at.occurs walk.found walk.found_are e at in
          let called = is_named (star_targets_of old.graph) (explicit_exports_of old.graph) s0 (exports_once old.graph) name.now (exports_of old.graph s0) they
          cursor walk.visited walk.at.occurs walk.found walk.found_are e at in
          answer (Some e) (entry_is (star_targets_of old.graph) (explicit_exports_of old.graph) s0 (exports_once old.graph) name.now (exports_of old.graph s0)
          they e export called) (ap Some ((walk.ends_here done).found_here e at)) (sym walk.found_views ∙ ap (map (export_view_of_entry old.graph s0)) alone)
      by [] is =
          let none : collected.names ≡ [] =
          nothing_viewed (export_by_specifier root) (export_view_of_entry old.graph s0) collected.names walk.found (sym walk.found_views) is in
          let default : bytes_eq name.now default_export_name ≡ true = subst (λ xs. is_name_search_done (OneName name) xs ≡ true) none done in
          let begun : forks_in root stack ≡ [] = (walk.ends_here done).at_start default in
          let at_first : cursor ≡ 0 ∷ [] = (λ i. cursor_of (begun i) ((walk.ends_here done).first_statement i)) in
          let no = no_entry (star_targets_of old.graph) (explicit_exports_of old.graph) s0 (exports_once old.graph) name.now (exports_of old.graph s0) they
          (λ e export called. after_nothing 0 e.chain (export.candidate.default_has_empty_chain
          (called ∙ (bytes_eq-Decides name.now default_export_name).0 default))
          (subst (λ p. IsChainBeforeOrEqual p e.chain) at_first
          (not_before (star_targets_of old.graph) (explicit_exports_of old.graph) s0 (exports_once old.graph) name.now
          (exports_of old.graph s0) they cursor walk.visited walk.at.occurs walk.found walk.found_are is e export called))) in
          answer None no ((λ i. if default i then Some [] else None) ∙ ap (λ forks. Some (chain_of forks)) (sym begun))
          (ap (map (export_by_specifier root)) none)

  -- all statements were looked up
  pub name_ended : is_name_search_done (OneName name) collected.names ≡ false → stack ≡ [] → length (star_targets_of old.graph (specifier_in root here)) ≤ next
      → IsExportOfCallResult old root start name.now collected.names lookups
  name_ended goes empty_stack ended =
      let none = goes_on name collected.names goes in
      let nothing : walk.found ≡ [] = nothing_viewed (export_view_of_entry old.graph s0) (export_by_specifier root) walk.found collected.names walk.found_views
      none.0 in
      let no_frames : forks_in root stack ≡ [] = ap (forks_in root) empty_stack in
      let no = no_entry (star_targets_of old.graph) (explicit_exports_of old.graph) s0 (exports_once old.graph) name.now (exports_of old.graph s0) they
      (λ e export called. never_before_itself cursor (up_to_then_before cursor e.chain cursor (not_before (star_targets_of old.graph)
      (explicit_exports_of old.graph) s0 (exports_once old.graph) name.now (exports_of old.graph s0) they cursor walk.visited walk.at.occurs walk.found
      walk.found_are nothing e export called) (ends_after walk.at ended no_frames e.chain e.exporter export.candidate.ends_at.ends_at))) in
      answer_by None None no (λ i. if none.1 i then Some [] else None) (ap (map (export_by_specifier root)) none.0) (reached_all (star_targets_of old.graph) s0
      walk.visited (all_reached walk.at ended no_frames)) (all_looked_up walk.at ended no_frames walk.following walk.after_are)

  -- ---- the search fails at a statement

  module _ (goes : is_name_search_done (OneName name) collected.names
      ≡ false) (specifier_text : List ℕ) (specifier_is : slice_get (star_specifiers old.graph (specifier_in root here)) next ≡ Some specifier_text) where
    within : (c : List ℕ) → IsChainBeforeOrEqual c cursor → IsChainNotAfterLastSearched (last_searched_chain name.now (find_export old.graph s0 name.now)) c
    within c up_to =
        let none = goes_on name collected.names goes in
        let nothing : walk.found ≡ [] = nothing_viewed (export_view_of_entry old.graph s0)
        (export_by_specifier root) walk.found collected.names walk.found_views
        none.0 in
        within_last (star_targets_of old.graph) (explicit_exports_of old.graph) s0 (exports_once old.graph) name.now (exports_of old.graph s0) they cursor
        walk.visited walk.at.occurs walk.found walk.found_are nothing none.1 c up_to

    abbrev pub this : StarPosition
    this = (specifier_in root here, next)

    abbrev pub looked_up_now : List StarPosition
    looked_up_now = walk.following ++ this ∷ []

    is_looked_up : (at : StarPosition) → Contains looked_up_now at
        → IsStarLookedUp (star_targets_of old.graph) s0 (last_searched_chain name.now (find_export old.graph s0 name.now)) at
    is_looked_up at has = elim (Contains-push_cases walk.following this at has) [
      | inl was ↦
          let by = walk.after_are.following at.0 at.1 was in (
            by.0,
            ((visited_are_least (star_targets_of old.graph) s0 cursor walk.visited walk.at.occurs by.0 at.0).0 by.1).0,
            walk.after_are.are at.0 at.1 was,
            within (by.0 ++ at.1 ∷ []) (inr by.2),
          )
      | inr same ↦
          subst (IsStarLookedUp (star_targets_of old.graph) s0 (last_searched_chain name.now (find_export old.graph s0 name.now))) same (
            chain_of (forks_in root stack),
            ((visited_are_least (star_targets_of old.graph) s0 cursor walk.visited walk.at.occurs (chain_of (forks_in root stack))
                (specifier_in root here)).0 walk.at.here_visited).0,
            is_one walk specifier_text specifier_is,
            within cursor (inl refl),
          )
    ]

    in_order : AllPairs (IsStarStatementBefore (star_targets_of old.graph) s0) looked_up_now
    in_order = retained_in_order (IsThere (star_targets_of old.graph)) (star_targets_of old.graph) s0 cursor walk.visited looked_up_now walk.at.occurs
        (after_next walk specifier_text specifier_is).ordered

    is_needed_module_reached : (c u : List ℕ) → Contains walk.visited (c, u)
        → IsLeastChain (star_targets_of old.graph) s0 c u × IsChainNotAfterLastSearched (last_searched_chain name.now (find_export old.graph s0 name.now)) c
    is_needed_module_reached c u cu = let least = (visited_are_least (star_targets_of old.graph) s0 cursor walk.visited walk.at.occurs c u).0 cu in
        (least.0, within c (inr least.1))

    -- nothing more is stored
    pub name_broken : (fault : SymbolsFault) (needed : Option (List ℕ)) → ((v : List ℕ) → needed ≡ Some v → resolve_specifier old.graph (specifier_in root
        here) specifier_text ≡ Some v) → IsStoringFault root needed fault → IsExportOfWalkFault old root start name.now fault (lookups + 1)
    name_broken fault needed is_needed refused = record {
      known = walk.known;
      reached = walk.visited;
      are_reached = is_needed_module_reached;
      ordered = walk.at.occurs.ordered;
      stored = stored_is walk;
      statements = looked_up_now;
      are_looked_up_stars = is_looked_up;
      looked_up_in_order = in_order;
      lookups_counted = omega (arith, walk.after_counted, length_push walk.following this);
      needed = needed;
      is_needed = λ v some. (this, Contains-push walk.following this, target_specifier walk specifier_text specifier_is ∙ is_needed v some);
      refused = refused;
    }

    -- the module was stored, and an allocation failed then
    pub name_broken_stored : (v : List ℕ) → resolve_specifier old.graph (specifier_in root here) specifier_text ≡ Some v
        → (root_with_stored_module root (Some v) ≡ root_with_stored_modules old (visited_modules (walk.visited ++ (cursor, v) ∷ [])))
        → IsExportOfWalkFault old (root_with_stored_module root (Some v)) start name.now OutOfMemory (lookups + 1)
    name_broken_stored v ends_at stored = by (contains_specifier (visited_modules walk.visited) v) refl
      where
        by : (b : Bool) → contains_specifier (visited_modules walk.visited) v ≡ b
            → IsExportOfWalkFault old (root_with_stored_module root (Some v)) start name.now OutOfMemory (lookups + 1)
        by true is = subst (λ r. IsExportOfWalkFault old r start name.now OutOfMemory (lookups + 1))
            (sym (stored_already root v (among_stored root ids v walk.inside.ids_in (subst (λ xs. contains_specifier xs v ≡ true) walk.visited_are is))))
            (name_broken OutOfMemory None (λ w some. absurd (none-some w some)) tt)
        by false is =
            let fresh = (λ (c : List ℕ) (cv : Contains walk.visited (c, v)). true≢false (sym (visited_is_among walk.visited c v cv) ∙ is)) in
            let at = at_entered walk.at v (target_specifier walk specifier_text specifier_is ∙ ends_at) fresh in
            record {
              known = walk.known;
              reached = walk.visited ++ (cursor, v) ∷ [];
              are_reached =
                  λ c u cu. (
                    ((visited_are_least (star_targets_of old.graph) s0 (cursor_of (forks_in root stack
                        ++ record { referrer = specifier_in root here; position = next } ∷ []) 0) (walk.visited ++ (cursor, v) ∷ []) at.occurs c u).0 cu).0,
                    within_too c u (Contains-push_cases walk.visited (cursor, v) (c, u) cu),
                  );
              ordered = at.occurs.ordered;
              stored = stored;
              statements = looked_up_now;
              are_looked_up_stars = is_looked_up;
              looked_up_in_order = in_order;
              lookups_counted = omega (arith, walk.after_counted, length_push walk.following this);
              needed = None;
              is_needed = λ w some. absurd (none-some w some);
              refused = tt;
            }
          where
            within_too : (c u : List ℕ) → Contains walk.visited (c, u) ⊎ ◌≡◌ {A = Visit} (cursor, v) (c, u)
                → IsChainNotAfterLastSearched (last_searched_chain name.now (find_export old.graph s0 name.now)) c
            within_too c u (inl was) = (is_needed_module_reached c u was).1
            within_too c u (inr same) = within c (inl (ap (λ (m : Visit). m.0) (sym same)))

-- the search fails before the first statement
pub name_broken_first : (name : List ℕ) (old : RootView) (start : ModuleId) → start.0 < length old.stored
    → root_with_stored_module old (Some (specifier_in old start)) ≡ old → IsExportOfWalkFault old old start name OutOfMemory 0
name_broken_first name old start known is_stored = record {
  known = known;
  reached = ([], specifier_in old start) ∷ [];
  are_reached = λ c u cu. let least =
      (visited_are_least (star_targets_of old.graph) (specifier_in old start) (0 ∷ []) (([], specifier_in old start) ∷ []) first c
      u).0 cu in (least.0, within_any (last_searched_chain name (find_export old.graph (specifier_in old start) name)) c (no_chain c u cu));
  ordered = first.ordered;
  stored = sym is_stored;
  statements = [];
  are_looked_up_stars = λ at has. absurd (omega (arith, has.1));
  looked_up_in_order = λ i j d less within. absurd (omega (arith, within));
  lookups_counted = refl;
  needed = None;
  is_needed = λ v some. absurd (none-some v some);
  refused = tt;
}
  where
    first : OccursAt (star_targets_of old.graph) (specifier_in old start) (0 ∷ []) (([], specifier_in old start) ∷ [])
    first = occurs_first (star_targets_of old.graph) (specifier_in old start)

    no_chain : (c u : List ℕ) → Contains {X = Visit} (([], specifier_in old start) ∷ []) (c, u) → [] ≡ c
    no_chain c u cu = (start_alone (specifier_in old start) c u cu).0

    within_any : (last : Option (List ℕ)) (c : List ℕ) → [] ≡ c → IsChainNotAfterLastSearched last c
    within_any None c none = tt
    within_any (Some last) c none = subst (λ d. IsChainBeforeOrEqual d last) none (beginning_up_to 0 last)
