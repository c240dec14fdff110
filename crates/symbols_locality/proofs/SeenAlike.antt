-- Specifiers resolve to the same modules, and modules have the same symbols and `export *` statements, in graphs that agree on what is seen.
use Rattle.std.proofs.Common.{◌≡◌, ℕ, inl, inr, List, [], ◌∷◌, map, reverse, find, Option, None, Some, option_map, option_and_then, refl, sym, ap, subst, ◌∙◌}
use Rattle.std.proofs.Common.{arith}
use Rattle.std.specs.Prelude.{Contains}
use Rattle.std.specs.Option.{option_map_or}
use Rattle.std.proofs.lemmas.Option.{none-some, same_Some}
use Rattle.symbols_ast.specs.Graph.{GraphView, ModuleView, module_after_redirect, content_types_dependency, resolved_dependency}
use Rattle.symbols_table.specs.Analysis.{table_changes_from_tree_or_json}
use Rattle.symbols_table.specs.Modules.{analyzable_source}
use Rattle.symbols_table.specs.Changes.{Change, export_stars_after_changes, exports_after_changes}
use Rattle.symbols_root.specs.GraphModules.{table_changes_of_module}
use Rattle.symbols_root.specs.Specifiers.{module_with_specifier}
use Rattle.symbols_root.specs.TypesChains.{is_analyzable, types_chain, get_prefer_types, resolved_module_specifier, AreTypesModulesFrom, IsTypesChain}
use Rattle.symbols_root.specs.laws.Specifiers.{redirected_module_has_its_specifier}
use Rattle.symbols_root.specs.laws.TypesChains.{types_chain_is_unique}
use Rattle.symbols_exports.specs.StarStatements.{star_specifiers, resolve_specifier, star_targets_of, explicit_exports_of}
use Rattle.symbols_locality.proofs.StarReach.{IsReachedAlongStars, at_start, by_star, AreAlikeAlongStars}
use Rattle.symbols_answers.specs.Seen.{FollowedSpecifierRelation, resolved_specifier_is_looked_up, IsSpecifierLookedUp, is_requested}
use Rattle.symbols_answers.specs.Seen.{types_dependency_is_looked_up, AreAlikeWhereLookedUp}
use Rattle.symbols_locality.proofs.FoundModules.{IsFound, IsUnder}
use Rattle.symbols_locality.proofs.Lists.{first_or_later, found_there, reversed_there, same_map, mapped_at}

-- ---- the modules that are found

-- a property of a specifier that each module under such a specifier passes on to its types dependency
module _ (graph : GraphView) (Has : List ℕ → Type 0) (candidate_has_no_path : (key : List ℕ) (m : ModuleView) (next : List ℕ) → Has key
    → module_after_redirect graph key ≡ Some m → content_types_dependency m.content ≡ Some next → Has next) where
  -- each module on a types chain is under one
  chain_under : (key : List ℕ) → Has key → (list : List ModuleView)
      → AreTypesModulesFrom graph (module_after_redirect graph key) list → (m : ModuleView) → Contains list m → IsUnder graph Has m.specifier
  chain_under key at [] are m has = absurd (omega (arith, has.1))
  chain_under key at (x ∷ remaining) are m has = elim (first_or_later x remaining m has) [
    | inl same ↦ record { key = key; found = m; has = at; under = are.0 ∙ ap Some same; specifier_is = refl }
    | inr later ↦ by (content_types_dependency x.content) refl are.1 (λ t at_t are_t. chain_under t at_t remaining are_t m later) later
  ]
    where
      nothing : (list : List ModuleView) → AreTypesModulesFrom graph None list → Contains list m → IsUnder graph Has m.specifier
      nothing [] e later = absurd (omega (arith, later.1))
      nothing (y ∷ ys) e later = absurd (none-some y e.0)

      by : (found : Option (List ℕ)) → content_types_dependency x.content ≡ found
          → AreTypesModulesFrom graph (option_and_then (module_after_redirect graph) found) remaining
          → ((t : List ℕ) → Has t → AreTypesModulesFrom graph (module_after_redirect graph t) remaining → IsUnder graph Has m.specifier)
          → Contains remaining m → IsUnder graph Has m.specifier
      by None is are_later further later = nothing remaining are_later later
      by (Some t) is are_later further later = further t (candidate_has_no_path key x t at are.0 is) are_later

  -- the module that such a specifier resolves to is under one
  pub resolved_under : (key : List ℕ) → Has key → (v : List ℕ) → resolved_module_specifier graph key ≡ Some v → IsUnder graph Has v
  resolved_under key at v is = by (get_prefer_types graph key) refl is
    where
      by : (found : Option ModuleView) → get_prefer_types graph key ≡ found → option_map (λ m. m.specifier) found ≡ Some v → IsUnder graph Has v
      by None there e = absurd (none-some v e)
      by (Some m) there e =
          subst (IsUnder graph Has) (same_Some m.specifier v e)
          (chain_under key at (types_chain graph key) (types_chain_is_unique graph key).is_chain.is_types_dependency_path.in_order m
          (reversed_there (types_chain graph key) m (found_there is_analyzable (reverse (types_chain graph key)) m there)))

module _ (graph : GraphView) (Follows : FollowedSpecifierRelation) (queried : List ℕ) where
  -- a found module is under a seen specifier
  pub found_under_seen : (u : List ℕ) → IsFound graph Follows queried u → IsUnder graph (IsSpecifierLookedUp graph Follows queried) u
  found_under_seen u at = resolved_under graph (IsSpecifierLookedUp graph Follows queried)
      (λ key m next seen under types. types_dependency_is_looked_up key m seen under types)
      at.key (is_requested at.requested) u at.resolves

  -- the module that a followed specifier resolves to is found
  pub target_found : (u specifier_text v : List ℕ) → IsFound graph Follows queried u → Follows u specifier_text
      → resolve_specifier graph u specifier_text ≡ Some v → IsFound graph Follows queried v
  target_found u specifier_text v at follows is = by (resolved_dependency graph u specifier_text) refl is
    where
      by : (t : Option (List ℕ)) → resolved_dependency graph u specifier_text ≡ t → option_and_then (resolved_module_specifier graph) t ≡ Some v
          → IsFound graph Follows queried v
      by None part_is_symbol e = absurd (none-some v e)
      by (Some t) part_is_symbol e = record {
        key = t;
        requested = resolved_specifier_is_looked_up at.key u specifier_text at.requested at.resolves follows
            part_is_symbol;
        resolves = e;
      }

-- ---- two graphs

module _ (graph other : GraphView) (Follows : FollowedSpecifierRelation) (queried : List ℕ) (alike : AreAlikeWhereLookedUp graph other Follows queried) where
  in_order_there : (key : List ℕ) → IsSpecifierLookedUp graph Follows queried key → (list : List ModuleView)
      → AreTypesModulesFrom graph (module_after_redirect graph key) list → AreTypesModulesFrom other (module_after_redirect other key) list
  in_order_there key seen [] are = tt
  in_order_there key seen (x ∷ remaining) are = (
    sym (alike.same_modules key seen) ∙ are.0,
    by (content_types_dependency x.content) refl are.1 (λ t seen_t are_t. in_order_there t seen_t remaining are_t),
  )
    where
      nothing : (list : List ModuleView) → AreTypesModulesFrom graph None list → AreTypesModulesFrom other None list
      nothing [] e = tt
      nothing (y ∷ ys) e = absurd (none-some y e.0)

      by : (found : Option (List ℕ)) → content_types_dependency x.content ≡ found
          → AreTypesModulesFrom graph (option_and_then (module_after_redirect graph) found) remaining
          → ((t : List ℕ) → IsSpecifierLookedUp graph Follows queried t → AreTypesModulesFrom graph (module_after_redirect graph t) remaining
          → AreTypesModulesFrom other (module_after_redirect other t) remaining)
          → AreTypesModulesFrom other (option_and_then (module_after_redirect other) found) remaining
      by None is are_later further = nothing remaining are_later
      by (Some t) is are_later further = further t (types_dependency_is_looked_up key x seen are.0 is) are_later

  in_order_here : (key : List ℕ) → IsSpecifierLookedUp graph Follows queried key → (list : List ModuleView)
      → AreTypesModulesFrom other (module_after_redirect other key) list → AreTypesModulesFrom graph (module_after_redirect graph key) list
  in_order_here key seen [] are = tt
  in_order_here key seen (x ∷ remaining) are = let here : module_after_redirect graph key ≡ Some x =
      alike.same_modules key seen ∙ are.0 in (
        here,
        by (content_types_dependency x.content) refl are.1
            (λ t is are_t. in_order_here t (types_dependency_is_looked_up key x seen here is) remaining are_t),
      )
    where
      nothing : (list : List ModuleView) → AreTypesModulesFrom other None list → AreTypesModulesFrom graph None list
      nothing [] e = tt
      nothing (y ∷ ys) e = absurd (none-some y e.0)

      by : (found : Option (List ℕ)) → content_types_dependency x.content ≡ found
          → AreTypesModulesFrom other (option_and_then (module_after_redirect other) found) remaining
          → ((t : List ℕ) → content_types_dependency x.content ≡ Some t → AreTypesModulesFrom other (module_after_redirect other t) remaining
          → AreTypesModulesFrom graph (module_after_redirect graph t) remaining)
          → AreTypesModulesFrom graph (option_and_then (module_after_redirect graph) found) remaining
      by None is are_later further = nothing remaining are_later
      by (Some t) is are_later further = further t is are_later

  chain_there : (key : List ℕ) → IsSpecifierLookedUp graph Follows queried key → (chain : List ModuleView) → IsTypesChain graph key chain
      → IsTypesChain other key chain
  chain_there key seen chain is = record {
    is_types_dependency_path = record {
      in_order = in_order_there key seen chain is.is_types_dependency_path.in_order;
      has_no_duplicates =
          is.is_types_dependency_path.has_no_duplicates;
    };
    is_longest = λ list follows. is.is_longest list (record {
      in_order = in_order_here key seen list follows.in_order;
      has_no_duplicates =
          follows.has_no_duplicates;
    });
  }

  -- the types chain of a seen specifier
  pub same_chain : (key : List ℕ) → IsSpecifierLookedUp graph Follows queried key → types_chain graph key ≡ types_chain other key
  same_chain key seen = (types_chain_is_unique other key).only (types_chain graph key) (chain_there key seen (types_chain graph key)
      (types_chain_is_unique graph key).is_chain)

  -- the module that it resolves to
  pub same_resolved_module : (key : List ℕ) → IsSpecifierLookedUp graph Follows queried key → resolved_module_specifier graph key
      ≡ resolved_module_specifier other key
  same_resolved_module key seen = ap (λ chain. option_map (λ (m : ModuleView). m.specifier) (find is_analyzable (reverse chain))) (same_chain key seen)

  -- the module that a followed specifier resolves to
  pub same_target : (u specifier_text : List ℕ) → IsFound graph Follows queried u → Follows u specifier_text
      → resolve_specifier graph u specifier_text ≡ resolve_specifier other u specifier_text
  same_target u specifier_text at follows =
      by (resolved_dependency graph u specifier_text) refl
      ∙ ap (option_and_then (resolved_module_specifier other)) (alike.same_resolutions at.key u specifier_text at.requested at.resolves follows)
    where
      by : (t : Option (List ℕ)) → resolved_dependency graph u specifier_text ≡ t
          → option_and_then (resolved_module_specifier graph) t ≡ option_and_then (resolved_module_specifier other) t
      by None part_is_symbol = refl
      by (Some t) part_is_symbol =
          same_resolved_module t (is_requested (resolved_specifier_is_looked_up at.key u specifier_text at.requested at.resolves follows part_is_symbol))

  -- a found module with its symbols
  pub same_module : (u : List ℕ) → IsFound graph Follows queried u → module_with_specifier graph u ≡ module_with_specifier other u
  same_module u found =
      let at = found_under_seen graph Follows queried u found in
      subst (λ w. module_with_specifier graph w ≡ module_with_specifier other w) at.specifier_is
      (redirected_module_has_its_specifier graph at.key at.found at.under ∙ sym (redirected_module_has_its_specifier other at.key at.found
      (sym (alike.same_modules at.key at.has) ∙ at.under)))

  pub same_changes : (u : List ℕ) → IsFound graph Follows queried u → table_changes_of_module graph u ≡ table_changes_of_module other u
  same_changes u at =
      ap (λ (found : Option ModuleView). option_map_or table_changes_from_tree_or_json (option_and_then (λ m. analyzable_source m.content) found) [])
      (same_module u at)

  pub same_star_specifiers : (u : List ℕ) → IsFound graph Follows queried u → star_specifiers graph u ≡ star_specifiers other u
  same_star_specifiers u at = ap (λ (changes : List Change). map (λ star. star.specifier_text) (export_stars_after_changes changes)) (same_changes u at)

  -- its `export *` statements, if they are followed
  module _ (stars : (u specifier_text : List ℕ) → IsFound graph Follows queried u → Contains (star_specifiers graph u) specifier_text
      → Follows u specifier_text) where
    pub same_star_targets : (u : List ℕ) → IsFound graph Follows queried u → star_targets_of graph u ≡ star_targets_of other u
    same_star_targets u at =
        same_map (resolve_specifier graph u) (resolve_specifier other u) (star_specifiers graph u)
        (λ specifier_text has. same_target u specifier_text at (stars u specifier_text at has))
        ∙ ap (map (resolve_specifier other u)) (same_star_specifiers u at)

    pub along_found : (start : List ℕ) → IsFound graph Follows queried start → (v : List ℕ) → IsReachedAlongStars (star_targets_of graph) start v
        → IsFound graph Follows queried v
    along_found start at v at_start = at
    along_found start at v (by_star u k before is) =
        let here = along_found start at u before in
        let from = mapped_at (resolve_specifier graph u) (star_specifiers graph u) k None (Some v) is (λ e. none-some v (sym e)) in
        target_found graph Follows queried u from.0 v here (stars u from.0 here from.1) from.2

    pub alike_from : (start : List ℕ) → IsFound graph Follows queried start
        → AreAlikeAlongStars (star_targets_of graph) (explicit_exports_of graph) (star_targets_of other) (explicit_exports_of other) start
    alike_from start at = record {
      same_statements = λ v is. same_star_targets v (along_found start at v is);
      same_explicit = λ v is. ap (λ (changes : List Change). exports_after_changes changes (record { 0 = 0 })) (same_changes v (along_found start at v is));
    }
