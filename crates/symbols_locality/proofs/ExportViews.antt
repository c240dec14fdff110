-- The lists of exports, unresolved statements, shared names and public names are the same in graphs that agree on what is seen.
use Rattle.std.proofs.Common.{◌≡◌, ℕ, List, [], ◌∷◌, map, get_or, unwrap_or, Option, None, Some, option_and_then, refl, sym, ap, ◌∙◌}
use Rattle.std.specs.Prelude.{Contains, flat_map}
use Rattle.std.proofs.lemmas.Option.{none-some}
use Rattle.symbols_ast.specs.Graph.{GraphView}
use Rattle.symbols_table.specs.Changes.{Change, exports_after_changes}
use Rattle.symbols_exports.specs.ExportAnswers.{AreExportListsCorrectAndUnique}
use Rattle.symbols_exports.specs.Chains.{star_target_at, chain_end_module}
use Rattle.symbols_exports.specs.Exports.{ExportEntry, StarPosition}
use Rattle.symbols_exports.specs.PublicNames.{ExportedNameWithMember, exports_of_symbol, public_names_with_members, public_names_of}
use Rattle.symbols_exports.specs.SharedNames.{NameWithExporters}
use Rattle.symbols_exports.specs.SharedNameLists.{shared_names_of, shared_name_view_of_entry, shared_name_views_of_module}
use Rattle.symbols_exports.specs.StarStatements.{star_specifiers, star_targets_of, explicit_exports_of}
use Rattle.symbols_exports.specs.ExportViews.{StarStatementView, ExportView, star_statement_view, chain_statements, export_view_of_entry}
use Rattle.symbols_exports.specs.Traces.{exports_of, unresolved_stars_of, export_views_of_module, unresolved_star_views_of_module}
use Rattle.symbols_locality.proofs.StarReach.{at_start, by_star, AreAlikeAlongStars}
use Rattle.symbols_answers.specs.Seen.{FollowedSpecifierRelation, AreAlikeWhereLookedUp}
use Rattle.symbols_locality.proofs.FoundModules.{IsFound}
use Rattle.symbols_locality.proofs.Lists.{same_map, same_flat}
use Rattle.symbols_locality.proofs.StarChains.{chain_along, reached_along}
use Rattle.symbols_locality.proofs.CarriedExports.{exports_there, unresolved_all_there, shared_there}
use Rattle.symbols_locality.proofs.SeenAlike.{same_changes, same_star_specifiers, same_star_targets, along_found, alike_from}

module _ (graph other : GraphView) (Follows : FollowedSpecifierRelation) (queried : List ℕ) (alike : AreAlikeWhereLookedUp graph other Follows queried)
    (stars : (u specifier_text : List ℕ) → IsFound graph Follows queried u → Contains (star_specifiers graph u) specifier_text → Follows u specifier_text) where
  abbrev Found : List ℕ → Type 0
  Found u = IsFound graph Follows queried u

  star_targets_same : (u : List ℕ) → Found u → star_targets_of graph u ≡ star_targets_of other u
  star_targets_same u at = same_star_targets graph other Follows queried alike stars u at

  further : (u v : List ℕ) (k : ℕ) → Found u → star_target_at (star_targets_of graph) u k ≡ Some v → Found v
  further u v k at is = along_found graph other Follows queried alike stars u at v (by_star u k at_start is)

  -- ---- statements and chains

  same_statement_view : (at : StarPosition) → Found at.0 → star_statement_view graph at ≡ star_statement_view other at
  same_statement_view at found =
      ap (λ (specifiers : List (List ℕ)). (at.0, get_or specifiers at.1 [])) (same_star_specifiers graph other Follows queried alike at.0 found)

  same_chain_statements : (u : List ℕ) → Found u → (chain end : List ℕ) → chain_end_module (star_targets_of graph) u chain ≡ Some end
      → chain_statements graph u chain ≡ chain_statements other u chain
  same_chain_statements u at [] end is = refl
  same_chain_statements u at (k ∷ remaining) end is =
      by (star_target_at (star_targets_of graph) u k) refl is (λ v at_v. same_chain_statements v at_v remaining end) (same_statement_view (u, k) at)
    where
      by : (found : Option (List ℕ)) → star_target_at (star_targets_of graph) u k ≡ found
          → option_and_then (λ w. chain_end_module (star_targets_of graph) w remaining) found ≡ Some end
          → ((v : List ℕ) → Found v → chain_end_module (star_targets_of graph) v remaining ≡ Some end
          → chain_statements graph v remaining ≡ chain_statements other v remaining) → star_statement_view graph (u, k) ≡ star_statement_view other (u, k)
          → star_statement_view graph (u, k) ∷ chain_statements graph
          (unwrap_or (star_target_at (star_targets_of graph) u k) []) remaining ≡ star_statement_view other (u, k) ∷ chain_statements other
          (unwrap_or (star_target_at (star_targets_of other) u k) []) remaining
      by None part_is_symbol e on head = absurd (none-some end e)
      by (Some v) part_is_symbol e on head =
          let there : star_target_at (star_targets_of other) u k ≡ Some v =
          sym (ap (λ (list : List (Option (List ℕ))). get_or list k None) (star_targets_same u at)) ∙ part_is_symbol in
          let one : chain_statements graph (unwrap_or (star_target_at (star_targets_of graph) u k) []) remaining ≡ chain_statements graph v remaining =
          ap (λ (found : Option (List ℕ)). chain_statements graph (unwrap_or found []) remaining) part_is_symbol in
          let two : chain_statements other (unwrap_or (star_target_at (star_targets_of other) u k) []) remaining ≡ chain_statements other v remaining =
          ap (λ (found : Option (List ℕ)). chain_statements other (unwrap_or found []) remaining) there in
          let tail : chain_statements graph (unwrap_or (star_target_at (star_targets_of graph) u k) []) remaining ≡ chain_statements other
          (unwrap_or (star_target_at (star_targets_of other) u k) []) remaining = one ∙ (on v (further u v k at part_is_symbol) e ∙ sym two) in
          cc

module _ (graph other : GraphView) (Follows : FollowedSpecifierRelation) (queried : List ℕ) (alike : AreAlikeWhereLookedUp graph other Follows queried)
    (stars : (u specifier_text : List ℕ) → IsFound graph Follows queried u → Contains (star_specifiers graph u) specifier_text → Follows u specifier_text)
    (start : List ℕ) (at : IsFound graph Follows queried start) (listed : AreExportListsCorrectAndUnique graph start)
    (other_listed : AreExportListsCorrectAndUnique other start) where
  abbrev here : AreAlikeAlongStars (star_targets_of graph) (explicit_exports_of graph) (star_targets_of other) (explicit_exports_of other) start
  here = alike_from graph other Follows queried alike stars start at

  end_found : (chain end : List ℕ) → chain_end_module (star_targets_of graph) start chain ≡ Some end → IsFound graph Follows queried end
  end_found chain end is =
      along_found graph other Follows queried alike stars start at end (chain_along (star_targets_of graph) start start at_start chain end is)

  same_export_view : (e : ExportEntry) → chain_end_module (star_targets_of graph) start e.chain ≡ Some e.exporter
      → export_view_of_entry graph start e ≡ export_view_of_entry other start e
  same_export_view e ends =
      ap (λ (statements : List StarStatementView). record { name = e.name; statements = statements; exporter = e.exporter; symbol = e.symbol })
      (same_chain_statements graph other Follows queried alike stars start at e.chain e.exporter ends)

  chain_ends_at : (e : ExportEntry) → Contains (exports_of graph start) e → chain_end_module (star_targets_of graph) start e.chain ≡ Some e.exporter
  chain_ends_at e has = ((listed.are_exports.all e).0 has).candidate.ends_at.ends_at

  pub exporter_found : (e : ExportEntry) → Contains (exports_of graph start) e → IsFound graph Follows queried e.exporter
  exporter_found e has = end_found e.chain e.exporter (chain_ends_at e has)

  -- ---- the computed lists

  pub same_exports : exports_of graph start ≡ exports_of other start
  same_exports =
      other_listed.exports_are_unique (exports_of graph start)
      (exports_there (star_targets_of graph) (explicit_exports_of graph) (star_targets_of other) (explicit_exports_of other) start here
      (exports_of graph start) listed.are_exports)

  same_unresolved : unresolved_stars_of graph start ≡ unresolved_stars_of other start
  same_unresolved =
      other_listed.unresolved_are_unique (unresolved_stars_of graph start)
      (unresolved_all_there (star_targets_of graph) (explicit_exports_of graph) (star_targets_of other) (explicit_exports_of other) start here
      (unresolved_stars_of graph start) listed.are_unresolved)

  same_shared_names : shared_names_of graph start ≡ shared_names_of other start
  same_shared_names =
      other_listed.shared_are_unique (shared_names_of graph start)
      (shared_there (star_targets_of graph) (explicit_exports_of graph) (star_targets_of other) (explicit_exports_of other) start here
      (shared_names_of graph start) listed.are_shared)

  -- ---- the lists as answers return them

  pub same_export_views : export_views_of_module graph start ≡ export_views_of_module other start
  same_export_views =
      same_map (export_view_of_entry graph start) (export_view_of_entry other start) (exports_of graph start)
      (λ e has. same_export_view e (chain_ends_at e has))
      ∙ ap (map (export_view_of_entry other start)) same_exports

  pub same_unresolved_views : unresolved_star_views_of_module graph start ≡ unresolved_star_views_of_module other start
  same_unresolved_views =
      same_map (star_statement_view graph) (star_statement_view other) (unresolved_stars_of graph start)
      (λ statement has. same_statement_view graph other Follows queried alike stars statement
      (along_found graph other Follows queried alike stars start at statement.0
      (reached_along (star_targets_of graph) start statement.0 ((listed.are_unresolved.all statement).0 has).0)))
      ∙ ap (map (star_statement_view other)) same_unresolved

  same_shared_name_view : (shared : NameWithExporters ExportEntry) → Contains (shared_names_of graph start) shared
      → shared_name_view_of_entry graph start shared ≡ shared_name_view_of_entry other start shared
  same_shared_name_view shared has =
      ap (λ (exporters : List ExportView). record { name = shared.name; exporters = exporters })
      (same_map (export_view_of_entry graph start) (export_view_of_entry other start) shared.exporters
      (λ e exporter. same_export_view e ((((listed.are_shared.all shared).0 has).exporters e).0 exporter).ends_at.is_chain.ends_at))

  pub same_shared_name_views : shared_name_views_of_module graph start ≡ shared_name_views_of_module other start
  same_shared_name_views =
      same_map (shared_name_view_of_entry graph start) (shared_name_view_of_entry other start) (shared_names_of graph start) same_shared_name_view
      ∙ ap (map (shared_name_view_of_entry other start)) same_shared_names

  pub same_names : public_names_of graph start ≡ public_names_of other start
  same_names = same_flat (items graph) (items other) (exports_of graph start) each ∙ ap (flat_map (items other)) same_exports
    where
      items : GraphView → ExportEntry → List ExportedNameWithMember
      items g e = public_names_with_members e.name (exports_of_symbol g e.exporter e.symbol)

      each : (e : ExportEntry) → Contains (exports_of graph start) e → items graph e ≡ items other e
      each e has =
          ap (λ (changes : List Change). public_names_with_members e.name (exports_after_changes changes e.symbol))
          (same_changes graph other Follows queried alike e.exporter (end_found e.chain e.exporter (chain_ends_at e has)))
