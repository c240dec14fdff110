-- The targets of declarations and of parts are the same in graphs that agree on what is seen, and are symbols of found modules.
use Rattle.std.proofs.Common.{◌≡◌, ℕ, Bool, true, false, List, [], ◌∷◌, map, find, slice_get, Option, None, Some, option_map, refl, ap, subst, ◌∙◌}
use Rattle.std.specs.Prelude.{Contains, if◌then◌else◌, ◌&&◌, IfSome}
use Rattle.std.specs.List.{filter_map}
use Rattle.std.specs.Map.{lookup}
use Rattle.std.specs.Option.{option_map_or}
use Rattle.std.specs.Str.{bytes_eq}
use Rattle.std.proofs.lemmas.Option.{none-some, same_Some}
use Rattle.symbols_ast.specs.declared.ids.SymbolId.{SymbolId}
use Rattle.symbols_ast.specs.Graph.{GraphView}
use Rattle.symbols_ast.specs.Ids.{IdView}
use Rattle.symbols_nodes.specs.NodeTests.{is_class_exported_or_not}
use Rattle.symbols_table.specs.DeclViews.{all_names, one_name, FileDepView, DeclKindView, target, qualified_target, file_ref, definition, Declaration}
use Rattle.symbols_table.specs.DeclViews.{decl_node_satisfies}
use Rattle.symbols_table.specs.SymbolViews.{SymbolView, symbol_after_changes}
use Rattle.symbols_table.specs.Changes.{Change, exports_after_changes, symbol_of_ident_after_changes}
use Rattle.symbols_root.specs.declared.rules.Rules.{Rules}
use Rattle.symbols_root.specs.GraphModules.{table_changes_of_module}
use Rattle.symbols_exports.specs.ExportAnswers.{AreExportListsCorrectAndUnique}
use Rattle.symbols_exports.specs.Exports.{ExportEntry}
use Rattle.symbols_exports.specs.OneName.{find_export}
use Rattle.symbols_exports.specs.StarStatements.{star_specifiers, resolve_specifier, star_targets_of}
use Rattle.symbols_exports.specs.Traces.{exports_of}
use Rattle.symbols_paths.specs.PathTrees.{SymbolBySpecifier, DeclBySpecifier, QualifiedNameParts, no_part}
use Rattle.symbols_paths.specs.DeclTargets.{forwards, symbol_of_id, explicit_export, re_exported_symbol, re_exported_symbols, searches_stars_for}
use Rattle.symbols_paths.specs.DeclTargets.{re_exported_symbols_by_rules, forward_target_into_module, forward_target_of_import, forward_target_within_module}
use Rattle.symbols_paths.specs.DeclTargets.{alias_target, target_of_decl, declarations_of}
use Rattle.symbols_paths.specs.PartTargets.{part_is_symbol, itself, part_is_unresolved, export_of_symbol, prototype_name, is_class_decl_at}
use Rattle.symbols_paths.specs.PartTargets.{exported_part_target, module_part_target}
use Rattle.symbols_paths.specs.PartTargets.{import_part_target, definition_part_target, search_targets_of}
use Rattle.symbols_answers.specs.Seen.{FollowedSpecifierRelation, AreAlikeWhereLookedUp}
use Rattle.symbols_locality.proofs.FoundModules.{IsFound}
use Rattle.symbols_locality.proofs.AlikeRoutes.{Marks, IsMarkedTarget, AreMarkedTargets, AreRoutesAlike}
use Rattle.symbols_locality.proofs.SearchMarks.{FollowsStars, FollowsImports, marks_of}
use Rattle.symbols_locality.proofs.Lists.{contains_first, contains_later, contains_nothing, only_one, same_map, found_there, mapped_from, filtered_from}
use Rattle.symbols_locality.proofs.Lists.{same_filtered}
use Rattle.symbols_locality.proofs.SeenAlike.{same_changes, same_star_targets, same_target, target_found}
use Rattle.symbols_locality.proofs.ExportViews.{same_exports, exporter_found}

module _ (rules : Rules) (graph other : GraphView) (Follows : FollowedSpecifierRelation) (queried : List ℕ)
    (alike : AreAlikeWhereLookedUp graph other Follows queried) (stars : FollowsStars graph Follows queried) (imports : FollowsImports graph Follows queried)
    (listed : (start : List ℕ) → AreExportListsCorrectAndUnique graph start)
    (other_listed : (start : List ℕ) → AreExportListsCorrectAndUnique other start) where
  abbrev Found : List ℕ → Type 0
  Found u = IsFound graph Follows queried u

  changes_same : (u : List ℕ) → Found u → table_changes_of_module graph u ≡ table_changes_of_module other u
  changes_same u at = same_changes graph other Follows queried alike u at

  declarations_same : (s : SymbolBySpecifier) → Found s.specifier → declarations_of graph s ≡ declarations_of other s
  declarations_same s at =
      ap (λ (changes : List Change). option_map_or (λ (symbol : SymbolView). symbol.decls) (symbol_after_changes changes s.number) [])
      (changes_same s.specifier at)

  named_same : (u name : List ℕ) → Found u → find_export graph u name ≡ find_export other u name
  named_same u name at =
      ap (find (λ (entry : ExportEntry). bytes_eq name entry.name)) (same_exports graph other Follows queried alike stars u at (listed u) (other_listed u))

  named_found : (u name : List ℕ) (entry : ExportEntry) → Found u → find_export graph u name ≡ Some entry → Found entry.exporter
  named_found u name entry at is =
      exporter_found graph other Follows queried alike stars u at (listed u) (other_listed u) entry
      (found_there (λ (e : ExportEntry). bytes_eq name e.name) (exports_of graph u) entry is)

  -- ---- along `export *`

  next_found : (u next : List ℕ) → Found u → Contains (star_targets_of graph u) (Some next) → Found next
  next_found u next at has =
      let from = mapped_from (resolve_specifier graph u) (star_specifiers graph u) (Some next) has in
      target_found graph Follows queried u from.0 next at (stars u from.0 at from.1) from.2

  along_same : (name u : List ℕ) → Found u → (target_specifier : Option (List ℕ)) → Contains (star_targets_of graph u) target_specifier
      → re_exported_symbol graph name target_specifier ≡ re_exported_symbol other name target_specifier
  along_same name u at None has = refl
  along_same name u at (Some next) has =
      ap (option_map (λ (entry : ExportEntry). record { specifier = entry.exporter; number = entry.symbol })) (named_same next name (next_found u next at has))

  re_exported_same : (name u : List ℕ) → Found u → re_exported_symbols_by_rules rules graph u name ≡ re_exported_symbols_by_rules rules other u name
  re_exported_same name u at =
      ap (λ (found : List SymbolBySpecifier). if searches_stars_for rules name then found else [])
      (same_filtered (re_exported_symbol graph name) (re_exported_symbol other name) (star_targets_of graph u) (along_same name u at)
      ∙ ap (filter_map (re_exported_symbol other name)) (same_star_targets graph other Follows queried alike stars u at))

  re_exported_found : (name u : List ℕ) → Found u → (c : SymbolBySpecifier) → Contains (re_exported_symbols_by_rules rules graph u name) c → Found c.specifier
  re_exported_found name u at c has = by (searches_stars_for rules name) has
    where
      of_entry : (next : List ℕ) → Found next → (entry : Option ExportEntry) → find_export graph next name ≡ entry
          → option_map (λ (e : ExportEntry). record { specifier = e.exporter; number = e.symbol }) entry ≡ Some c → Found c.specifier
      of_entry next next_at None is e = absurd (none-some c e)
      of_entry next next_at (Some entry) is e =
          let exporter : entry.exporter ≡ c.specifier =
          ap (λ (d : SymbolBySpecifier). d.specifier) (same_Some (record { specifier = entry.exporter; number = entry.symbol }) c e) in
          subst Found exporter (named_found next name entry next_at is)

      of_target : (target_specifier : Option (List ℕ)) → Contains (star_targets_of graph u) target_specifier
          → re_exported_symbol graph name target_specifier ≡ Some c → Found c.specifier
      of_target None there e = absurd (none-some c e)
      of_target (Some next) there e = of_entry next (next_found u next at there) (find_export graph next name) refl e

      by : (b : Bool) → Contains (if b then re_exported_symbols graph u name else []) c → Found c.specifier
      by true here = let from = filtered_from (re_exported_symbol graph name) (star_targets_of graph u) c here in of_target from.0 from.1 from.2
      by false here = absurd (contains_nothing c here)

  -- ---- imports

  into_same : (s : SymbolBySpecifier) (name v : List ℕ) → Found v
      → forward_target_into_module rules graph s name v (explicit_export graph v name) ≡ forward_target_into_module rules other s name v
      (explicit_export other v name)
  into_same s name v at = by (explicit_export graph v name) ∙ ap (forward_target_into_module rules other s name v) same_export
    where
      same_export : explicit_export graph v name ≡ explicit_export other v name
      same_export = ap (λ (changes : List Change). lookup (λ key. bytes_eq name key) (exports_after_changes changes (record { 0 = 0 }))) (changes_same v at)

      by : (explicit : Option SymbolId) → forward_target_into_module rules graph s name v explicit ≡ forward_target_into_module rules other s name v explicit
      by (Some explicit) = refl
      by None =
          ap (λ (candidates : List SymbolBySpecifier). record {
            symbol = s;
            parts = [];
            candidates = candidates;
            otherwise = Some (record { specifier = v; reason = no_part name; parts = [] });
          }) (re_exported_same name v at)

  into_found : (s : SymbolBySpecifier) (name v : List ℕ) → Found v → (explicit : Option SymbolId) → (c : SymbolBySpecifier)
      → Contains (forward_target_into_module rules graph s name v explicit).candidates c → Found c.specifier
  into_found s name v at (Some explicit) c has =
      subst (λ (d : SymbolBySpecifier). Found d.specifier) (only_one (record { specifier = v; number = explicit }) c has) at
  into_found s name v at None c has = re_exported_found name v at c has

  import_same : (s : SymbolBySpecifier) (name specifier_text : List ℕ) → Found s.specifier → Follows s.specifier specifier_text
      → forward_target_of_import rules graph s name specifier_text (resolve_specifier graph s.specifier specifier_text)
      ≡ forward_target_of_import rules other s name specifier_text
      (resolve_specifier other s.specifier specifier_text)
  import_same s name specifier_text at follows =
      by (resolve_specifier graph s.specifier specifier_text) refl
      ∙ ap (forward_target_of_import rules other s name specifier_text) (same_target graph other Follows queried alike s.specifier specifier_text at follows)
    where
      by : (found : Option (List ℕ)) → resolve_specifier graph s.specifier specifier_text ≡ found
          → forward_target_of_import rules graph s name specifier_text found ≡ forward_target_of_import rules other s name specifier_text found
      by None is = refl
      by (Some v) is = into_same s name v (target_found graph Follows queried s.specifier specifier_text v at follows is)

  import_found : (s : SymbolBySpecifier) (name specifier_text : List ℕ) → Found s.specifier → Follows s.specifier specifier_text → (found : Option (List ℕ))
      → resolve_specifier graph s.specifier specifier_text ≡ found → (c : SymbolBySpecifier)
      → Contains (forward_target_of_import rules graph s name specifier_text found).candidates c → Found c.specifier
  import_found s name specifier_text at follows None is c has = absurd (contains_nothing c has)
  import_found s name specifier_text at follows (Some v) is c has =
      into_found s name v (target_found graph Follows queried s.specifier specifier_text v at follows is) (explicit_export graph v name) c has

  -- ---- declarations

  target_same : (s : SymbolBySpecifier) → Found s.specifier → (decl : Declaration) → Contains (declarations_of graph s) decl
      → target_of_decl rules graph s decl.range decl.kind ≡ target_of_decl rules other s decl.range decl.kind
  target_same s at decl has = by decl.kind refl
    where
      by : (kind : DeclKindView) → decl.kind ≡ kind → target_of_decl rules graph s decl.range kind ≡ target_of_decl rules other s decl.range kind
      by (definition n) is = refl
      by (file_ref all_names specifier_text) is = refl
      by (file_ref (one_name name) specifier_text) is =
          ap forwards (import_same s name specifier_text at (imports s decl (one_name name) specifier_text at has is))
      by (target id) is = ap (λ (changes : List Change). forwards (forward_target_within_module s (symbol_of_ident_after_changes changes id)))
          (changes_same s.specifier at)
      by (qualified_target id parts) is = ap (λ (changes : List Change). alias_target s id parts (symbol_of_ident_after_changes changes id))
          (changes_same s.specifier at)

  abbrev marks : Marks
  marks = marks_of graph Follows queried

  same_module_marked : (s : SymbolBySpecifier) → Found s.specifier → (t : Option SymbolId) → (c : SymbolBySpecifier)
      → Contains (forward_target_within_module s t).candidates c → Found c.specifier
  same_module_marked s at None c has = absurd (contains_nothing c has)
  same_module_marked s at (Some t) c has =
      subst (λ (d : SymbolBySpecifier). Found d.specifier) (only_one (record { specifier = s.specifier; number = t }) c has) at

  alias_marked : (s : SymbolBySpecifier) → Found s.specifier → (id : IdView) (parts : QualifiedNameParts) (t : Option SymbolId)
      → IsMarkedTarget marks s (alias_target s id parts t)
  alias_marked s at id parts None = λ c has. absurd (contains_nothing c has)
  alias_marked s at id parts (Some t) = at

  target_marked : (s : SymbolBySpecifier) → Found s.specifier → (decl : Declaration) → Contains (declarations_of graph s) decl
      → IsMarkedTarget marks s (target_of_decl rules graph s decl.range decl.kind)
  target_marked s at decl has = by decl.kind refl
    where
      by : (kind : DeclKindView) → decl.kind ≡ kind → IsMarkedTarget marks s (target_of_decl rules graph s decl.range kind)
      by (definition n) is = λ i. (at, tt)
      by (file_ref all_names specifier_text) is = λ i. (at, imports s decl all_names specifier_text at has is)
      by (file_ref (one_name name) specifier_text) is =
          import_found s name specifier_text at (imports s decl (one_name name) specifier_text at has is)
          (resolve_specifier graph s.specifier specifier_text) refl
      by (target id) is = same_module_marked s at (symbol_of_id graph s.specifier id)
      by (qualified_target id parts) is = alias_marked s at id parts (symbol_of_id graph s.specifier id)

  all_marked : (s : SymbolBySpecifier) (decls : List Declaration)
      → ((decl : Declaration) → Contains decls decl → IsMarkedTarget marks s (target_of_decl rules graph s decl.range decl.kind))
      → AreMarkedTargets marks s (map (λ (decl : Declaration). target_of_decl rules graph s decl.range decl.kind) decls)
  all_marked s [] each = tt
  all_marked s (decl ∷ remaining) each =
      (each decl (contains_first decl remaining), all_marked s remaining (λ x has. each x (contains_later decl remaining x has)))

  -- ---- parts

  exported_part_same : (decl : DeclBySpecifier) (p : List ℕ) (ps : QualifiedNameParts) → Found decl.symbol.specifier
      → exported_part_target graph decl p ps (export_of_symbol graph decl.symbol p) ≡ exported_part_target other decl p ps
      (export_of_symbol other decl.symbol p)
  exported_part_same decl p ps at = by (export_of_symbol graph decl.symbol p) ∙ ap (exported_part_target other decl p ps) exported
    where
      exported : export_of_symbol graph decl.symbol p ≡ export_of_symbol other decl.symbol p
      exported =
          ap (λ (changes : List Change). lookup (λ key. bytes_eq p key)
          (option_map_or (λ (symbol : SymbolView). symbol.exports) (symbol_after_changes changes decl.symbol.number) []))
          (changes_same decl.symbol.specifier at)

      by : (u : Option SymbolId) → exported_part_target graph decl p ps u ≡ exported_part_target other decl p ps u
      by (Some u) = refl
      by None =
          ap (λ (decls : List Declaration). if bytes_eq prototype_name p && option_map_or (decl_node_satisfies is_class_exported_or_not)
          (slice_get decls decl.index) false then itself else part_is_unresolved
          (record { specifier = decl.symbol.specifier; reason = no_part p; parts = p ∷ ps }))
          (declarations_same decl.symbol at)

  pub import_part_same : (u specifier_text p : List ℕ) (ps : QualifiedNameParts) → Found u → Follows u specifier_text
      → import_part_target graph u specifier_text p ps (resolve_specifier graph u specifier_text) ≡ import_part_target other u specifier_text p ps
      (resolve_specifier other u specifier_text)
  import_part_same u specifier_text p ps at follows =
      by (resolve_specifier graph u specifier_text) refl
      ∙ ap (import_part_target other u specifier_text p ps) (same_target graph other Follows queried alike u specifier_text at follows)
    where
      by : (found : Option (List ℕ)) → resolve_specifier graph u specifier_text ≡ found
          → import_part_target graph u specifier_text p ps found ≡ import_part_target other u specifier_text p ps found
      by None is = refl
      by (Some v) is = ap (module_part_target v p ps) (named_same v p (target_found graph Follows queried u specifier_text v at follows is))

  pub import_part_found : (u specifier_text p : List ℕ) (ps : QualifiedNameParts) → Found u → Follows u specifier_text → (t : SymbolBySpecifier)
      → import_part_target graph u specifier_text p ps (resolve_specifier graph u specifier_text) ≡ part_is_symbol t → Found t.specifier
  import_part_found u specifier_text p ps at follows t e = by (resolve_specifier graph u specifier_text) refl e
    where
      of_entry : (v : List ℕ) → Found v → (entry : Option ExportEntry) → find_export graph v p ≡ entry → module_part_target v p ps entry ≡ part_is_symbol t
          → Found t.specifier
      of_entry v v_at None is e = absurd cc
      of_entry v v_at (Some entry) is e =
          let same : record { specifier = entry.exporter; number = entry.symbol } ≡ t = cc in
          subst (λ (d : SymbolBySpecifier). Found d.specifier) same (named_found v p entry v_at is)

      by : (found : Option (List ℕ)) → resolve_specifier graph u specifier_text ≡ found → import_part_target graph u specifier_text p ps found
          ≡ part_is_symbol t
          → Found t.specifier
      by None is e = absurd cc
      by (Some v) is e = of_entry v (target_found graph Follows queried u specifier_text v at follows is) (find_export graph v p) refl e

  exported_part_found : (decl : DeclBySpecifier) (p : List ℕ) (ps : QualifiedNameParts) → Found decl.symbol.specifier → (t : SymbolBySpecifier)
      → exported_part_target graph decl p ps (export_of_symbol graph decl.symbol p) ≡ part_is_symbol t → Found t.specifier
  exported_part_found decl p ps at t e = by (export_of_symbol graph decl.symbol p) e
    where
      never : (b : Bool) → (if b then itself else part_is_unresolved (record { specifier = decl.symbol.specifier; reason = no_part p; parts = p ∷ ps }))
          ≡ part_is_symbol t → ⊥
      never true e = cc
      never false e = cc

      by : (u : Option SymbolId) → exported_part_target graph decl p ps u ≡ part_is_symbol t → Found t.specifier
      by (Some u) e =
          let same : record { specifier = decl.symbol.specifier; number = u } ≡ t = cc in
          subst (λ (d : SymbolBySpecifier). Found d.specifier) same at
      by None e = absurd (never (bytes_eq prototype_name p && is_class_decl_at graph decl) e)

  -- ---- the routes of a search

  pub routes_alike : AreRoutesAlike (search_targets_of rules graph) (search_targets_of rules other) marks
  routes_alike = record {
    same_targets =
        λ s at. same_map (λ (decl : Declaration). target_of_decl rules graph s decl.range decl.kind)
        (λ (decl : Declaration). target_of_decl rules other s decl.range decl.kind) (declarations_of graph s) (target_same s at)
        ∙ ap (map (λ (decl : Declaration). target_of_decl rules other s decl.range decl.kind)) (declarations_same s at);
    marked_targets = λ s at. all_marked s (declarations_of graph s) (target_marked s at);
    same_parts = λ x p ps is. part_same x.decl p ps is.0 x.star is.1;
    marked_parts = λ x p ps t is e. part_found x.decl p ps is.0 x.star is.1 t e;
  }
    where
      part_same : (decl : DeclBySpecifier) (p : List ℕ) (ps : QualifiedNameParts) → Found decl.symbol.specifier → (star : Option FileDepView)
          → IfSome star (λ (dep : FileDepView). Follows decl.symbol.specifier dep.specifier)
          → definition_part_target graph decl p ps star ≡ definition_part_target other decl p ps star
      part_same decl p ps at None follows = exported_part_same decl p ps at
      part_same decl p ps at (Some dep) follows = import_part_same decl.symbol.specifier dep.specifier p ps at follows

      part_found : (decl : DeclBySpecifier) (p : List ℕ) (ps : QualifiedNameParts) → Found decl.symbol.specifier → (star : Option FileDepView)
          → IfSome star (λ (dep : FileDepView). Follows decl.symbol.specifier dep.specifier) → (t : SymbolBySpecifier)
          → definition_part_target graph decl p ps star ≡ part_is_symbol t → Found t.specifier
      part_found decl p ps at None follows t e = exported_part_found decl p ps at t e
      part_found decl p ps at (Some dep) follows t e = import_part_found decl.symbol.specifier dep.specifier p ps at follows t e
