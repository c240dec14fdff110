-- A search for definitions has alike routes in graphs that agree on what it looks up, and references are to the same symbols.
use Rattle.std.proofs.Common.{◌≡◌, ℕ, List, [], ◌∷◌, Option, None, Some, option_map, refl, ap, subst}
use Rattle.std.proofs.lemmas.Option.{none-some, same_Some}
use Rattle.symbols_ast.specs.declared.ids.SymbolId.{SymbolId}
use Rattle.symbols_ast.specs.Graph.{GraphView}
use Rattle.symbols_ast.specs.Ids.{IdView}
use Rattle.symbols_nodes.specs.References.{SymbolReference, id, qualified_id, import_type}
use Rattle.symbols_table.specs.Changes.{Change, symbol_of_ident_after_changes}
use Rattle.symbols_root.specs.declared.rules.Rules.{Rules}
use Rattle.symbols_exports.specs.ExportAnswers.{AreExportListsCorrectAndUnique}
use Rattle.symbols_exports.specs.StarStatements.{resolve_specifier}
use Rattle.symbols_paths.specs.PathTrees.{QualifiedNameParts}
use Rattle.symbols_paths.specs.DeclTargets.{symbol_of_id}
use Rattle.symbols_paths.specs.PartTargets.{PartTargetView, part_is_symbol, itself, part_is_unresolved, search_targets_of, import_part_target}
use Rattle.symbols_paths.specs.DepAnswers.{path_entries, ReferencedSymbolWithParts, symbol_referenced_by_id, symbol_referenced_by_part, referenced_symbol}
use Rattle.symbols_paths.specs.DepAnswers.{unresolved_part_path}
use Rattle.symbols_paths.specs.DepAnswers.{entry_of_imported_module, entries_of_reference_without_symbol}
use Rattle.symbols_answers.specs.Questions.{QuestionView, IsFollowedBySearch, star_specifier_is_followed, import_specifier_is_followed}
use Rattle.symbols_answers.specs.Seen.{FollowedSpecifierRelation, AreAlikeWhereLookedUp}
use Rattle.symbols_locality.proofs.FoundModules.{IsFound}
use Rattle.symbols_locality.proofs.AlikeRoutes.{AreRoutesAlike}
use Rattle.symbols_locality.proofs.SearchMarks.{FollowsStars, FollowsImports, marks_of}
use Rattle.symbols_locality.proofs.SeenAlike.{same_changes, same_target}
use Rattle.symbols_locality.proofs.RoutesAlike.{routes_alike, import_part_same, import_part_found}

module _ (rules : Rules) (graph other : GraphView) (listed : (start : List ℕ) → AreExportListsCorrectAndUnique graph start)
    (other_listed : (start : List ℕ) → AreExportListsCorrectAndUnique other start) (queried : List ℕ) (question : QuestionView)
    (alike : AreAlikeWhereLookedUp graph other (IsFollowedBySearch graph queried question) queried) where
  abbrev Follows : FollowedSpecifierRelation
  Follows = IsFollowedBySearch graph queried question

  abbrev Found : List ℕ → Type 0
  Found v = IsFound graph Follows queried v

  stars : FollowsStars graph Follows queried
  stars v specifier_text at has = star_specifier_is_followed has

  imports : FollowsImports graph Follows queried
  imports s decl name specifier_text at has is = import_specifier_is_followed s decl name has is

  pub routes : AreRoutesAlike (search_targets_of rules graph) (search_targets_of rules other) (marks_of graph Follows queried)
  routes = routes_alike rules graph other Follows queried alike stars imports listed other_listed

  -- ---- names

  by_id_same : (v : List ℕ) → Found v → (name : IdView) (parts : QualifiedNameParts) → symbol_referenced_by_id graph v name parts
      ≡ symbol_referenced_by_id other v name parts
  by_id_same v at name parts =
      ap (λ (changes : List Change). option_map (λ (t : SymbolId). (record { specifier = v; number = t }, parts)) (symbol_of_ident_after_changes changes name))
      (same_changes graph other Follows queried alike v at)

  by_id_found : (v : List ℕ) → Found v → (name : IdView) (parts : QualifiedNameParts) (t : ReferencedSymbolWithParts)
      → symbol_referenced_by_id graph v name parts ≡ Some t
      → Found t.0.specifier
  by_id_found v at name parts t is = by (symbol_of_id graph v name) is
    where
      by : (n : Option SymbolId) → option_map (λ (m : SymbolId). (record { specifier = v; number = m }, parts)) n ≡ Some t → Found t.0.specifier
      by None e = absurd (none-some t e)
      by (Some n) e =
          let same : v ≡ t.0.specifier = ap (λ (w : ReferencedSymbolWithParts). w.0.specifier) (same_Some (record { specifier = v; number = n }, parts) t e) in
          subst Found same at

  -- ---- import types

  part_same : (v specifier_text part : List ℕ) (remaining : QualifiedNameParts) → Found v → Follows v specifier_text
      → import_part_target graph v specifier_text part remaining (resolve_specifier graph v specifier_text)
      ≡ import_part_target other v specifier_text part remaining (resolve_specifier other v specifier_text)
  part_same v specifier_text part remaining at follows =
      import_part_same rules graph other Follows queried alike stars imports listed other_listed v specifier_text part remaining at follows

  by_part_found : (v specifier_text part : List ℕ) (remaining : QualifiedNameParts) → Found v → Follows v specifier_text → (t : ReferencedSymbolWithParts)
      → symbol_referenced_by_part remaining (import_part_target graph v specifier_text part remaining (resolve_specifier graph v specifier_text)) ≡ Some t
      → Found t.0.specifier
  by_part_found v specifier_text part remaining at follows t is = by target refl is
    where
      target : PartTargetView
      target = import_part_target graph v specifier_text part remaining (resolve_specifier graph v specifier_text)

      by : (found : PartTargetView) → target ≡ found → symbol_referenced_by_part remaining found ≡ Some t → Found t.0.specifier
      by (part_is_symbol u) resolves e =
          let same : u.specifier ≡ t.0.specifier = ap (λ (w : ReferencedSymbolWithParts). w.0.specifier) (same_Some (u, remaining) t e) in
          subst Found same
          (import_part_found rules graph other Follows queried alike stars imports listed other_listed v specifier_text part remaining at follows u resolves)
      by itself resolves e = absurd (none-some t e)
      by (part_is_unresolved m) resolves e = absurd (none-some t e)

  -- ---- all references

  -- the specifier of the reference is followed if it is an import type
  abbrev pub IsReferenceFollowed : List ℕ → SymbolReference → Type 0
  IsReferenceFollowed v reference = (specifier_text : List ℕ) (parts : QualifiedNameParts) → reference ≡ import_type specifier_text parts
      → Follows v specifier_text

  pub referenced_same : (v : List ℕ) → Found v → (reference : SymbolReference) → IsReferenceFollowed v reference
      → referenced_symbol graph v reference ≡ referenced_symbol other v reference
  referenced_same v at (id name) follows = by_id_same v at name []
  referenced_same v at (qualified_id name parts) follows = by_id_same v at name parts
  referenced_same v at (import_type specifier_text []) follows = refl
  referenced_same v at (import_type specifier_text (part ∷ remaining)) follows =
      ap (symbol_referenced_by_part remaining) (part_same v specifier_text part remaining at (follows specifier_text (part ∷ remaining) refl))

  pub referenced_found : (v : List ℕ) → Found v → (reference : SymbolReference) → IsReferenceFollowed v reference → (t : ReferencedSymbolWithParts)
      → referenced_symbol graph v reference ≡ Some t → Found t.0.specifier
  referenced_found v at (id name) follows t is = by_id_found v at name [] t is
  referenced_found v at (qualified_id name parts) follows t is = by_id_found v at name parts t is
  referenced_found v at (import_type specifier_text []) follows t is = absurd (none-some t is)
  referenced_found v at (import_type specifier_text (part ∷ remaining)) follows t is =
      by_part_found v specifier_text part remaining at (follows specifier_text (part ∷ remaining) refl) t is

  pub without_symbol_same : (v : List ℕ) → Found v → (reference : SymbolReference) → IsReferenceFollowed v reference
      → entries_of_reference_without_symbol graph v reference ≡ entries_of_reference_without_symbol other v reference
  without_symbol_same v at (id name) follows = refl
  without_symbol_same v at (qualified_id name parts) follows = refl
  without_symbol_same v at (import_type specifier_text []) follows =
      ap (λ (found : Option (List ℕ)). entry_of_imported_module v specifier_text found ∷ [])
      (same_target graph other Follows queried alike v specifier_text at (follows specifier_text [] refl))
  without_symbol_same v at (import_type specifier_text (part ∷ remaining)) follows =
      ap (λ (target : PartTargetView). path_entries (unresolved_part_path target))
      (part_same v specifier_text part remaining at (follows specifier_text (part ∷ remaining) refl))
