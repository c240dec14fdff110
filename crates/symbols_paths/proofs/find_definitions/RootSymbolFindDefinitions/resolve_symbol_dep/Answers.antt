use Rattle.std.proofs.Common.{◌≡◌, ◌<◌, [], length, map, inr, sym, ap, subst, ◌∙◌, rules}
use Rattle.std.specs.Cow.{cow_str_bytes}
use Rattle.std.proofs.lemmas.Result.{IfOk-weaker, IfErr-weaker}
use Rattle.symbols_ast.specs.Ids.{id_view}
use Rattle.symbols_nodes.specs.References.{SymbolReference, id, qualified_id, import_type, reference_view}
use Rattle.symbols_root.specs.Roots.{specifier_in}
use Rattle.symbols_paths.specs.PartTargets.{search_targets_of_root}
use Rattle.symbols_paths.specs.inner.PathBuilders.{remaining_parts}
use Rattle.symbols_paths.specs.DepAnswers.{resolved_dep_entry_view, dep_entries_of, AreResolvedEntriesOfReference, IsFaultOfStoringForReference}
use Rattle.symbols_paths.proofs.DepEntries.{dep_refused}
use Rattle.symbols_paths.specs.NeededModules.{IsNeededByReference, IsFaultOfStoringOneOf, AreNewlyStoredAmong}
use Rattle.symbols_paths.specs.inner.Needed.{IsNeededFrom}
use Rattle.symbols_paths.specs.PathTrees.{QualifiedNameParts}
use Rattle.symbols_paths.specs.laws.Storing.{newly_stored_among_more}
use Rattle.symbols_paths.specs.laws.OneOutcome.{found_forest_is_unique}
use Rattle.symbols_paths.proofs.find_definitions.RootSymbolFindDefinitions.resolve_symbol_dep.Goals as goal

pub returns-in_ok-parts-in-QualifiedId-clause-answers : goal.returns-in_ok-parts-in-QualifiedId-clause-answers
returns-in_ok-parts-in-QualifiedId-clause-answers c =
    let known : c.args.module_id.0 < length c.args.self.now.stored = search rules in
    let parts = c.in_ok-parts-in-QualifiedId.ensures ∙ ap (map cow_str_bytes) c.deref.ensures.value in
    let is : qualified_id (id_view c.in-QualifiedId.id.now) (remaining_parts c.in_ok-parts-in-QualifiedId.parts) ≡ reference_view c.args.dep.now =
    ap (qualified_id (id_view c.in-QualifiedId.id.now)) parts ∙ sym (ap reference_view c.in-QualifiedId.is) in
    IfOk-weaker c.resolve_id_dep-in-QualifiedId.result _ _ (λ entries view. (
      known,
      subst (λ (r : SymbolReference). AreResolvedEntriesOfReference c.args.self.now.rules c.args.self.now.graph
          (specifier_in c.args.self.now c.args.module_id) r
          (map (resolved_dep_entry_view c.resolve_id_dep-in-QualifiedId.new.root) entries.items)) is view,
    )) c.resolve_id_dep-in-QualifiedId.ensures.answers

pub returns-in_ok-parts-in-QualifiedId-clause-listed : goal.returns-in_ok-parts-in-QualifiedId-clause-listed
returns-in_ok-parts-in-QualifiedId-clause-listed c =
    let parts = c.in_ok-parts-in-QualifiedId.ensures ∙ ap (map cow_str_bytes) c.deref.ensures.value in
    let is : qualified_id (id_view c.in-QualifiedId.id.now) (remaining_parts c.in_ok-parts-in-QualifiedId.parts) ≡ reference_view c.args.dep.now =
    ap (qualified_id (id_view c.in-QualifiedId.id.now)) parts ∙ sym (ap reference_view c.in-QualifiedId.is) in
    IfOk-weaker c.resolve_id_dep-in-QualifiedId.result _ _ (λ entries view. view
    ∙ ap (λ (r : SymbolReference). dep_entries_of c.args.self.now.rules c.args.self.now.graph
    (specifier_in c.args.self.now c.args.module_id) r) is) c.resolve_id_dep-in-QualifiedId.ensures.listed

pub returns-in_ok-parts-in-ImportType-clause-faults : goal.returns-in_ok-parts-in-ImportType-clause-faults
returns-in_ok-parts-in-ImportType-clause-faults c =
    let known : c.args.module_id.0 < length c.args.self.now.stored = search rules in
    let m = specifier_in c.args.self.now c.args.module_id in
    let texts = remaining_parts c.in_ok-parts-in-ImportType.parts in
    let parts = c.in_ok-parts-in-ImportType.ensures ∙ ap (map cow_str_bytes) c.deref-in-ImportType.ensures.value in
    let is : import_type c.in-ImportType.specifier_text.now texts ≡ reference_view c.args.dep.now =
    ap (import_type c.in-ImportType.specifier_text.now) parts ∙ sym (ap reference_view c.in-ImportType.is) in
    IfErr-weaker c.resolve_import_type_dep.result _ _ (λ fault refused.
    inr (
      known,
      subst (λ (r : SymbolReference). IsFaultOfStoringForReference c.resolve_import_type_dep.new.root m r fault) is (dep_refused c.args.self.now
          c.resolve_import_type_dep.new.root m (import_type c.in-ImportType.specifier_text.now texts) fault
          c.resolve_import_type_dep.ensures.keeps.grown refused),
    ))
    c.resolve_import_type_dep.ensures.keeps.refused

pub returns-then-is_none-clause-only : goal.returns-then-is_none-clause-only
returns-then-is_none-clause-only c = found_forest_is_unique (search_targets_of_root c.args.self.now)

pub returns-in_err-parts-in-Id-clause-only : goal.returns-in_err-parts-in-Id-clause-only
returns-in_err-parts-in-Id-clause-only c = found_forest_is_unique (search_targets_of_root c.args.self.now)

pub returns-in_err-parts-in-QualifiedId-clause-only : goal.returns-in_err-parts-in-QualifiedId-clause-only
returns-in_err-parts-in-QualifiedId-clause-only c = found_forest_is_unique (search_targets_of_root c.args.self.now)

pub returns-in_err-parts-in-ImportType-clause-only : goal.returns-in_err-parts-in-ImportType-clause-only
returns-in_err-parts-in-ImportType-clause-only c = found_forest_is_unique (search_targets_of_root c.args.self.now)

pub returns-in_ok-parts-in-Id-clause-only : goal.returns-in_ok-parts-in-Id-clause-only
returns-in_ok-parts-in-Id-clause-only c = found_forest_is_unique (search_targets_of_root c.args.self.now)

pub returns-in_ok-parts-in-QualifiedId-clause-only : goal.returns-in_ok-parts-in-QualifiedId-clause-only
returns-in_ok-parts-in-QualifiedId-clause-only c = found_forest_is_unique (search_targets_of_root c.args.self.now)

pub returns-in_ok-parts-in-ImportType-clause-only : goal.returns-in_ok-parts-in-ImportType-clause-only
returns-in_ok-parts-in-ImportType-clause-only c = found_forest_is_unique (search_targets_of_root c.args.self.now)

pub returns-in_ok-parts-in-Id-clause-stores : goal.returns-in_ok-parts-in-Id-clause-stores
returns-in_ok-parts-in-Id-clause-stores c =
    let old = c.args.self.now in
    let m = specifier_in old c.args.module_id in
    let is : id (id_view c.in-Id.id.now) ≡ reference_view c.args.dep.now = sym (ap reference_view c.in-Id.is) in
    let none : remaining_parts c.in_ok-parts-in-Id.parts ≡ [] = search rules in
    subst (λ (r : SymbolReference). AreNewlyStoredAmong old c.resolve_id_dep.new.root (IsNeededByReference old.rules old.graph m r)) is
    (subst (λ (ps : QualifiedNameParts). AreNewlyStoredAmong old c.resolve_id_dep.new.root (IsNeededFrom old c.args.module_id ps)) none
    c.resolve_id_dep.ensures.stores)

pub returns-in_ok-parts-in-Id-clause-faults : goal.returns-in_ok-parts-in-Id-clause-faults
returns-in_ok-parts-in-Id-clause-faults c =
    let old = c.args.self.now in
    let known : c.args.module_id.0 < length old.stored = search rules in
    let m = specifier_in old c.args.module_id in
    let new = c.resolve_id_dep.new.root in
    let is : id (id_view c.in-Id.id.now) ≡ reference_view c.args.dep.now = sym (ap reference_view c.in-Id.is) in
    let none : remaining_parts c.in_ok-parts-in-Id.parts ≡ [] = search rules in
    IfErr-weaker c.resolve_id_dep.result _ _ (λ fault refused. inr (
      known,
      subst (λ (r : SymbolReference). IsFaultOfStoringForReference new m r fault) is (dep_refused old new m (id (id_view c.in-Id.id.now)) fault
          c.resolve_id_dep.ensures.keeps.grown
          (subst (λ (ps : QualifiedNameParts). IsFaultOfStoringOneOf new (IsNeededFrom old c.args.module_id ps) fault) none refused)),
    )) c.resolve_id_dep.ensures.keeps.refused

pub returns-in_ok-parts-in-QualifiedId-clause-faults : goal.returns-in_ok-parts-in-QualifiedId-clause-faults
returns-in_ok-parts-in-QualifiedId-clause-faults c =
    let old = c.args.self.now in
    let known : c.args.module_id.0 < length old.stored = search rules in
    let m = specifier_in old c.args.module_id in
    let new = c.resolve_id_dep-in-QualifiedId.new.root in
    let texts = remaining_parts c.in_ok-parts-in-QualifiedId.parts in
    let parts = c.in_ok-parts-in-QualifiedId.ensures ∙ ap (map cow_str_bytes) c.deref.ensures.value in
    let is : qualified_id (id_view c.in-QualifiedId.id.now) texts ≡ reference_view c.args.dep.now =
    ap (qualified_id (id_view c.in-QualifiedId.id.now)) parts ∙ sym (ap reference_view c.in-QualifiedId.is) in
    IfErr-weaker c.resolve_id_dep-in-QualifiedId.result _ _ (λ fault refused. inr (
      known,
      subst (λ (r : SymbolReference). IsFaultOfStoringForReference new m r fault) is
          (dep_refused old new m (qualified_id (id_view c.in-QualifiedId.id.now) texts) fault
          c.resolve_id_dep-in-QualifiedId.ensures.keeps.grown refused),
    )) c.resolve_id_dep-in-QualifiedId.ensures.keeps.refused

pub returns-in_ok-parts-in-QualifiedId-clause-stores : goal.returns-in_ok-parts-in-QualifiedId-clause-stores
returns-in_ok-parts-in-QualifiedId-clause-stores c =
    let old = c.args.self.now in
    let m = specifier_in old c.args.module_id in
    let parts = c.in_ok-parts-in-QualifiedId.ensures ∙ ap (map cow_str_bytes) c.deref.ensures.value in
    let is : qualified_id (id_view c.in-QualifiedId.id.now) (remaining_parts c.in_ok-parts-in-QualifiedId.parts) ≡ reference_view c.args.dep.now =
    ap (qualified_id (id_view c.in-QualifiedId.id.now)) parts ∙ sym (ap reference_view c.in-QualifiedId.is) in
    subst (λ (r : SymbolReference). AreNewlyStoredAmong old c.resolve_id_dep-in-QualifiedId.new.root (IsNeededByReference old.rules old.graph m r)) is
    (newly_stored_among_more c.resolve_id_dep-in-QualifiedId.ensures.stores (λ v needed. needed))

pub returns-in_ok-parts-in-ImportType-clause-stores : goal.returns-in_ok-parts-in-ImportType-clause-stores
returns-in_ok-parts-in-ImportType-clause-stores c =
    let old = c.args.self.now in
    let m = specifier_in old c.args.module_id in
    let parts = c.in_ok-parts-in-ImportType.ensures ∙ ap (map cow_str_bytes) c.deref-in-ImportType.ensures.value in
    let is : import_type c.in-ImportType.specifier_text.now (remaining_parts c.in_ok-parts-in-ImportType.parts) ≡ reference_view c.args.dep.now =
    ap (import_type c.in-ImportType.specifier_text.now) parts ∙ sym (ap reference_view c.in-ImportType.is) in
    subst (λ (r : SymbolReference). AreNewlyStoredAmong old c.resolve_import_type_dep.new.root (IsNeededByReference old.rules old.graph m r)) is
    (newly_stored_among_more c.resolve_import_type_dep.ensures.stores (λ v needed. needed))
