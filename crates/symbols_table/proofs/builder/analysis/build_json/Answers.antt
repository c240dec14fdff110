use Rattle.std.proofs.Common.{◌≡◌, [], ◌∷◌, refl, ap, ◌∙◌, subst, arith, None}
use Rattle.symbols_ast.specs.declared.tree.arena.SourceRange.{SourceRange}
use Rattle.symbols_table.specs.declared.builder.table.Setting.{Setting}
use Rattle.symbols_table.specs.DeclViews.{decl_view, definition, declaration_of_kind}
use Rattle.symbols_table.specs.Events.{changes_of_effects}
use Rattle.symbols_table.specs.JsonEvents.{json_decl}
use Rattle.symbols_table.specs.Analysis.{table_changes_from_json}
use Rattle.symbols_table.specs.inner.Tables.{HasAppliedChanges}
use Rattle.symbols_table.specs.Laws.{AreLawfulSymbols}
use Rattle.symbols_table.proofs.Walks.{first_row}
use Rattle.symbols_table.proofs.ExportLaws.{are_exports}
use Rattle.symbols_table.proofs.Lawful.{are_lawful}
use Rattle.symbols_table.proofs.Built.{begun_with, json_read, json_full, json_none_fits, json_maps_none, json_has_no_star, shown, is_within, err_if}
use Rattle.symbols_table.proofs.builder.analysis.build_json.Goals as goal

pub returns-in_err-builder-clause-too_many : goal.returns-in_err-builder-clause-too_many
returns-in_err-builder-clause-too_many c = err_if c.from_residual.result c.in_err-builder.field-0.0 c.from_residual.ensures.1
    (λ many. json_none_fits c.args.text.now c.args.setting.limit (c.in_err-builder.ensures.too_many many))

pub returns-in_err-declare_default-clause-too_many : goal.returns-in_err-declare_default-clause-too_many
returns-in_err-declare_default-clause-too_many c =
    let text = c.args.text.now in
    let occurs = ap (λ (r : SourceRange). declaration_of_kind (definition None) r) c.trimmed_json_range-range.ensures in
    let first : decl_view c.without_node.result ≡ json_decl text = c.without_node.ensures ∙ occurs in
    let second : decl_view c.without_node-2.result ≡ json_decl text = c.without_node-2.ensures ∙ occurs in
    let begun = begun_with c.in_ok-builder.builder (decl_view c.without_node.result) (json_decl text) first c.in_ok-builder.ensures.table in
    err_if c.from_residual-in_err-declare_default.result c.in_err-declare_default.field-0.0 c.from_residual-in_err-declare_default.ensures.1 (λ many.
    let over = c.in_err-declare_default.ensures.table (changes_of_effects (first_row (json_decl text) ∷ [])) begun many in
    json_full text (decl_view c.without_node-2.result) c.args.setting.limit second (rw (← ap (λ (s : Setting). s.limit) c.in_ok-builder.ensures.setting) over))

pub returns-clause-table : goal.returns-clause-table
returns-clause-table c =
    let text = c.args.text.now in
    let occurs = ap (λ (r : SourceRange). declaration_of_kind (definition None) r) c.trimmed_json_range-range.ensures in
    let first : decl_view c.without_node.result ≡ json_decl text = c.without_node.ensures ∙ occurs in
    let second : decl_view c.without_node-2.result ≡ json_decl text = c.without_node-2.ensures ∙ occurs in
    let begun = begun_with c.in_ok-builder.builder (decl_view c.without_node.result) (json_decl text) first c.in_ok-builder.ensures.table in
    let read = c.in_ok-declare_default.ensures.table (changes_of_effects (first_row (json_decl text) ∷ [])) begun in
    let built = c.declare_default.new.self in
    let is : HasAppliedChanges built (table_changes_from_json text) = json_read text (decl_view c.without_node-2.result) built second read.1 in
    let retained : built.setting ≡ c.args.setting = c.in_ok-declare_default.ensures.keeps.setting ∙ c.in_ok-builder.ensures.setting in
    record {
      number = refl;
      specifier = refl;
      source = refl;
      tables = record {
        symbols = shown built (table_changes_from_json text) is;
        exports_of_each_symbol = are_exports (table_changes_from_json text);
        names = json_maps_none text;
        stars = json_has_no_star text;
      };
      within = is_within built (table_changes_from_json text) c.args.setting.limit (ap (λ (s : Setting). s.limit) retained) is;
    }

pub invariant_of-result : goal.invariant_of-result
invariant_of-result c =
    let text = c.args.text.now in
    let occurs = ap (λ (r : SourceRange). declaration_of_kind (definition None) r) c.trimmed_json_range-range.ensures in
    let first : decl_view c.without_node.result ≡ json_decl text = c.without_node.ensures ∙ occurs in
    let second : decl_view c.without_node-2.result ≡ json_decl text = c.without_node-2.ensures ∙ occurs in
    let begun = begun_with c.in_ok-builder.builder (decl_view c.without_node.result) (json_decl text) first c.in_ok-builder.ensures.table in
    let read = c.in_ok-declare_default.ensures.table (changes_of_effects (first_row (json_decl text) ∷ [])) begun in
    let built = c.declare_default.new.self in
    let is : HasAppliedChanges built (table_changes_from_json text) = json_read text (decl_view c.without_node-2.result) built second read.1 in
    let retained : built.setting ≡ c.args.setting = c.in_ok-declare_default.ensures.keeps.setting ∙ c.in_ok-builder.ensures.setting in
    record {
      has_module = omega (arith, c.in_ok-declare_default.ensures.keeps.longer, c.in_ok-builder.ensures.module);
      lawful = subst (λ (s : Setting). AreLawfulSymbols s.module_id built.symbols.items) retained (are_lawful built (table_changes_from_json text) is);
    }
