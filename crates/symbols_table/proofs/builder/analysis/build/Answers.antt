use Rattle.std.proofs.Common.{◌≡◌, [], ◌∷◌, List, length, refl, sym, ap, ◌∙◌, subst, arith}
use Rattle.std.specs.Global.{Vec}
use Rattle.symbols_ast.specs.NodeRefs.{child_list_in_field}
use Rattle.symbols_ast.specs.Fields.{body_children_of}
use Rattle.symbols_table.specs.declared.builder.table.ModuleBuilder.{ModuleBuilder}
use Rattle.symbols_table.specs.declared.builder.table.Setting.{Setting}
use Rattle.symbols_table.specs.declared.decl.symbol.Symbol.{Symbol}
use Rattle.symbols_table.specs.Changes.{Change}
use Rattle.symbols_table.specs.DeclViews.{decl_view}
use Rattle.symbols_table.specs.Events.{changes_of_effects}
use Rattle.symbols_table.specs.TreeEvents.{program_node, program_decl}
use Rattle.symbols_table.specs.Analysis.{table_changes_from_tree}
use Rattle.symbols_table.specs.inner.Levels.{AreGreaterNodeNumbers}
use Rattle.symbols_table.specs.inner.Tables.{HasAppliedChanges}
use Rattle.symbols_table.specs.Laws.{AreLawfulSymbols}
use Rattle.symbols_table.proofs.Walks.{first_row}
use Rattle.symbols_table.proofs.ItemWalks.{list_greater}
use Rattle.symbols_table.proofs.ExportLaws.{are_exports}
use Rattle.symbols_table.proofs.Lawful.{are_lawful, are_names, are_declared, are_stars, are_few_of}
use Rattle.symbols_table.proofs.Built.{begun_with, root_decl_is, module_index, tree_read, tree_full, shown, is_within, tree_none_fits, err_if, has_root}
use Rattle.symbols_table.proofs.builder.analysis.build.Goals as goal

-- The capacity of the list of symbols doesn't matter for the table.
with_room : (b : ModuleBuilder) (symbols : Vec Symbol) {changes : List Change} → symbols.items ≡ b.symbols.items → HasAppliedChanges b changes
    → HasAppliedChanges (record b { symbols = symbols }) changes
with_room b symbols same is = record {
  count = rw same is.count;
  symbols = rw same is.symbols;
  has_no_changes_beyond_count = rw same is.has_no_changes_beyond_count;
  ids = is.ids;
  child_names = is.child_names;
  member_names = is.member_names;
  stars = is.stars;
  few = rw same is.few;
  sound = rw same is.sound;
  apart = is.apart;
  has_lawful_parents = is.has_lawful_parents;
  declared = rw same is.declared;
}

pub walk_items-requires-clause-greater : goal.walk_items-requires-clause-greater
walk_items-requires-clause-greater c =
    let root = program_node c.args.tree.now in
    let greater : AreGreaterNodeNumbers root.tree.nodes.items 0 (child_list_in_field root body_children_of) =
    list_greater root c.requires.well_formed (has_root root.tree.nodes.items c.requires.well_formed.begins) in
    subst (AreGreaterNodeNumbers root.tree.nodes.items 0) (sym c.body.ensures) greater

pub walk_items-requires-clause-filled : goal.walk_items-requires-clause-filled
walk_items-requires-clause-filled c =
    let tree = c.args.tree.now in
    let decl = root_decl_is tree (decl_view c.definition-decl.result) c.range.result (rw c.range.ensures refl) c.definition-decl.ensures in (
      changes_of_effects (first_row (program_decl tree) ∷ []),
      with_room _ c.reserve.new.self c.in_ok-reserve.ensures.items
          (begun_with c.in_ok-builder.builder (decl_view c.definition-decl.result) (program_decl tree) decl c.in_ok-builder.ensures.table),
    )

pub returns-clause-table : goal.returns-clause-table
returns-clause-table c =
    let tree = c.args.tree.now in
    let decl = root_decl_is tree (decl_view c.definition-decl.result) c.range.result (rw c.range.ensures refl) c.definition-decl.ensures in
    let begun = with_room _ c.reserve.new.self c.in_ok-reserve.ensures.items
    (begun_with c.in_ok-builder.builder (decl_view c.definition-decl.result) (program_decl tree) decl c.in_ok-builder.ensures.table) in
    let read = c.in_ok-walk_items.ensures.table (length tree.nodes.items) (omega arith) (first_row (program_decl tree) ∷ []) 0 begun
    (module_index (program_decl tree)) in
    let built = c.walk_items.new.self in
    let is : HasAppliedChanges built (table_changes_from_tree tree) = tree_read tree c.body.result.now built c.body.ensures read in
    let retained : built.setting ≡ c.args.setting = c.in_ok-walk_items.ensures.keeps.setting ∙ c.in_ok-builder.ensures.setting in
    rw c.without_room.ensures record {
      number = refl;
      specifier = refl;
      source = refl;
      tables = record {
        symbols = shown built (table_changes_from_tree tree) is;
        exports_of_each_symbol = are_exports (table_changes_from_tree tree);
        names = is.ids;
        stars = is.stars;
      };
      within = is_within built (table_changes_from_tree tree) c.args.setting.limit (ap (λ (s : Setting). s.limit) retained) is;
    }

pub returns-in_err-walk_items-clause-too_many : goal.returns-in_err-walk_items-clause-too_many
returns-in_err-walk_items-clause-too_many c =
    let tree = c.args.tree.now in
    let decl = root_decl_is tree (decl_view c.definition-decl.result) c.range.result (rw c.range.ensures refl) c.definition-decl.ensures in
    let begun = with_room _ c.reserve.new.self c.in_ok-reserve.ensures.items
    (begun_with c.in_ok-builder.builder (decl_view c.definition-decl.result) (program_decl tree) decl c.in_ok-builder.ensures.table) in
    err_if c.from_residual-in_err-walk_items.result c.in_err-walk_items.field-0.0 c.from_residual-in_err-walk_items.ensures.1 (λ many.
    let over = c.in_err-walk_items.ensures.table (length tree.nodes.items) (omega arith) (first_row (program_decl tree) ∷ []) 0 begun
    (module_index (program_decl tree)) many in
    tree_full tree c.body.result.now c.args.setting.limit c.body.ensures (rw (← ap (λ (s : Setting). s.limit) c.in_ok-builder.ensures.setting) over))

pub returns-in_err-builder-clause-too_many : goal.returns-in_err-builder-clause-too_many
returns-in_err-builder-clause-too_many c = err_if c.from_residual.result c.in_err-builder.field-0.0 c.from_residual.ensures.1
    (λ many. tree_none_fits c.args.tree.now c.args.setting.limit (c.in_err-builder.ensures.too_many many))

pub invariant_of-result : goal.invariant_of-result
invariant_of-result c =
    let tree = c.args.tree.now in
    let decl = root_decl_is tree (decl_view c.definition-decl.result) c.range.result (rw c.range.ensures refl) c.definition-decl.ensures in
    let begun = with_room _ c.reserve.new.self c.in_ok-reserve.ensures.items
    (begun_with c.in_ok-builder.builder (decl_view c.definition-decl.result) (program_decl tree) decl c.in_ok-builder.ensures.table) in
    let read = c.in_ok-walk_items.ensures.table (length tree.nodes.items) (omega arith) (first_row (program_decl tree) ∷ []) 0 begun
    (module_index (program_decl tree)) in
    let built = c.walk_items.new.self in
    let is : HasAppliedChanges built (table_changes_from_tree tree) = tree_read tree c.body.result.now built c.body.ensures read in
    let retained : built.setting ≡ c.args.setting = c.in_ok-walk_items.ensures.keeps.setting ∙ c.in_ok-builder.ensures.setting in
    let first = has_root tree.nodes.items c.requires.well_formed.begins in
    record {
      well_formed = c.requires.well_formed;
      faultless = c.requires.faultless;
      has_module = rw c.without_room.ensures
          (omega (arith, c.in_ok-walk_items.ensures.keeps.longer, c.in_ok-reserve.ensures.len, c.in_ok-builder.ensures.module));
      lawful = rw c.without_room.ensures
          (subst (λ (s : Setting). AreLawfulSymbols s.module_id built.symbols.items) retained (are_lawful built (table_changes_from_tree tree) is));
      few = rw c.without_room.ensures (are_few_of tree built is c.args.text.now c.requires.faultless c.requires.well_formed);
      named = rw c.without_room.ensures (are_names built (table_changes_from_tree tree) is);
      declared = rw c.without_room.ensures (are_declared tree built is first);
      starred = are_stars tree built is first;
    }
