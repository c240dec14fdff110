-- Laws on stored tables: they have the symbols and the names of the graph's modules. They are proved.
use Rattle.std.proofs.Common.{◌≡◌, [], Option, option_and_then, sym, ap, ◌∙◌}
use Rattle.std.specs.Option.{option_map_or}
use Rattle.std.proofs.lemmas.Option.{get_or_from_slice_get}
use Rattle.symbols_ast.specs.declared.ids.ModuleId.{ModuleId}
use Rattle.symbols_ast.specs.declared.ids.SymbolId.{SymbolId}
use Rattle.symbols_ast.specs.Graph.{ModuleView}
use Rattle.symbols_ast.specs.Ids.{IdView}
use Rattle.symbols_table.specs.Analysis.{table_changes_from_tree_or_json}
use Rattle.symbols_table.specs.Changes.{symbol_of_ident_after_changes}
use Rattle.symbols_table.specs.Modules.{SymbolTable, analyzable_source, symbol_in_table, symbol_of_ident_in_table}
use Rattle.symbols_table.specs.SymbolViews.{symbol_after_changes}
use Rattle.symbols_root.specs.GraphModules.{table_changes_of_module, symbol_in_module}
use Rattle.symbols_root.specs.Roots.{RootView, specifier_in, IsTableOfStoredModule}

-- the changes of the graph's module make the stored table
pub stored_table_has_module_changes : (root : RootView) (module_id : ModuleId) (table : SymbolTable) (stored : IsTableOfStoredModule root module_id table)
    → table_changes_of_module root.graph (specifier_in root module_id) ≡ table_changes_from_tree_or_json stored.2.source
stored_table_has_module_changes root module_id table stored =
    let under = stored.2 in
    let called : specifier_in root module_id ≡ stored.0 = get_or_from_slice_get root.stored module_id.0 stored.0 [] stored.1 in
    ap (table_changes_of_module root.graph) called
    ∙ (ap (λ (found : Option ModuleView). option_map_or table_changes_from_tree_or_json (option_and_then (λ m. analyzable_source m.content) found)
    []) under.under ∙ ap (λ found. option_map_or table_changes_from_tree_or_json found []) under.is_source_of_module)

-- the stored table has the symbols of the graph's module
pub stored_table_has_module_symbols : (root : RootView) (module_id : ModuleId) (table : SymbolTable) → IsTableOfStoredModule root module_id table →
    (s : SymbolId)
    → symbol_in_table table s ≡ symbol_in_module root.graph (specifier_in root module_id) s
stored_table_has_module_symbols root module_id table stored s =
    stored.2.is_analyzed_table.tables.symbols s ∙ ap (λ changes. symbol_after_changes changes s)
    (sym (stored_table_has_module_changes root module_id table stored))

-- the stored table has the names of the graph's module
pub stored_table_has_module_bindings : (root : RootView) (module_id : ModuleId) (table : SymbolTable) → IsTableOfStoredModule root module_id table →
    (id : IdView)
    → symbol_of_ident_in_table table id ≡ symbol_of_ident_after_changes (table_changes_of_module root.graph (specifier_in root module_id)) id
stored_table_has_module_bindings root module_id table stored id =
    stored.2.is_analyzed_table.tables.names id ∙ ap (λ changes. symbol_of_ident_after_changes changes id)
    (sym (stored_table_has_module_changes root module_id table stored))
