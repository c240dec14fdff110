-- The nodes of the `export *` statements.
use Rattle.std.specs.Prelude.{List, map, Option, Some, None}
use Rattle.std.specs.Slice.Iter.{iter_rest}
use Rattle.symbols_ast.specs.declared.tree.arena.Tree.{Tree}
use Rattle.symbols_ast.specs.NodeRefs.{TreeNode}
use Rattle.symbols_table.specs.declared.info.re_exports.ReExportNodes.{ReExportNodes}
use Rattle.symbols_table.specs.Changes.{ExportStarStatement}
use Rattle.symbols_table.specs.ModuleViews.{export_star_view}
use Rattle.symbols_table.specs.Modules.{AnalyzableSource, parsed, json_text, SymbolTable}

abbrev pub export_star_node : Tree → ExportStarStatement → TreeNode
export_star_node tree star = record { tree = tree; number = star.number }

-- The nodes that an iterator has not returned yet.
abbrev pub remaining_export_star_nodes : ReExportNodes → List TreeNode
remaining_export_star_nodes nodes = map (export_star_node nodes.source.now) (map export_star_view (iter_rest nodes.stars))

-- The nodes of a module's `export *` statements; `None` for a JSON module.
abbrev pub export_star_nodes_unless_json : List ExportStarStatement → AnalyzableSource → Option (List TreeNode)
export_star_nodes_unless_json stars (parsed _ tree) = Some (map (export_star_node tree) stars)
export_star_nodes_unless_json stars (json_text _) = None

abbrev pub export_star_nodes_of_table : SymbolTable → Option (List TreeNode)
export_star_nodes_of_table table = export_star_nodes_unless_json table.stars table.source
