-- Definition paths of the library as trees; the root resolves module ids to specifiers.
use Rattle.std.specs.Prelude.{◌<◌, List, [], ◌∷◌, ◌++◌, length, map, All, Option, Some, None, String, string_bytes}
use Rattle.std.specs.Global.{Global}
use Rattle.symbols_ast.specs.declared.ids.ModuleId.{ModuleId}
use Rattle.symbols_ast.specs.declared.ids.SymbolId.{SymbolId}
use Rattle.symbols_ast.specs.Ids.{id_view}
use Rattle.symbols_table.specs.DeclViews.{FileDepView, file_dep_view}
use Rattle.symbols_root.specs.Roots.{RootView, specifier_in}
use Rattle.symbols_paths.specs.declared.definition.DeclRef.{DeclRef}
use Rattle.symbols_paths.specs.declared.definition.Definition.{Definition}
use Rattle.symbols_paths.specs.declared.definition.DefinitionKind.{DefinitionKind}
use Rattle.symbols_paths.specs.declared.definition.DefinitionKind.TheVariants as kind
use Rattle.symbols_paths.specs.declared.definition_iter.DefinitionOrUnresolved.{DefinitionOrUnresolved}
use Rattle.symbols_paths.specs.declared.definition_iter.DefinitionOrUnresolved.TheVariants as end
use Rattle.symbols_paths.specs.declared.definition_iter.DefinitionsIter.{DefinitionsIter}
use Rattle.symbols_paths.specs.declared.definition_iter.DefinitionsOrUnresolvedsIter.{DefinitionsOrUnresolvedsIter}
use Rattle.symbols_paths.specs.declared.definition_path.DefinitionPathLink.{DefinitionPathLink, DefinitionPathLink-F, out-DefinitionPathLink}
use Rattle.symbols_paths.specs.declared.definition_path.DefinitionPathNode.{DefinitionPathNode}
use Rattle.symbols_paths.specs.declared.definition_path.DefinitionPathNode.TheFolds.{fold-DefinitionPathNode}
use Rattle.symbols_paths.specs.declared.definition_path.DefinitionPathNode.TheOpen as open_node
use Rattle.symbols_paths.specs.declared.definition_path.DefinitionPathNode.TheViews.{out-DefinitionPathNode, out-DefinitionPathNodeResolved}
use Rattle.symbols_paths.specs.declared.definition_path.DefinitionPathNode.TheVariants as node
use Rattle.symbols_paths.specs.declared.definition_path.DefinitionPathNodeResolved.{DefinitionPathNodeResolved}
use Rattle.symbols_paths.specs.declared.definition_path.DefinitionPathNodeResolved.TheVariants as resolved
use Rattle.symbols_paths.specs.declared.definition_path.OpenedPathNode.{OpenedPathNode}
use Rattle.symbols_paths.specs.declared.definition_path.OpenedPathNode.TheVariants as opened
use Rattle.symbols_paths.specs.declared.definition_unresolved.DefinitionUnresolved.{DefinitionUnresolved}
use Rattle.symbols_paths.specs.declared.definition_unresolved.DefinitionUnresolvedKind.{DefinitionUnresolvedKind}
use Rattle.symbols_paths.specs.declared.definition_unresolved.DefinitionUnresolvedKind.TheVariants as why
use Rattle.symbols_paths.specs.PathTrees.{SymbolBySpecifier, DeclBySpecifier, QualifiedNameParts, DefinitionView, UnresolvedReason, no_symbol, no_module}
use Rattle.symbols_paths.specs.PathTrees.{no_part, UnresolvedEntry}
use Rattle.symbols_paths.specs.PathTrees.{PathLeaf, definition, unresolved, PathTree, PathForest, leaf, link, no_trees, more_trees}

-- a symbol of a module of a root
abbrev pub symbol_by_specifier : RootView → ModuleId → SymbolId → SymbolBySpecifier
symbol_by_specifier root module_id s = record { specifier = specifier_in root module_id; number = s }

-- a declaration of a module of a root
abbrev pub decl_by_specifier : RootView → ModuleId → DeclRef → DeclBySpecifier
decl_by_specifier root module_id decl = record { symbol = symbol_by_specifier root module_id decl.symbol; index = decl.index }

-- the dependency of a star import; none for any other definition
abbrev pub star_import_view : DefinitionKind → Option FileDepView
star_import_view (kind.ExportStar dep) = Some (file_dep_view dep)
star_import_view kind.Definition = None

abbrev pub definition_by_specifier : RootView → Definition → DefinitionView
definition_by_specifier root x = record { decl = decl_by_specifier root x.«module» x.symbol_decl; range = x.range; star = star_import_view x.kind }

abbrev pub reason_view : DefinitionUnresolvedKind → UnresolvedReason
reason_view (why.Id id) = no_symbol (id_view id)
reason_view (why.Specifier text) = no_module (string_bytes text)
reason_view (why.Part name) = no_part (string_bytes name)

-- texts, as bytes
abbrev pub strings_view : List (String Global) → QualifiedNameParts
strings_view texts = map (λ text. string_bytes text) texts

abbrev pub unresolved_entry_view : RootView → DefinitionUnresolved → UnresolvedEntry
unresolved_entry_view root x = record { specifier = specifier_in root x.«module»; reason = reason_view x.kind; parts = strings_view x.parts.items }

abbrev pub forest_of_trees : List PathTree → PathForest
forest_of_trees [] = no_trees
forest_of_trees (t ∷ ts) = more_trees t (forest_of_trees ts)

-- a node as a tree, from the trees of its next nodes
abbrev pub fold_node_to_tree : RootView → open_node.DefinitionPathNode-F PathTree PathTree PathTree → PathTree
fold_node_to_tree root (open_node.Resolved t) = t
fold_node_to_tree root (open_node.Unresolved x) = leaf (unresolved (unresolved_entry_view root x))

abbrev pub fold_resolved_to_tree : RootView → open_node.DefinitionPathNodeResolved-F PathTree PathTree PathTree → PathTree
fold_resolved_to_tree root (open_node.Link t) = t
fold_resolved_to_tree root (open_node.Definition x) = leaf (definition (definition_by_specifier root x))

abbrev pub fold_link_to_tree : RootView → DefinitionPathLink-F PathTree PathTree PathTree → PathTree
fold_link_to_tree root x = link (record {
  symbol = symbol_by_specifier root x.«module» x.symbol;
  decl = decl_by_specifier root x.«module» x.symbol_decl;
  parts = strings_view x.parts.items;
}) (forest_of_trees x.next.items)

abbrev pub path_by_specifier : RootView → DefinitionPathNode → PathTree
path_by_specifier root = fold-DefinitionPathNode PathTree PathTree PathTree (fold_node_to_tree root) (fold_resolved_to_tree root) (fold_link_to_tree root)

abbrev pub paths_by_specifier : RootView → List DefinitionPathNode → PathForest
paths_by_specifier root paths = forest_of_trees (map (path_by_specifier root) paths)

-- the modules of a path
abbrev pub concat_module_ids : List (List ModuleId) → List ModuleId
concat_module_ids [] = []
concat_module_ids (xs ∷ rest) = xs ++ concat_module_ids rest

abbrev pub fold_node_to_modules : open_node.DefinitionPathNode-F (List ModuleId) (List ModuleId) (List ModuleId) → List ModuleId
fold_node_to_modules (open_node.Resolved xs) = xs
fold_node_to_modules (open_node.Unresolved x) = x.«module» ∷ []

abbrev pub fold_resolved_to_modules : open_node.DefinitionPathNodeResolved-F (List ModuleId) (List ModuleId) (List ModuleId) → List ModuleId
fold_resolved_to_modules (open_node.Link xs) = xs
fold_resolved_to_modules (open_node.Definition x) = x.«module» ∷ []

abbrev pub fold_link_to_modules : DefinitionPathLink-F (List ModuleId) (List ModuleId) (List ModuleId) → List ModuleId
fold_link_to_modules x = x.«module» ∷ concat_module_ids x.next.items

abbrev pub modules_of_path : DefinitionPathNode → List ModuleId
modules_of_path = fold-DefinitionPathNode (List ModuleId) (List ModuleId) (List ModuleId) fold_node_to_modules fold_resolved_to_modules fold_link_to_modules

abbrev pub modules_of_paths : List DefinitionPathNode → List ModuleId
modules_of_paths paths = concat_module_ids (map modules_of_path paths)

abbrev pub module_of_definition : Definition → ModuleId
module_of_definition x = x.«module»

-- all these modules are stored
abbrev pub AreModulesStored : RootView → List ModuleId → Type 0
AreModulesStored root ids = All (λ (id : ModuleId). id.0 < length root.stored) ids

-- the module and the symbol of the first node of a path
abbrev pub module_of_resolved : DefinitionPathNodeResolved → ModuleId
module_of_resolved x = by (out-DefinitionPathNodeResolved x)
  where
    by : open_node.DefinitionPathNodeResolved-F DefinitionPathNode DefinitionPathNodeResolved DefinitionPathLink → ModuleId
    by (open_node.Link l) = (out-DefinitionPathLink l).«module»
    by (open_node.Definition d) = d.«module»

abbrev pub symbol_of_resolved : DefinitionPathNodeResolved → Option SymbolId
symbol_of_resolved x = by (out-DefinitionPathNodeResolved x)
  where
    by : open_node.DefinitionPathNodeResolved-F DefinitionPathNode DefinitionPathNodeResolved DefinitionPathLink → Option SymbolId
    by (open_node.Link l) = Some (out-DefinitionPathLink l).symbol
    by (open_node.Definition d) = Some d.symbol

abbrev pub module_of_node : DefinitionPathNode → ModuleId
module_of_node x = by (out-DefinitionPathNode x)
  where
    by : open_node.DefinitionPathNode-F DefinitionPathNode DefinitionPathNodeResolved DefinitionPathLink → ModuleId
    by (open_node.Resolved r) = module_of_resolved r
    by (open_node.Unresolved u) = u.«module»

abbrev pub symbol_of_node : DefinitionPathNode → Option SymbolId
symbol_of_node x = by (out-DefinitionPathNode x)
  where
    by : open_node.DefinitionPathNode-F DefinitionPathNode DefinitionPathNodeResolved DefinitionPathLink → Option SymbolId
    by (open_node.Resolved r) = symbol_of_resolved r
    by (open_node.Unresolved u) = None

-- the node that was taken apart
abbrev pub node_of_opened : OpenedPathNode → DefinitionPathNode
node_of_opened (opened.Link l) = node.Resolved (resolved.Link l)
node_of_opened (opened.Definition d) = node.Resolved (resolved.Definition d)
node_of_opened (opened.Unresolved u) = node.Unresolved u

-- an end as a leaf
abbrev pub path_leaf_of_end : RootView → DefinitionOrUnresolved → PathLeaf
path_leaf_of_end root (end.Definition x) = definition (definition_by_specifier root x)
path_leaf_of_end root (end.Unresolved x) = unresolved (unresolved_entry_view root x)

abbrev pub module_of_end : DefinitionOrUnresolved → ModuleId
module_of_end (end.Definition x) = x.«module»
module_of_end (end.Unresolved x) = x.«module»

abbrev pub symbol_of_end : DefinitionOrUnresolved → Option SymbolId
symbol_of_end (end.Definition x) = Some x.symbol
symbol_of_end (end.Unresolved x) = None

-- the items that the iterators have yet to return
abbrev pub remaining_definitions : DefinitionsIter → List Definition
remaining_definitions it = it.left.items

abbrev pub remaining_ends : DefinitionsOrUnresolvedsIter → List DefinitionOrUnresolved
remaining_ends it = it.left.items
