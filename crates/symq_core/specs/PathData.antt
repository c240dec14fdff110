-- The JSON value of definition paths.
use Rattle.std.specs.Prelude.{ℕ, List, Option, Some, None, codes}
use Rattle.serde_json.specs.Data.{Data, number, unsigned, string, array, object, Items, no_items, item, Members, no_members, member}
use Rattle.symbols_table.specs.DeclViews.{FileDepView}
use Rattle.symbols_ast.specs.declared.ids.SymbolId.{SymbolId}
use Rattle.symbols_paths.specs.PathTrees.{DeclBySpecifier, DefinitionView, UnresolvedReason, no_symbol, no_module, no_part, UnresolvedEntry, PathLeaf}
use Rattle.symbols_paths.specs.PathTrees.{definition, unresolved, PathTree, PathForest, leaf, link, no_trees, more_trees}
use Rattle.symbols_paths.specs.DepAnswers.{DepEntryView, path_dep_entry, module_dep_entry}
use Rattle.symq_core.specs.TextsData.{string_list_json}

-- a declaration: the number of its symbol, and its index among the symbol's declarations
abbrev pub decl_symbol_and_index_json : DeclBySpecifier → Data
decl_symbol_and_index_json decl = array (item (number (unsigned decl.symbol.number.0)) (item (number (unsigned decl.index)) no_items))

-- the members, with the specifier of a star import before them
abbrev pub members_with_star : Option FileDepView → Members → Members
members_with_star None rest = rest
members_with_star (Some dep) rest = member (codes "star") (string dep.specifier) rest

-- a definition or a star import: its declaration, end, module, start and symbol
abbrev pub definition_json : DefinitionView → Data
definition_json defined =
    object (member (codes "decl") (decl_symbol_and_index_json defined.decl)
    (member (codes "end") (number (unsigned defined.range.end))
    (member (codes "module") (string defined.decl.symbol.specifier)
    (members_with_star defined.star
    (member (codes "start") (number (unsigned defined.range.start))
    (member (codes "symbol") (number (unsigned defined.decl.symbol.number.0)) no_members))))))

-- the keyword of a reason: a name with its scope, a specifier, or a part isn't found
abbrev pub unresolved_reason_str : UnresolvedReason → List ℕ
unresolved_reason_str (no_symbol id) = codes "id"
unresolved_reason_str (no_module specifier_text) = codes "specifier"
unresolved_reason_str (no_part name) = codes "part"

-- the name or specifier that isn't found
abbrev pub unresolved_name_or_specifier : UnresolvedReason → List ℕ
unresolved_name_or_specifier (no_symbol id) = id.name
unresolved_name_or_specifier (no_module specifier_text) = specifier_text
unresolved_name_or_specifier (no_part name) = name

-- the member `scope`, for a name with its scope alone
abbrev pub optional_scope_member : UnresolvedReason → Members
optional_scope_member (no_symbol id) = member (codes "scope") (number (unsigned id.scope)) no_members
optional_scope_member (no_module specifier_text) = no_members
optional_scope_member (no_part name) = no_members

-- an unresolved end: the reason, the module, what isn't found, and the remaining parts
abbrev pub unresolved_json : UnresolvedEntry → Data
unresolved_json missing =
    object (member (codes "kind") (string (unresolved_reason_str missing.reason))
    (member (codes "module") (string missing.specifier)
    (member (codes "name") (string (unresolved_name_or_specifier missing.reason))
    (member (codes "parts") (string_list_json missing.parts)
    (optional_scope_member missing.reason)))))

abbrev pub leaf_json : PathLeaf → Data
leaf_json (definition x) = definition_json x
leaf_json (unresolved x) = unresolved_json x

-- the members of a link after `next`: its parts and its symbol
abbrev pub link_members_after_next : List (List ℕ) → SymbolId → Members
link_members_after_next parts s = member (codes "parts") (string_list_json parts) (member (codes "symbol") (number (unsigned s.0)) no_members)

-- a path: a leaf; or a link with its declaration, its module, the paths after it, its parts and its symbol
abbrev mutual
  pub path_tree_json : PathTree → Data
  path_tree_json (leaf x) = leaf_json x
  path_tree_json (link head next) =
      object (member (codes "decl") (decl_symbol_and_index_json head.decl)
      (member (codes "module") (string head.symbol.specifier)
      (member (codes "next") (array (path_forest_json_items next))
      (link_members_after_next head.parts head.symbol.number))))

  pub path_forest_json_items : PathForest → Items
  path_forest_json_items no_trees = no_items
  path_forest_json_items (more_trees t f) = item (path_tree_json t) (path_forest_json_items f)

-- an entry of a resolved reference: a path, or the module of an import type
abbrev pub dep_entry_json : DepEntryView → Data
dep_entry_json (path_dep_entry path) = path_tree_json path
dep_entry_json (module_dep_entry specifier) = object (member (codes "import_type") (string specifier) no_members)
