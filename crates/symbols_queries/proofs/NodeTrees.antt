-- The trees of definition path nodes, by the form of a node.
use Rattle.std.proofs.Common.{◌≡◌, rules}
use Rattle.symbols_root.specs.Roots.{RootView}
use Rattle.symbols_paths.specs.declared.definition.Definition.{Definition}
use Rattle.symbols_paths.specs.declared.definition_path.DefinitionPathLink.{DefinitionPathLink}
use Rattle.symbols_paths.specs.declared.definition_path.DefinitionPathNode.{the_lemmas}
use Rattle.symbols_paths.specs.declared.definition_path.DefinitionPathNode.TheVariants as node
use Rattle.symbols_paths.specs.declared.definition_path.DefinitionPathNodeResolved.TheVariants as resolved
use Rattle.symbols_paths.specs.declared.definition_unresolved.DefinitionUnresolved.{DefinitionUnresolved}
use Rattle.symbols_paths.specs.PathTrees.{definition, unresolved, leaf, link}
use Rattle.symbols_paths.specs.Views.{symbol_by_specifier, decl_by_specifier, strings_view, definition_by_specifier, unresolved_entry_view}
use Rattle.symbols_paths.specs.Views.{path_by_specifier, paths_by_specifier}

pub link_named : (root : RootView) (x : DefinitionPathLink) → path_by_specifier root (node.Resolved (resolved.Link x))
    ≡ link (record {
      symbol = symbol_by_specifier root x.«module» x.symbol;
      decl = decl_by_specifier root x.«module» x.symbol_decl;
      parts = strings_view x.parts.items;
    })
    (paths_by_specifier root x.next.items)
link_named root x = search (rules, the_lemmas)

pub definition_named : (root : RootView) (x : Definition)
    → path_by_specifier root (node.Resolved (resolved.Definition x)) ≡ leaf (definition (definition_by_specifier root x))
definition_named root x = search (rules, the_lemmas)

pub unresolved_named : (root : RootView) (x : DefinitionUnresolved)
    → path_by_specifier root (node.Unresolved x) ≡ leaf (unresolved (unresolved_entry_view root x))
unresolved_named root x = search (rules, the_lemmas)
