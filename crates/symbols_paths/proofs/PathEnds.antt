-- The ends of paths, from left to right.
use Rattle.std.proofs.Common.{◌≡◌, List, [], ◌∷◌, ◌++◌, map, Vec, Box, refl, sym, ap, subst, ◌∙◌, append_assoc, append-nil}
use Rattle.std.proofs.lemmas.List.{map-append}
use Rattle.std.specs.Global.{Global}
use Rattle.symbols_root.specs.Roots.{RootView}
use Rattle.symbols_paths.specs.declared.definition.Definition.{Definition}
use Rattle.symbols_paths.specs.declared.definition_iter.DefinitionOrUnresolved.{DefinitionOrUnresolved}
use Rattle.symbols_paths.specs.declared.definition_path.DefinitionPathLink.{DefinitionPathLink, out-DefinitionPathLink}
use Rattle.symbols_paths.specs.declared.definition_path.DefinitionPathNode.{DefinitionPathNode}
use Rattle.symbols_paths.specs.declared.definition_path.DefinitionPathNode.TheFolds.{fold-DefinitionPathNodeResolved, fold-roll-DefinitionPathNode}
use Rattle.symbols_paths.specs.declared.definition_path.DefinitionPathNode.TheFolds.{fold-roll-DefinitionPathNodeResolved, fold_out-DefinitionPathLink}
use Rattle.symbols_paths.specs.declared.definition_path.DefinitionPathNode.TheOpen as open_node
use Rattle.symbols_paths.specs.declared.definition_path.DefinitionPathNode.TheViews.{rolls-Resolved, rolls-Link}
use Rattle.symbols_paths.specs.declared.definition_path.DefinitionPathNode.TheVariants as node
use Rattle.symbols_paths.specs.declared.definition_path.DefinitionPathNodeResolved.TheVariants as resolved
use Rattle.symbols_paths.specs.declared.path_builder.Segment.{Segment}
use Rattle.symbols_paths.specs.declared.path_builder.PathBuilder.{PathBuilder}
use Rattle.symbols_paths.specs.declared.path_builder.PathBuilder.TheVariants as builder
use Rattle.symbols_paths.specs.PathTrees.{LinkHead, PathTree, PathForest, leaf, forest_of_tree, joined_forests, forest_below_link_unless_empty}
use Rattle.symbols_paths.specs.PathTrees.{PathLeaf, definition, unresolved, leaves_of_tree, leaves_of_forest, definitions_among}
use Rattle.symbols_paths.specs.Views.{fold_node_to_tree, fold_resolved_to_tree, fold_link_to_tree, path_by_specifier, paths_by_specifier, path_leaf_of_end}
use Rattle.symbols_paths.specs.Views.{definition_by_specifier, module_of_definition, module_of_end, AreModulesStored}
use Rattle.symbols_paths.specs.inner.PathBuilders.{reversed_link_heads_of_segments, forest_below_reversed_links, built_path, built_paths, modules_of_builder}
use Rattle.symbols_paths.specs.inner.PathBuilders.{modules_of_builders}
use Rattle.symbols_paths.proofs.Leaves.{leaves_of_forest-join, leaves_of_forest-link_unless_empty}
use Rattle.symbols_paths.proofs.NamedPathLemmas.{stored_both}
use Rattle.symbols_paths.proofs.BuilderLemmas.{named_to, named_fork, stored_apart, none_stored}

-- the leaves of a link are those of its next paths
pub leaves_of_link : (root : RootView) (l : DefinitionPathLink)
    → leaves_of_tree (path_by_specifier root (node.Resolved (resolved.Link l))) ≡ leaves_of_forest
    (paths_by_specifier root (out-DefinitionPathLink l).next.items)
leaves_of_link root l = ap (λ t. leaves_of_tree t) (
    ap (path_by_specifier root) (sym (rolls-Resolved (resolved.Link l)))
    ∙ (fold-roll-DefinitionPathNode PathTree PathTree PathTree (fold_node_to_tree root) (fold_resolved_to_tree root) (fold_link_to_tree root)
    (open_node.Resolved (resolved.Link l))
    ∙ (ap (fold-DefinitionPathNodeResolved PathTree PathTree PathTree (fold_node_to_tree root) (fold_resolved_to_tree root) (fold_link_to_tree root))
    (sym (rolls-Link l))
    ∙ (fold-roll-DefinitionPathNodeResolved PathTree PathTree PathTree (fold_node_to_tree root) (fold_resolved_to_tree root) (fold_link_to_tree root)
    (open_node.Link l)
    ∙ fold_out-DefinitionPathLink PathTree PathTree PathTree (fold_node_to_tree root) (fold_resolved_to_tree root) (fold_link_to_tree root) l))))

-- the invariant: the ends so far, and `rest` of the paths left
abbrev pub AreEndsSo : List DefinitionOrUnresolved → List DefinitionPathNode → List DefinitionOrUnresolved → List DefinitionPathNode → Type 0
AreEndsSo left rest at_search_start paths = (root : RootView)
    → map (path_leaf_of_end root) left ++ leaves_of_forest (paths_by_specifier root rest) ≡ map (path_leaf_of_end root) at_search_start
    ++ leaves_of_forest (paths_by_specifier root paths)

pub ends_next : (left more_left at_search_start : List DefinitionOrUnresolved) (path : DefinitionPathNode) (rest paths : List DefinitionPathNode)
    → AreEndsSo left (path ∷ rest) at_search_start paths → ((root : RootView)
    → map (path_leaf_of_end root) more_left ≡ map (path_leaf_of_end root) left ++ leaves_of_tree (path_by_specifier root path))
    → AreEndsSo more_left rest at_search_start paths
ends_next left more_left at_search_start path rest paths so added = λ root.
    ap (λ xs. xs ++ leaves_of_forest (paths_by_specifier root rest)) (added root)
    ∙ (append_assoc (map (path_leaf_of_end root) left) (leaves_of_tree (path_by_specifier root path)) (leaves_of_forest (paths_by_specifier root rest))
    ∙ so root)

pub ends_last : (left at_search_start : List DefinitionOrUnresolved) (rest paths : List DefinitionPathNode) → rest ≡ []
    → AreEndsSo left rest at_search_start paths
    → (root : RootView) → map (path_leaf_of_end root) left ≡ map (path_leaf_of_end root) at_search_start ++ leaves_of_forest (paths_by_specifier root paths)
ends_last left at_search_start rest paths over so root =
    sym (append-nil (map (path_leaf_of_end root) left))
    ∙ (ap (λ xs. map (path_leaf_of_end root) left ++ leaves_of_forest (paths_by_specifier root xs)) (sym over) ∙ so root)

-- ---- the ends of builders

pub leaves_linked : (heads : List LinkHead) (f : PathForest) → leaves_of_forest (forest_below_reversed_links heads f) ≡ leaves_of_forest f
leaves_linked [] f = refl
leaves_linked (head ∷ heads) f = leaves_linked heads (forest_below_link_unless_empty head f) ∙ leaves_of_forest-link_unless_empty head f

pub leaves_to : (root : RootView) (xs : Vec Segment Global) (end : DefinitionOrUnresolved)
    → leaves_of_forest (built_path root (builder.End xs end)) ≡ path_leaf_of_end root end ∷ []
leaves_to root xs end = ap leaves_of_forest (named_to root xs end)
    ∙ leaves_linked (reversed_link_heads_of_segments root xs.items) (forest_of_tree (leaf (path_leaf_of_end root end)))

pub leaves_fork : (root : RootView) (xs : Vec Segment Global) (branches : Vec PathBuilder Global) (last : Box PathBuilder Global)
    → leaves_of_forest (built_path root (builder.Fork xs branches last)) ≡ leaves_of_forest (built_paths root branches.items)
    ++ leaves_of_forest (built_path root last.value)
leaves_fork root xs branches last =
    ap leaves_of_forest (named_fork root xs branches last)
    ∙ (leaves_linked (reversed_link_heads_of_segments root xs.items) (joined_forests (built_paths root branches.items) (built_path root last.value))
    ∙ leaves_of_forest-join (built_paths root branches.items) (built_path root last.value))

-- the invariant: the ends so far, and `rest` of the builders left
pub record AreBuilderEndsSo (left : List DefinitionOrUnresolved) (rest : List PathBuilder) (at_search_start : List DefinitionOrUnresolved) (builders : List
    PathBuilder) : Type 0 where
  pub view : (root : RootView) → map (path_leaf_of_end root) left ++ leaves_of_forest (built_paths root rest)
      ≡ map (path_leaf_of_end root) at_search_start ++ leaves_of_forest (built_paths root builders)
  pub stored : (root : RootView) → AreModulesStored root (map module_of_end at_search_start) → AreModulesStored root (modules_of_builders builders)
      → AreModulesStored root (map module_of_end left) × AreModulesStored root (modules_of_builders rest)

pub builder_ends_first : (at_search_start : List DefinitionOrUnresolved) (builders : List PathBuilder)
    → AreBuilderEndsSo at_search_start builders at_search_start builders
builder_ends_first at_search_start builders = record { view = λ root. refl; stored = λ root a b. (a, b) }

pub builder_ends_next : (left more_left at_search_start : List DefinitionOrUnresolved) (one_builder : PathBuilder) (rest builders : List PathBuilder)
    → AreBuilderEndsSo left (one_builder ∷ rest) at_search_start builders → ((root : RootView) → map (path_leaf_of_end root) more_left ≡ map
    (path_leaf_of_end root) left
    ++ leaves_of_forest (built_path root one_builder))
    → ((root : RootView) → AreModulesStored root (map module_of_end left) → AreModulesStored root (modules_of_builder one_builder)
    → AreModulesStored root (map module_of_end more_left)) → AreBuilderEndsSo more_left rest at_search_start builders
builder_ends_next left more_left at_search_start one_builder rest builders so added stored = record {
  view = λ root.
      ap (λ xs. xs ++ leaves_of_forest (built_paths root rest)) (added root)
      ∙ (append_assoc (map (path_leaf_of_end root) left) (leaves_of_forest (built_path root one_builder)) (leaves_of_forest (built_paths root rest))
      ∙ (ap (λ xs. map (path_leaf_of_end root) left ++ xs) (sym (leaves_of_forest-join (built_path root one_builder) (built_paths root rest))) ∙ so.view root));
  stored = λ root a b.
      let h = so.stored root a b in
      let split = stored_apart root (modules_of_builder one_builder) (modules_of_builders rest) h.1 in
      (stored root h.0 split.0, split.1);
}

pub builder_ends_last : (left at_search_start : List DefinitionOrUnresolved) (rest builders : List PathBuilder) → rest ≡ []
    → AreBuilderEndsSo left rest at_search_start builders
    → (root : RootView) → map (path_leaf_of_end root) left ≡ map (path_leaf_of_end root) at_search_start ++ leaves_of_forest (built_paths root builders)
builder_ends_last left at_search_start rest builders over so root =
    sym (append-nil (map (path_leaf_of_end root) left))
    ∙ (ap (λ xs. map (path_leaf_of_end root) left ++ leaves_of_forest (built_paths root xs)) (sym over) ∙ so.view root)

-- one end more, of a stored module
pub end_stored : (root : RootView) (ends : List DefinitionOrUnresolved) (end : DefinitionOrUnresolved) → AreModulesStored root (map module_of_end ends)
    → AreModulesStored root (module_of_end end ∷ []) → AreModulesStored root (map module_of_end (ends ++ end ∷ []))
end_stored root ends end a b = subst (AreModulesStored root) (sym (map-append module_of_end ends (end ∷ [])))
    (stored_both root (map module_of_end ends) (module_of_end end ∷ []) a b)

-- ---- the definitions among ends

pub record AreDefinitionsSo (left : List Definition) (rest ends : List DefinitionOrUnresolved) : Type 0 where
  pub view : (root : RootView) → map (definition_by_specifier root) left
      ++ definitions_among (map (path_leaf_of_end root) rest) ≡ definitions_among (map (path_leaf_of_end root) ends)
  pub stored : (root : RootView) → AreModulesStored root (map module_of_end ends)
      → AreModulesStored root (map module_of_definition left) × AreModulesStored root (map module_of_end rest)

pub definitions_first : (ends : List DefinitionOrUnresolved) → AreDefinitionsSo [] ends ends
definitions_first ends = record { view = λ root. refl; stored = λ root a. (none_stored root, a) }

definitions_on : (x : PathLeaf) (xs : List PathLeaf) → definitions_among (x ∷ []) ++ definitions_among xs ≡ definitions_among (x ∷ xs)
definitions_on (definition d) xs = refl
definitions_on (unresolved m) xs = refl

pub definitions_next : (left more_left : List Definition) (end : DefinitionOrUnresolved) (rest ends : List DefinitionOrUnresolved)
    → AreDefinitionsSo left (end ∷ rest) ends → ((root : RootView) → map (definition_by_specifier root) more_left ≡ map (definition_by_specifier root) left
    ++ definitions_among (path_leaf_of_end root end ∷ [])) → ((root : RootView) → AreModulesStored root (map module_of_definition left)
    → AreModulesStored root (module_of_end end ∷ []) → AreModulesStored root (map module_of_definition more_left)) → AreDefinitionsSo more_left rest ends
definitions_next left more_left end rest ends so added stored = record {
  view = λ root.
      ap (λ xs. xs ++ definitions_among (map (path_leaf_of_end root) rest)) (added root)
      ∙ (append_assoc (map (definition_by_specifier root) left) (definitions_among (path_leaf_of_end root end ∷ []))
      (definitions_among (map (path_leaf_of_end root) rest))
      ∙ (ap (λ xs. map (definition_by_specifier root) left ++ xs) (definitions_on (path_leaf_of_end root end) (map (path_leaf_of_end root) rest))
      ∙ so.view root));
  stored = λ root a.
      let h = so.stored root a in
      let split = stored_apart root (module_of_end end ∷ []) (map module_of_end rest) h.1 in
      (stored root h.0 split.0, split.1);
}

pub definitions_last : (left : List Definition) (rest ends : List DefinitionOrUnresolved) → rest ≡ [] → AreDefinitionsSo left rest ends → (root : RootView)
    → map (definition_by_specifier root) left ≡ definitions_among (map (path_leaf_of_end root) ends)
definitions_last left rest ends over so root = sym (append-nil (map (definition_by_specifier root) left))
    ∙ (ap (λ xs. map (definition_by_specifier root) left ++ definitions_among (map (path_leaf_of_end root) xs)) (sym over) ∙ so.view root)

-- one definition more, of a stored module
pub definition_stored : (root : RootView) (xs : List Definition) (x : Definition) → AreModulesStored root (map module_of_definition xs)
    → AreModulesStored root (x.«module» ∷ []) → AreModulesStored root (map module_of_definition (xs ++ x ∷ []))
definition_stored root xs x a b = subst (AreModulesStored root) (sym (map-append module_of_definition xs (x ∷ [])))
    (stored_both root (map module_of_definition xs) (x.«module» ∷ []) a b)
