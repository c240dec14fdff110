-- The modules that paths name are stored if their numbers are those of stored modules.
use Rattle.std.proofs.Common.{◌≡◌, ℕ, ◌<◌, List, [], ◌∷◌, length, map, sym, subst}
use Rattle.std.specs.Prelude.{All, Contains, flat_map}
use Rattle.std.proofs.lemmas.List.Elements.{All-nil, All-cons, All-head, All-tail, All-append}
use Rattle.symbols_ast.specs.declared.ids.ModuleId.{ModuleId}
use Rattle.symbols_root.specs.Roots.{RootView, specifier_in}
use Rattle.symbols_paths.specs.declared.definition.Definition.{Definition}
use Rattle.symbols_paths.specs.declared.definition_path.DefinitionPathLink.{DefinitionPathLink, DefinitionPathLink-F}
use Rattle.symbols_paths.specs.declared.definition_path.DefinitionPathNode.{DefinitionPathNode}
use Rattle.symbols_paths.specs.declared.definition_path.DefinitionPathNode.TheFolds.{fold-DefinitionPathNodeResolved, fold-DefinitionPathLink}
use Rattle.symbols_paths.specs.declared.definition_path.DefinitionPathNode.TheFolds.{fold-roll-DefinitionPathNode, fold-roll-DefinitionPathNodeResolved}
use Rattle.symbols_paths.specs.declared.definition_path.DefinitionPathNode.TheFolds.{fold-roll-DefinitionPathLink, ind-DefinitionPathNode}
use Rattle.symbols_paths.specs.declared.definition_path.DefinitionPathNode.TheFolds.{map-DefinitionPathNode, map-DefinitionPathNodeResolved}
use Rattle.symbols_paths.specs.declared.definition_path.DefinitionPathNode.TheFolds.{map-DefinitionPathLink}
use Rattle.symbols_paths.specs.declared.definition_path.DefinitionPathNode.TheOpen as open_node
use Rattle.symbols_paths.specs.declared.definition_path.DefinitionPathNode.TheViews.{roll-DefinitionPathNode, roll-DefinitionPathNodeResolved}
use Rattle.symbols_paths.specs.declared.definition_path.DefinitionPathNode.TheViews.{roll-DefinitionPathLink}
use Rattle.symbols_paths.specs.declared.definition_path.DefinitionPathNodeResolved.{DefinitionPathNodeResolved}
use Rattle.symbols_paths.specs.declared.definition_iter.DefinitionOrUnresolved.{DefinitionOrUnresolved}
use Rattle.symbols_paths.specs.declared.definition_iter.DefinitionOrUnresolved.TheVariants as end
use Rattle.symbols_paths.specs.declared.symbol_dep.ResolvedSymbolDepEntry.{ResolvedSymbolDepEntry}
use Rattle.symbols_paths.specs.declared.symbol_dep.ResolvedSymbolDepEntry.TheVariants as entry
use Rattle.symbols_paths.specs.DepAnswers.{resolved_dep_entry_view, modules_of_entry, modules_of_entries}
use Rattle.symbols_paths.specs.PathTrees.{PathTree, leaf, definition, unresolved}
use Rattle.symbols_paths.specs.Views.{definition_by_specifier, unresolved_entry_view, forest_of_trees, fold_node_to_tree, fold_resolved_to_tree}
use Rattle.symbols_paths.specs.Views.{fold_link_to_tree}
use Rattle.symbols_paths.specs.Views.{path_by_specifier, paths_by_specifier, concat_module_ids, fold_node_to_modules, fold_resolved_to_modules}
use Rattle.symbols_paths.specs.Views.{fold_link_to_modules}
use Rattle.symbols_paths.specs.Views.{modules_of_path, modules_of_paths, module_of_definition, path_leaf_of_end, module_of_end, AreModulesStored}
use Rattle.symbols_answers.specs.Answers.{module_of_definition_view, module_of_leaf, modules_of_path_tree, modules_of_path_forest, modules_of_dep_entry}
use Rattle.symbols_queries.proofs.Known.{all_front, all_back}
use Rattle.symbols_queries.proofs.Storing.{number_stored}

abbrev Ids : Type 0
Ids = List ModuleId

module _ (root : RootView) where
  abbrev IsKnown : ModuleId → Type 0
  IsKnown id = id.0 < length root.stored

  -- if these numbers are those of stored modules, all modules that the tree names are stored
  abbrev Follows : Ids → PathTree → Type 0
  Follows ids t = AreModulesStored root ids → All (Contains root.stored) (modules_of_path_tree t)

  abbrev OfNode : DefinitionPathNode → Type 0
  OfNode path = Follows (modules_of_path path) (path_by_specifier root path)

  abbrev OfResolved : DefinitionPathNodeResolved → Type 0
  OfResolved path = Follows (fold-DefinitionPathNodeResolved Ids Ids Ids fold_node_to_modules fold_resolved_to_modules fold_link_to_modules path)
      (fold-DefinitionPathNodeResolved PathTree PathTree PathTree (fold_node_to_tree root) (fold_resolved_to_tree root) (fold_link_to_tree root) path)

  abbrev OfLink : DefinitionPathLink → Type 0
  OfLink path = Follows (fold-DefinitionPathLink Ids Ids Ids fold_node_to_modules fold_resolved_to_modules fold_link_to_modules path)
      (fold-DefinitionPathLink PathTree PathTree PathTree (fold_node_to_tree root) (fold_resolved_to_tree root) (fold_link_to_tree root) path)

  -- nodes for which this holds
  abbrev Node : Type 0
  Node = (path : DefinitionPathNode) × OfNode path

  abbrev Resolved : Type 0
  Resolved = (path : DefinitionPathNodeResolved) × OfResolved path

  abbrev Link : Type 0
  Link = (path : DefinitionPathLink) × OfLink path

  follows_same : (ids more : Ids) (t u : PathTree) → ids ≡ more → t ≡ u → Follows more u → Follows ids t
  follows_same ids more t u same named_form follows known =
      subst (λ (v : PathTree). All (Contains root.stored) (modules_of_path_tree v)) (sym named_form) (follows (subst (AreModulesStored root) same known))

  alone : (id : ModuleId) → AreModulesStored root (id ∷ []) → All (Contains root.stored) (specifier_in root id ∷ [])
  alone id known = All-cons (Contains root.stored) (specifier_in root id) [] (number_stored root id (All-head IsKnown id [] known))
      (All-nil (Contains root.stored))

  by_node : (y : open_node.DefinitionPathNode-F Node Resolved Link) → OfNode (roll-DefinitionPathNode
      (map-DefinitionPathNode Node Resolved Link DefinitionPathNode DefinitionPathNodeResolved DefinitionPathLink (λ e. e.0) (λ e. e.0) (λ e. e.0) y))
  by_node (open_node.Resolved e) =
      let here : open_node.DefinitionPathNode-F DefinitionPathNode DefinitionPathNodeResolved DefinitionPathLink = open_node.Resolved e.0 in
      follows_same _ _ _ _ (fold-roll-DefinitionPathNode Ids Ids Ids fold_node_to_modules fold_resolved_to_modules fold_link_to_modules here)
      (fold-roll-DefinitionPathNode PathTree PathTree PathTree (fold_node_to_tree root) (fold_resolved_to_tree root) (fold_link_to_tree root) here) e.1
  by_node (open_node.Unresolved x) =
      let here : open_node.DefinitionPathNode-F DefinitionPathNode DefinitionPathNodeResolved DefinitionPathLink = open_node.Unresolved x in
      follows_same _ (x.«module» ∷ []) _ (leaf (unresolved (unresolved_entry_view root x)))
      (fold-roll-DefinitionPathNode Ids Ids Ids fold_node_to_modules fold_resolved_to_modules
      fold_link_to_modules here)
      (fold-roll-DefinitionPathNode PathTree PathTree PathTree (fold_node_to_tree root) (fold_resolved_to_tree root) (fold_link_to_tree root) here)
      (λ known. alone x.«module» known)

  by_resolved : (y : open_node.DefinitionPathNodeResolved-F Node Resolved Link) → OfResolved (roll-DefinitionPathNodeResolved
      (map-DefinitionPathNodeResolved Node Resolved Link DefinitionPathNode DefinitionPathNodeResolved DefinitionPathLink (λ e. e.0) (λ e. e.0) (λ e. e.0) y))
  by_resolved (open_node.Link e) =
      let here : open_node.DefinitionPathNodeResolved-F DefinitionPathNode DefinitionPathNodeResolved DefinitionPathLink = open_node.Link e.0 in
      follows_same _ _ _ _ (fold-roll-DefinitionPathNodeResolved Ids Ids Ids fold_node_to_modules fold_resolved_to_modules fold_link_to_modules here)
      (fold-roll-DefinitionPathNodeResolved PathTree PathTree PathTree (fold_node_to_tree root) (fold_resolved_to_tree root) (fold_link_to_tree root) here) e.1
  by_resolved (open_node.Definition x) =
      let here : open_node.DefinitionPathNodeResolved-F DefinitionPathNode DefinitionPathNodeResolved DefinitionPathLink = open_node.Definition x in
      follows_same _ (x.«module» ∷ []) _ (leaf (definition (definition_by_specifier root x)))
      (fold-roll-DefinitionPathNodeResolved Ids Ids Ids fold_node_to_modules
      fold_resolved_to_modules fold_link_to_modules here)
      (fold-roll-DefinitionPathNodeResolved PathTree PathTree PathTree (fold_node_to_tree root) (fold_resolved_to_tree root)
      (fold_link_to_tree root) here) (λ known. alone x.«module» known)

  next_there : (items : List Node) → AreModulesStored root (concat_module_ids (map modules_of_path (map (λ (e : Node). e.0) items)))
      → All (Contains root.stored) (modules_of_path_forest (forest_of_trees (map (path_by_specifier root) (map (λ (e : Node). e.0) items))))
  next_there [] known = All-nil (Contains root.stored)
  next_there (e ∷ items) known =
      let rest : Ids = concat_module_ids (map modules_of_path (map (λ (x : Node). x.0) items)) in
      All-append (Contains root.stored) (modules_of_path_tree (path_by_specifier root e.0))
      (modules_of_path_forest (forest_of_trees (map (path_by_specifier root) (map (λ (x : Node). x.0) items))))
      (e.1 (all_front IsKnown (modules_of_path e.0) rest known))
      (next_there items (all_back IsKnown (modules_of_path e.0) rest known))

  by_link : (y : DefinitionPathLink-F Node Resolved Link) → OfLink (roll-DefinitionPathLink
      (map-DefinitionPathLink Node Resolved Link DefinitionPathNode DefinitionPathNodeResolved DefinitionPathLink (λ e. e.0) (λ e. e.0) (λ e. e.0) y))
  by_link y =
      let here : DefinitionPathLink-F DefinitionPathNode DefinitionPathNodeResolved DefinitionPathLink =
      map-DefinitionPathLink Node Resolved Link DefinitionPathNode DefinitionPathNodeResolved DefinitionPathLink (λ e. e.0) (λ e. e.0) (λ e. e.0) y in
      let rest : Ids = concat_module_ids (map modules_of_path (map (λ (x : Node). x.0) y.next.items)) in
      let below : List (List ℕ) = modules_of_path_forest (forest_of_trees (map (path_by_specifier root) (map (λ (x : Node). x.0) y.next.items))) in
      follows_same _ _ _ _ (fold-roll-DefinitionPathLink Ids Ids Ids fold_node_to_modules fold_resolved_to_modules fold_link_to_modules here)
      (fold-roll-DefinitionPathLink PathTree PathTree PathTree (fold_node_to_tree root) (fold_resolved_to_tree root) (fold_link_to_tree root) here)
      (λ (known : AreModulesStored root (y.«module» ∷ rest)).
      let there = number_stored root y.«module» (All-head IsKnown y.«module» rest known) in
      All-cons (Contains root.stored) (specifier_in root y.«module») (specifier_in root y.«module» ∷ below) there
      (All-cons (Contains root.stored) (specifier_in root y.«module») below there (next_there y.next.items (All-tail IsKnown y.«module» rest known))))

  path_there : (path : DefinitionPathNode) → OfNode path
  path_there = ind-DefinitionPathNode OfNode OfResolved OfLink (λ x y is. subst (λ z. OfNode (roll-DefinitionPathNode z)) is (by_node y)) (λ x y is.
      subst (λ z. OfResolved (roll-DefinitionPathNodeResolved z)) is (by_resolved y)) (λ x y is. subst (λ z. OfLink (roll-DefinitionPathLink z)) is (by_link y))

  pub paths_there : (paths : List DefinitionPathNode) → AreModulesStored root (modules_of_paths paths)
      → All (Contains root.stored) (modules_of_path_forest (paths_by_specifier root paths))
  paths_there [] known = All-nil (Contains root.stored)
  paths_there (path ∷ paths) known =
      All-append (Contains root.stored) (modules_of_path_tree (path_by_specifier root path)) (modules_of_path_forest (paths_by_specifier root paths))
      (path_there path
      (all_front IsKnown (modules_of_path path) (modules_of_paths paths) known))
      (paths_there paths (all_back IsKnown (modules_of_path path) (modules_of_paths paths) known))

  -- ---- definitions, ends and entries

  pub definitions_there : (definitions : List Definition) → AreModulesStored root (map module_of_definition definitions)
      → All (Contains root.stored) (map module_of_definition_view (map (definition_by_specifier root) definitions))
  definitions_there [] known = All-nil (Contains root.stored)
  definitions_there (x ∷ rest) known =
      All-cons (Contains root.stored) (specifier_in root x.«module») (map module_of_definition_view (map (definition_by_specifier root) rest))
      (number_stored root x.«module»
      (All-head IsKnown x.«module» (map module_of_definition rest) known))
      (definitions_there rest (All-tail IsKnown x.«module» (map module_of_definition rest) known))

  end_there : (x : DefinitionOrUnresolved) → IsKnown (module_of_end x) → Contains root.stored (module_of_leaf (path_leaf_of_end root x))
  end_there (end.Definition x) known = number_stored root x.«module» known
  end_there (end.Unresolved x) known = number_stored root x.«module» known

  pub ends_there : (ends : List DefinitionOrUnresolved) → AreModulesStored root (map module_of_end ends)
      → All (Contains root.stored) (map module_of_leaf (map (path_leaf_of_end root) ends))
  ends_there [] known = All-nil (Contains root.stored)
  ends_there (x ∷ rest) known =
      All-cons (Contains root.stored) (module_of_leaf (path_leaf_of_end root x)) (map module_of_leaf (map (path_leaf_of_end root) rest))
      (end_there x (All-head IsKnown (module_of_end x) (map module_of_end rest) known))
      (ends_there rest (All-tail IsKnown (module_of_end x) (map module_of_end rest) known))

  entry_there : (x : ResolvedSymbolDepEntry) → AreModulesStored root (modules_of_entry x)
      → All (Contains root.stored) (modules_of_dep_entry (resolved_dep_entry_view root x))
  entry_there (entry.Path path) known = path_there path known
  entry_there (entry.ImportType id) known = alone id known

  pub entries_there : (entries : List ResolvedSymbolDepEntry) → AreModulesStored root (modules_of_entries entries)
      → All (Contains root.stored) (flat_map modules_of_dep_entry (map (resolved_dep_entry_view root) entries))
  entries_there [] known = All-nil (Contains root.stored)
  entries_there (x ∷ rest) known =
      All-append (Contains root.stored) (modules_of_dep_entry (resolved_dep_entry_view root x))
      (flat_map modules_of_dep_entry (map (resolved_dep_entry_view root) rest))
      (entry_there x (all_front IsKnown (modules_of_entry x) (modules_of_entries rest) known))
      (entries_there rest (all_back IsKnown (modules_of_entry x) (modules_of_entries rest) known))
