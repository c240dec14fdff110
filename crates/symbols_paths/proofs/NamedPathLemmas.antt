-- Paths as trees, and their modules, by the form of a node.
use Rattle.std.proofs.Common.{◌≡◌, ℕ, zero, suc, ◌<◌, List, [], ◌∷◌, ◌++◌, length, true, false, Vec, refl, sym, ◌∙◌, ap, arith}
use Rattle.std.specs.Prelude.{String, vec_len, ◌==◌}
use Rattle.std.proofs.lemmas.Bool.Decides.{nat_tests}
use Rattle.std.specs.Global.{Global}
use Rattle.symbols_ast.specs.declared.ids.ModuleId.{ModuleId}
use Rattle.symbols_ast.specs.declared.ids.SymbolId.{SymbolId}
use Rattle.symbols_root.specs.Roots.{RootView}
use Rattle.symbols_paths.specs.declared.definition.DeclRef.{DeclRef}
use Rattle.symbols_paths.specs.declared.definition_path.DefinitionPathNode.{DefinitionPathNode}
use Rattle.symbols_paths.specs.declared.definition_path.DefinitionPathNode.TheFolds.{fold-DefinitionPathNodeResolved, fold-roll-DefinitionPathNode}
use Rattle.symbols_paths.specs.declared.definition_path.DefinitionPathNode.TheFolds.{fold-roll-DefinitionPathNodeResolved, fold-roll-DefinitionPathLink}
use Rattle.symbols_paths.specs.declared.definition_path.DefinitionPathNode.TheOpen as open_node
use Rattle.symbols_paths.specs.declared.definition_path.DefinitionPathNode.TheViews.{roll-DefinitionPathLink, rolls-Resolved, rolls-Link}
use Rattle.symbols_paths.specs.declared.definition_path.DefinitionPathNode.TheVariants as node
use Rattle.symbols_paths.specs.declared.definition_path.DefinitionPathNodeResolved.TheVariants as resolved
use Rattle.symbols_paths.specs.declared.definition_path.DefinitionPathLink.{DefinitionPathLink, DefinitionPathLink-F}
use Rattle.symbols_paths.specs.declared.definition_path.DefinitionPathNodeResolved.{DefinitionPathNodeResolved}
use Rattle.symbols_paths.specs.PathTrees.{PathTree, LinkHead, link, forest_of_tree, forest_below_link_unless_empty}
use Rattle.symbols_paths.specs.Views.{symbol_by_specifier, decl_by_specifier, strings_view, fold_node_to_tree, fold_resolved_to_tree, fold_link_to_tree}
use Rattle.symbols_paths.specs.Views.{path_by_specifier}
use Rattle.symbols_paths.specs.Views.{paths_by_specifier, fold_node_to_modules, fold_resolved_to_modules, fold_link_to_modules, modules_of_path}
use Rattle.symbols_paths.specs.Views.{modules_of_paths, AreModulesStored}

-- a link as a path
abbrev pub step_of : ModuleId → SymbolId → DeclRef → Vec (String Global) Global → Vec DefinitionPathNode Global → DefinitionPathNode
step_of id s decl parts next = node.Resolved
    (resolved.Link (roll-DefinitionPathLink (record { «module» = id; symbol = s; symbol_decl = decl; parts = parts; next = next })))

abbrev pub head_named : RootView → ModuleId → SymbolId → DeclRef → List (List ℕ) → LinkHead
head_named root id s decl parts = record { symbol = symbol_by_specifier root id s; decl = decl_by_specifier root id decl; parts = parts }

pub tree_of_step : (root : RootView) (id : ModuleId) (s : SymbolId) (decl : DeclRef) (parts : Vec (String Global) Global) (next : Vec DefinitionPathNode Global)
    (texts : List (List ℕ)) → strings_view parts.items ≡ texts
    → path_by_specifier root (step_of id s decl parts next) ≡ link (head_named root id s decl texts) (paths_by_specifier root next.items)
tree_of_step root id s decl parts next texts are =
    let l : DefinitionPathLink-F DefinitionPathNode DefinitionPathNodeResolved DefinitionPathLink =
    record { «module» = id; symbol = s; symbol_decl = decl; parts = parts; next = next } in
    ap (path_by_specifier root) (sym (rolls-Resolved (resolved.Link (roll-DefinitionPathLink l))))
    ∙ (fold-roll-DefinitionPathNode PathTree PathTree PathTree (fold_node_to_tree root) (fold_resolved_to_tree root) (fold_link_to_tree root)
    (open_node.Resolved (resolved.Link (roll-DefinitionPathLink l)))
    ∙ (ap (fold-DefinitionPathNodeResolved PathTree PathTree PathTree (fold_node_to_tree root) (fold_resolved_to_tree root) (fold_link_to_tree root))
    (sym (rolls-Link (roll-DefinitionPathLink l)))
    ∙ (fold-roll-DefinitionPathNodeResolved PathTree PathTree PathTree (fold_node_to_tree root) (fold_resolved_to_tree root) (fold_link_to_tree root)
    (open_node.Link (roll-DefinitionPathLink l))
    ∙ (fold-roll-DefinitionPathLink PathTree PathTree PathTree (fold_node_to_tree root) (fold_resolved_to_tree root) (fold_link_to_tree root) l
    ∙ ap (λ ts. link (head_named root id s decl ts) (paths_by_specifier root next.items)) are))))

abbrev pub Ids : Type 0
Ids = List ModuleId

pub modules_of_step : (id : ModuleId) (s : SymbolId) (decl : DeclRef) (parts : Vec (String Global) Global) (next : Vec DefinitionPathNode Global)
    → modules_of_path (step_of id s decl parts next) ≡ id ∷ modules_of_paths next.items
modules_of_step id s decl parts next =
    let l : DefinitionPathLink-F DefinitionPathNode DefinitionPathNodeResolved DefinitionPathLink =
    record { «module» = id; symbol = s; symbol_decl = decl; parts = parts; next = next } in
    ap modules_of_path (sym (rolls-Resolved (resolved.Link (roll-DefinitionPathLink l))))
    ∙ (fold-roll-DefinitionPathNode Ids Ids Ids fold_node_to_modules fold_resolved_to_modules fold_link_to_modules
    (open_node.Resolved (resolved.Link (roll-DefinitionPathLink l)))
    ∙ (ap (fold-DefinitionPathNodeResolved Ids Ids Ids fold_node_to_modules fold_resolved_to_modules fold_link_to_modules)
    (sym (rolls-Link (roll-DefinitionPathLink l)))
    ∙ (fold-roll-DefinitionPathNodeResolved Ids Ids Ids fold_node_to_modules fold_resolved_to_modules fold_link_to_modules
    (open_node.Link (roll-DefinitionPathLink l))
    ∙ fold-roll-DefinitionPathLink Ids Ids Ids fold_node_to_modules fold_resolved_to_modules fold_link_to_modules l)))

pub link_of_some : (head : LinkHead) (root : RootView) (paths : List DefinitionPathNode) → (length paths ≡ 0 → ⊥)
    → forest_below_link_unless_empty head (paths_by_specifier root paths) ≡ forest_of_tree (link head (paths_by_specifier root paths))
link_of_some head root [] some = absurd (some refl)
link_of_some head root (path ∷ paths) some = refl

pub stored_more : (root : RootView) (id : ModuleId) (ids : List ModuleId) → id.0 < length root.stored → AreModulesStored root ids
    → AreModulesStored root (id ∷ ids)
stored_more root id ids first rest zero d within = first
stored_more root id ids first rest (suc k) d within = rest k d (omega (arith, within))

-- `is_empty` of a list: its length is 0
pub none_at : (n : ℕ) → true ≡ (n == 0) → n ≡ 0
none_at n e = grind (arith, nat_tests)

pub some_at : (n : ℕ) → false ≡ (n == 0) → 0 < n
some_at n e = grind (arith, nat_tests)

pub is_some : {A : Type 0} (xs : Vec A Global) → false ≡ (vec_len xs == 0) → length xs.items ≡ 0 → ⊥
is_some xs said empty = omega (arith, some_at (vec_len xs) said, xs.ok.0, empty)

pub stored_both : (root : RootView) (xs ys : List ModuleId) → AreModulesStored root xs → AreModulesStored root ys → AreModulesStored root (xs ++ ys)
stored_both root [] ys left right k d within = right k d within
stored_both root (x ∷ xs) ys left right zero d within = left 0 d (omega arith)
stored_both root (x ∷ xs) ys left right (suc k) d within = stored_both root xs ys (λ j e h. left (suc j) e (omega (arith, h))) right k d (omega (arith, within))
