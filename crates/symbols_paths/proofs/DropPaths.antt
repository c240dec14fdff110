-- The weights of definition paths, for the loop that drops them.
use Rattle.std.proofs.Common.{◌≡◌, ℕ, ◌+◌, Vec, sym, ◌∙◌, ap}
use Rattle.std.specs.Prelude.{String}
use Rattle.std.specs.Global.{Global}
use Rattle.symbols_ast.specs.declared.ids.ModuleId.{ModuleId}
use Rattle.symbols_ast.specs.declared.ids.SymbolId.{SymbolId}
use Rattle.symbols_paths.specs.declared.definition.DeclRef.{DeclRef}
use Rattle.symbols_paths.specs.declared.definition_path.DefinitionPathLink.{DefinitionPathLink, DefinitionPathLink-F}
use Rattle.symbols_paths.specs.declared.definition_path.DefinitionPathNode.{DefinitionPathNode}
use Rattle.symbols_paths.specs.declared.definition_path.DefinitionPathNode.TheFolds.{fold-DefinitionPathNode, fold-DefinitionPathNodeResolved}
use Rattle.symbols_paths.specs.declared.definition_path.DefinitionPathNode.TheFolds.{fold-roll-DefinitionPathNode, fold-roll-DefinitionPathNodeResolved}
use Rattle.symbols_paths.specs.declared.definition_path.DefinitionPathNode.TheFolds.{fold-roll-DefinitionPathLink, fold_out-DefinitionPathLink}
use Rattle.symbols_paths.specs.declared.definition_path.DefinitionPathNode.TheOpen as open_node
use Rattle.symbols_paths.specs.declared.definition_path.DefinitionPathNode.TheVariants as node
use Rattle.symbols_paths.specs.declared.definition_path.DefinitionPathNode.TheViews.{roll-DefinitionPathLink, rolls-Resolved, rolls-Link}
use Rattle.symbols_paths.specs.declared.definition_path.DefinitionPathNodeResolved.{DefinitionPathNodeResolved}
use Rattle.symbols_paths.specs.declared.definition_path.DefinitionPathNodeResolved.TheVariants as resolved
use Rattle.symbols_paths.proofs.NamedPathLemmas.{step_of}
use Rattle.symbols_paths.proofs.DropOrder.{whole_in, ahead_in, whole, left}

abbrev W : Type 0
W = ℕ × ℕ

abbrev pub fold_node_to_weight : open_node.DefinitionPathNode-F (ℕ × ℕ) (ℕ × ℕ) (ℕ × ℕ) → ℕ × ℕ
fold_node_to_weight (open_node.Resolved w) = w
fold_node_to_weight (open_node.Unresolved x) = (1, 1)

abbrev pub fold_resolved_to_weight : open_node.DefinitionPathNodeResolved-F (ℕ × ℕ) (ℕ × ℕ) (ℕ × ℕ) → ℕ × ℕ
fold_resolved_to_weight (open_node.Link w) = w
fold_resolved_to_weight (open_node.Definition x) = (1, 1)

abbrev pub fold_link_to_weight : DefinitionPathLink-F (ℕ × ℕ) (ℕ × ℕ) (ℕ × ℕ) → ℕ × ℕ
fold_link_to_weight x = (1 + ahead_in x.next.items, 1 + whole_in x.next.items)

abbrev pub weight_of_path : DefinitionPathNode → ℕ × ℕ
weight_of_path = fold-DefinitionPathNode (ℕ × ℕ) (ℕ × ℕ) (ℕ × ℕ) fold_node_to_weight fold_resolved_to_weight fold_link_to_weight

pub weight_of_step : (id : ModuleId) (s : SymbolId) (decl : DeclRef) (parts : Vec (String Global) Global) (next : Vec DefinitionPathNode Global)
    → weight_of_path (step_of id s decl parts next) ≡ (1 + left weight_of_path next.items, 1 + whole weight_of_path next.items)
weight_of_step id s decl parts next =
    let l : DefinitionPathLink-F DefinitionPathNode DefinitionPathNodeResolved DefinitionPathLink =
    record { «module» = id; symbol = s; symbol_decl = decl; parts = parts; next = next } in
    ap weight_of_path (sym (rolls-Resolved (resolved.Link (roll-DefinitionPathLink l))))
    ∙ (fold-roll-DefinitionPathNode W W W fold_node_to_weight fold_resolved_to_weight fold_link_to_weight
    (open_node.Resolved (resolved.Link (roll-DefinitionPathLink l)))
    ∙ (ap (fold-DefinitionPathNodeResolved W W W fold_node_to_weight fold_resolved_to_weight fold_link_to_weight) (sym (rolls-Link (roll-DefinitionPathLink l)))
    ∙ (fold-roll-DefinitionPathNodeResolved W W W fold_node_to_weight fold_resolved_to_weight fold_link_to_weight (open_node.Link (roll-DefinitionPathLink l))
    ∙ fold-roll-DefinitionPathLink W W W fold_node_to_weight fold_resolved_to_weight fold_link_to_weight l)))

pub weight_of_link : (l : DefinitionPathLink)
    → weight_of_path (node.Resolved (resolved.Link l)) ≡ (1 + left weight_of_path l.next.items, 1 + whole weight_of_path l.next.items)
weight_of_link l = ap weight_of_path (sym (rolls-Resolved (resolved.Link l)))
    ∙ (fold-roll-DefinitionPathNode W W W fold_node_to_weight fold_resolved_to_weight fold_link_to_weight (open_node.Resolved (resolved.Link l))
    ∙ (ap (fold-DefinitionPathNodeResolved W W W fold_node_to_weight fold_resolved_to_weight fold_link_to_weight) (sym (rolls-Link l))
    ∙ (fold-roll-DefinitionPathNodeResolved W W W fold_node_to_weight fold_resolved_to_weight fold_link_to_weight (open_node.Link l)
    ∙ fold_out-DefinitionPathLink W W W fold_node_to_weight fold_resolved_to_weight fold_link_to_weight l)))
