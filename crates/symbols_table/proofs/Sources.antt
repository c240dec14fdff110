-- The source of symbols of a module of a graph.
use Rattle.std.proofs.Common.{◌≡◌, ℕ, List, Some, true, sym, ap, refl}
use Rattle.symbols_ast.specs.declared.tree.arena.Tree.{Tree}
use Rattle.symbols_ast.specs.Graph.{ModuleContent, esm, json, external, content_text, content_tree, is_json}
use Rattle.symbols_table.specs.Modules.{parsed, json_text, analyzable_source}

pub tree_source : (content : ModuleContent) (text : List ℕ) (tree : Tree) → text ≡ content_text content → Some tree ≡ content_tree content
    → analyzable_source content ≡ Some (parsed text tree)
tree_source (esm local_name_bytes found types) text tree same has = rw (← has, same) refl
tree_source (json local_name_bytes) text tree same has = absurd (let e : ⊥ = cc in e)
tree_source external text tree same has = absurd (let e : ⊥ = cc in e)

pub json_source : (content : ModuleContent) (text : List ℕ) → text ≡ content_text content → is_json content ≡ true
    → analyzable_source content ≡ Some (json_text text)
json_source (esm local_name_bytes found types) text same is = absurd (let e : ⊥ = cc in e)
json_source (json local_name_bytes) text same is = ap (λ (t : List ℕ). Some (json_text t)) (sym same)
json_source external text same is = absurd (let e : ⊥ = cc in e)
