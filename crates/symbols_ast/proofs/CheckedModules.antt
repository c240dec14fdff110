-- The tree of a checked module has no fault.
use Rattle.std.specs.Prelude.{IfSome}
use Rattle.std.specs.Option.{option_copied}
use Rattle.std.proofs.Common.{◌≡◌, Option, None, Some, Bor, subst, sym}
use Rattle.symbols_ast.specs.declared.tree.arena.Tree.{Tree}
use Rattle.symbols_ast.specs.Graph.{ModuleContent, content_text, content_tree, IsCheckedContent}
use Rattle.symbols_ast.specs.TreeFaults.{IsFaultlessTree}
use Rattle.symbols_ast.specs.WellFormed.{IsWellFormedTree}

-- A reference to the tree of a checked module is one to a faultless tree.
pub faultless_from_checked : (content : ModuleContent) (found : Option (Bor Tree)) → option_copied found ≡ content_tree content → IsCheckedContent content
    → IfSome found (λ t. IsFaultlessTree (content_text content) t.now.nodes.items)
faultless_from_checked content None is checked = tt
faultless_from_checked content (Some t) is checked =
    (subst (λ o. IfSome o (λ tree. IsFaultlessTree (content_text content) tree.nodes.items × IsWellFormedTree tree.nodes.items)) (sym is) checked).0
