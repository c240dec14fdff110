-- The `export *` statements that an iterator has not returned yet.
use Rattle.std.proofs.Common.{◌≡◌, suc, ◌<◌, ◌≤◌, List, ◌∷◌, length, map, All, Iter, Option, None, Some, Bor, sym, ap, ◌∙◌, subst, arith}
use Rattle.std.specs.Slice.Iter.{iter_rest, iter_steps}
use Rattle.std.specs.Option.{option_and_then, option_map}
use Rattle.std.proofs.lemmas.Option.{slice_get_past}
use Rattle.symbols_ast.specs.declared.tree.arena.Tree.{Tree}
use Rattle.symbols_ast.specs.declared.tree.arena.Node.{Node}
use Rattle.symbols_table.specs.declared.info.re_exports.StarStatement.{StarStatement}
use Rattle.symbols_table.specs.ModuleViews.{export_star_view}
use Rattle.symbols_table.specs.Changes.{ExportStarStatement}
use Rattle.symbols_table.specs.Laws.{export_star_specifier, IsExportStarInTree}

abbrev AreLeft : Tree → Iter StarStatement → Type 0
AreLeft tree stars = All (IsExportStarInTree tree) (map export_star_view (iter_rest stars))

pub left_after : (tree : Tree) (s t : Iter StarStatement) (r : Option (Bor StarStatement)) → AreLeft tree s → iter_steps s r t → AreLeft tree t
left_after tree s t None all (none, same) = subst (AreLeft tree) (sym same) all
left_after tree s t (Some x) all e =
    let read : All (IsExportStarInTree tree) (map export_star_view (x.now ∷ iter_rest t)) =
    subst (λ (xs : List StarStatement). All (IsExportStarInTree tree) (map export_star_view xs)) e all in
    λ k d h. read (suc k) d (omega (arith, h))

pub star_inside : (tree : Tree) (star : ExportStarStatement) → IsExportStarInTree tree star → star.number < length tree.nodes.items
star_inside tree star is =
    let past : length tree.nodes.items ≤ star.number → ⊥ = λ le.
    let none : None ≡ Some star.specifier_text =
    sym (ap (λ (o : Option Node). option_and_then export_star_specifier (option_map (λ (node : Node). node.kind) o))
    (slice_get_past tree.nodes.items star.number le)) ∙ is in cc in
    omega arith

pub first_inside : (tree : Tree) (s : Iter StarStatement) (x : StarStatement) (rest : List StarStatement) → AreLeft tree s → iter_rest s ≡ x ∷ rest
    → (export_star_view x).number < length tree.nodes.items
first_inside tree s x rest all e =
    let read : All (IsExportStarInTree tree) (map export_star_view (x ∷ rest)) =
    subst (λ (xs : List StarStatement). All (IsExportStarInTree tree) (map export_star_view xs)) e all in
    star_inside tree (export_star_view x) (read 0 (export_star_view x) (omega arith))
