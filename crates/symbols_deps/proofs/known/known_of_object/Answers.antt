use Rattle.std.proofs.Common.{◌≡◌, refl, true, is_some}
use Rattle.symbols_ast.specs.NodeRefs.{node_view}
use Rattle.symbols_nodes.specs.DottedNames.{dotted_name_part_of_member_prop}
use Rattle.symbols_nodes.specs.Readings.{evaluate_node_of_greater_number}
use Rattle.symbols_deps.proofs.KnownLemmas.{object_unnamed}
use Rattle.symbols_deps.proofs.known.known_of_object.Goals as goal

pub returns-in-Some : goal.returns-in-Some
returns-in-Some c = λ child below.
    let node = node_view c.args.member in
    let part : is_some (evaluate_node_of_greater_number dotted_name_part_of_member_prop node c.args.prop) ≡ true = rw
    (← c.prop_part_below.ensures, c.in-Some.is) refl in
    let none = object_unnamed node child c.args.obj c.args.prop c.requires.kind c.requires.unnamed part below in
    (rw none refl, refl)
