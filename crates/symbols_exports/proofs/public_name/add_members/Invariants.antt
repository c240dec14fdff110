use Rattle.std.proofs.Common.{◌≡◌, ◌++◌, map}
use Rattle.symbols_exports.specs.PublicNames.{public_name_view, public_names_of_members}
use Rattle.symbols_exports.proofs.public_name.add_members.Given as goal

abbrev pub invariant-loop-member : goal.invariant-loop-member
invariant-loop-member l = map public_name_view l.names.items ++ public_names_of_members l.name l.member-iterator
    ≡ map public_name_view l.fn.names.items ++ public_names_of_members l.name l.fn.members
