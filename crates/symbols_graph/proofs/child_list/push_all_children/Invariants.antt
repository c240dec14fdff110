use Rattle.std.proofs.Common.{◌≡◌, ◌++◌, [], take}
use Rattle.std.specs.Option.{option_map, option_map_or}
use Rattle.std.specs.List.{flat_map}
use Rattle.symbols_ast.specs.FieldViews.{field_view}
use Rattle.symbols_graph.proofs.child_list.push_all_children.Given as goal

abbrev pub invariant-loop-slot : goal.invariant-loop-slot
invariant-loop-slot l =
    l.ids.items ≡ l.initial.ids.items ++ flat_map (λ slot. option_map_or (λ field. field.children) (option_map field_view slot) []) (take l.slot-index l.fields)
