-- The views of dotted names and their parts that contracts use.
use Rattle.std.specs.Prelude.{ℕ, List, ◌++◌, map, codes}
use Rattle.std.specs.Cow.{cow_str_bytes}
use Rattle.symbols_ast.specs.Ids.{id_view}
use Rattle.symbols_nodes.specs.declared.deps.dotted_names.MemberExprName.{MemberExprName}
use Rattle.symbols_nodes.specs.declared.deps.dotted_names.Part.{Part}
use Rattle.symbols_nodes.specs.DottedNames.{DottedName}

-- The text of a private name begins with `#`.
abbrev pub dotted_name_part_view : Part → List ℕ
dotted_name_part_view (Part.Text text) = text.now
dotted_name_part_view (Part.Private name) = codes "#" ++ name.now

abbrev pub member_expr_name_view : MemberExprName → DottedName
member_expr_name_view name = record { leftmost = id_view name.leftmost.now; parts = map cow_str_bytes name.parts.items }
