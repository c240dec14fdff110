-- The view of a namespace declaration that contracts use.
use Rattle.std.specs.Option.{option_map}
use Rattle.symbols_ast.specs.NodeRefs.{node_view}
use Rattle.symbols_table.specs.declared.builder.items.Namespace.{Namespace as Found}
use Rattle.symbols_table.specs.TreeEvents.{Namespace}

abbrev pub namespace_view : Found → Namespace
namespace_view found = record { exported = option_map node_view found.exported; decl = node_view found.decl }
