-- Events of parts of a tree, whose references to other events depend on where the part's events start.
use Rattle.std.specs.Prelude.{ℕ, ◌+◌, List, [], ◌∷◌, ◌++◌, length, Option, None, Some, unwrap_or}
use Rattle.std.specs.Option.{option_and_then}
use Rattle.symbols_ast.specs.declared.tree.arena.Id.{Id}
use Rattle.symbols_ast.specs.declared.tree.arena.SourceRange.{SourceRange}
use Rattle.symbols_ast.specs.declared.tree.kinds.Kind.{Kind}
use Rattle.symbols_ast.specs.NodeRefs.{TreeNode, kind_of, range_of, child_in_field}
use Rattle.symbols_ast.specs.Ids.{ident_id}
use Rattle.symbols_table.specs.Events.{DeclarationEvent}

-- The events of a part of a tree, as a function of the holder's event position and the position of the part's first event.
abbrev pub EventsByHolderAndStart : Type 0
EventsByHolderAndStart = ℕ → ℕ → List DeclarationEvent

abbrev pub no_events_by_holder_and_start : EventsByHolderAndStart
no_events_by_holder_and_start holder start = []

-- The events of an optional part; none if it is absent.
abbrev pub events_if_some : {A : Type 0} → Option A → (A → EventsByHolderAndStart) → EventsByHolderAndStart
events_if_some None part = no_events_by_holder_and_start
events_if_some (Some x) part = part x

-- Events followed by others that start right after them.
abbrev pub events_followed_by : List DeclarationEvent → (ℕ → List DeclarationEvent) → ℕ → List DeclarationEvent
events_followed_by events next start = events ++ next (start + length events)

-- The events of each part of a list, in order.
abbrev pub events_of_each : {A : Type 0} → (A → EventsByHolderAndStart) → List A → EventsByHolderAndStart
events_of_each part [] holder start = []
events_of_each part (x ∷ xs) holder start = events_followed_by (part x holder start) (events_of_each part xs holder) start

-- The range of a node; an empty range at 0 if there is no such node.
abbrev pub range_or_empty : TreeNode → SourceRange
range_or_empty node = unwrap_or (range_of node) (record { start = 0; end = 0 })

-- The identifier that the child of a field is, if it is one.
abbrev pub id_of_ident_child : (Kind → Option ℕ) → TreeNode → Option Id
id_of_ident_child field node = option_and_then ident_id (option_and_then kind_of (child_in_field node field))
