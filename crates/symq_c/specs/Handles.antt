-- What a session's pointer owns.
use base.Fml.{Fml, ftrue}
use denote.RawPtr.{Ptr}
use Rattle.std.specs.Prelude.{Option, None, Some}
use Rattle.std.specs.Box.Ownership.{box_owns}
use Rattle.std.specs.Global.{Global}
use Rattle.std.specs.contracts.impls.GlobalAllocator.TheImpl.{ghosts}
use Rattle.symq_c.specs.contracts.session_state.SessionState.{the_row}

-- nothing, or the memory of the state with the right to free it
abbrev pub session_handle_owns : Global → Ptr → Option the_row.Denot → Fml
session_handle_owns alloc at None = ftrue
session_handle_owns alloc at (Some state) = box_owns (ghosts.dealloc_token alloc) the_row at state
