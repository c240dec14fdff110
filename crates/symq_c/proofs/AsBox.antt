-- A session handle and its parts own what a box of the state owns.
use mir.Syntax.{impl, tnil, dnil}
use mathlib.Core.List.{[]}
use denote.Signature.{Slot, plain}
use Rattle.std.proofs.BoxSteps.Form.{Bx}
use Rattle.std.specs.contracts.alloc.Global as Heap
use Rattle.std.specs.contracts.impls.GlobalAllocator.TheImpl.{ghosts, dict}
use Rattle.std.proofs.alloc.Global.TheLaws as heap
use Rattle.symq_c.specs.contracts.session_state.SessionState as SessionState
use Rattle.symq_c.proofs.session_state.SessionState.TheLaws as state
use Rattle.symq_c.specs.contracts.parts.HandleParts as HandleParts
use Rattle.symq_c.specs.contracts.session_handle.SessionHandle as SessionHandle

-- the types of a box of a session's state
abbrev pub E : Bx
E = record {
  row = SessionState.the_row;
  laws = state.the_row_laws;
  al = record { row = Heap.the_row; laws = heap.the_row_laws; g = ghosts; d = dict; drops = impl [] tnil dnil };
}

abbrev pub FromParts : Slot 0
FromParts = plain (λ _. HandleParts.the_row SessionState.the_row Heap.the_row ghosts)

abbrev pub FromHandle : Slot 0
FromHandle = plain (λ _. SessionHandle.the_row)

abbrev pub FromHeap : Slot 0
FromHeap = plain (λ _. Heap.the_row)
