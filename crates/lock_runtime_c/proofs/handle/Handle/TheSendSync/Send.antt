use mir.Raw.{raw}
use denote.Memory.{lone}
use denote.Struct.Struct.{exits_of}
use denote.Struct.Owning.{shape, fields, to}
use denote.Param.Send.{IsSend, AllSend, owning_send, struct_send, sendable}
use base.Shift.{Keyless}
use denote.RawPtr.{Ptr}
use Rattle.std.proofs.Common.{Option, None, Some}
use Rattle.std.specs.Global.{Global}
use Rattle.lock_runtime_c.specs.inner.Held.{held_owns}
use Rattle.std.proofs.Crossing as heap
use Rattle.std_alloc.proofs.SendSync.{quiet, lies}
use Rattle.std_heap.proofs.Global.TheSendSync as handle
use Rattle.lock_runtime_c.specs.contracts.inner.Inner as Inner
use Rattle.lock_runtime_c.proofs.inner.Inner.TheSendSync.{the_send as inner}
use Rattle.lock_runtime_c.specs.contracts.handle.Handle.{the_row, the_type}

-- what a handle has may cross, and nothing may
held_crosses : (a : Global) (p : Ptr) (v : Option Inner.the_row.Denot) → Keyless (held_owns a p v)
held_crosses a p None = tt
held_crosses a p (Some x) = ((lies Inner.the_row inner p x, heap.frees.frees a (raw (lone Inner.the_row.mir)) p), λ g. tt)

pub send : IsSend the_row
send =
    let all : AllSend (fields the_type) = (search sendable, (handle.the_field_send, tt)) in
    owning_send the_type all (λ d. held_crosses d.alloc d.ptr d.held)
    (λ k. quiet (to the_type) (exits_of k (fields the_type)) ((struct_send (shape the_type) all).leaving k))
