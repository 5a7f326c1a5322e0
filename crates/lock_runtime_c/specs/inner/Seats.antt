-- Whether a thread gets its pass.
use Rattle.std.specs.Prelude.{◌≡◌, ◌⊎◌, ◌<◌, ◌≤◌, ℕ, Result, Ok, Err}
use Rattle.heap_table.specs.Seen.{HeapSeen}
use Rattle.lock_runtime_c.specs.declared.inner.Seat.{Seat}
use Rattle.lock_runtime_c.specs.declared.outcome.Misuse.TheVariants.{NoThread, PassTaken}
use Rattle.lock_runtime_c.specs.declared.outcome.Outcome.{Outcome}
use Rattle.lock_runtime_c.specs.declared.outcome.Outcome.TheVariants.{Misused, NoMemory}
use Rattle.lock_runtime_c.specs.Opening.{IsPassOf}

-- it does; or the heap has no such thread, its pass was taken, or its room has as many owners as can be counted
abbrev pub SeatOf : HeapSeen → ℕ → Result Seat Outcome → Type 0
SeatOf h thread (Ok s) = IsPassOf h thread s
SeatOf h thread (Err out) =
    ((out ≡ Misused NoThread) × (h.heap.shape.threads ≤ thread)) ⊎ ((out ≡ Misused PassTaken) × (thread < h.heap.shape.threads)) ⊎ (out ≡ NoMemory)
