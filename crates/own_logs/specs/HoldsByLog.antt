-- The holds that a pass's thread has by its own log, object by object.
use Rattle.std.specs.Prelude.{◌≡◌, ℕ, ◌<◌, List, length, slice_index}
use Rattle.plain_history.specs.HeldByLog.{held_by, nothing_held}
use Rattle.heap_table.specs.Seen.{HeapSeen, PassSeen}

-- these are they, of the heap's objects in their order
pub record AreHolds (h : HeapSeen) (p : PassSeen) (holds : List ℕ) : Type 0 where
  pub count : length holds ≡ length h.heap.shape.objects
  pub each : (o : ℕ) → o < length h.heap.shape.objects → slice_index holds o ≡ held_by nothing_held p.known.log o
