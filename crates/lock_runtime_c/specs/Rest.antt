-- What holds of what lies behind a handle, between two calls of C.
use Rattle.std.specs.Prelude.{◌≡◌, ◌⊎◌, ℕ, ◌≤◌, ◌<◌, true, false, All, length}
use Rattle.plain_monitor.specs.Limits.{most_threads, most_classes, most_slots, most_objects, most_fuel}
use Rattle.heap_table.specs.Resting.{Rests}
use Rattle.heap_table.specs.Seen.{HeapSeen, PassSeen}
use Rattle.lock_runtime_c.specs.LogRoom.{KeepsRoom}
use Rattle.heap_table.specs.Quick.{IsFree}
use Rattle.lock_runtime_c.specs.declared.inner.Plan.{Plan}
use Rattle.lock_runtime_c.specs.declared.inner.Seat.{Seat}
use Rattle.lock_runtime_c.specs.declared.inner.Inner.{Inner}
use Rattle.lock_runtime_c.specs.declared.inner.Inner.TheVariants as inner

-- the plan is in the limits of a heap, and each object is of one of its classes
abbrev pub IsInLimits : Plan → Type 0
IsInLimits p =
    (p.threads ≤ most_threads)
    × (p.fuel ≤ most_fuel)
    × (length p.slots.items ≤ most_classes)
    × All (λ n. n ≤ most_slots) p.slots.items
    × (length p.classes.items ≤ most_objects)
    × All (λ c. c < length p.slots.items) p.classes.items

-- The pass is at rest, and its log has room for an exit of each hold.
pub record IsKept (h : HeapSeen) (p : PassSeen) : Type 0 where
  pub rests : Rests h p
  pub room : KeepsRoom p

-- so is that of thread t
pub record IsSeated (h : HeapSeen) (t : ℕ) (p : PassSeen) : Type 0 where
  pub kept : IsKept h p
  pub thread : p.known.thread ≡ t

-- It may lie at home: its thread is stopped, and asks for nothing, unless it knows of the halt.
pub record IsHome (h : HeapSeen) (t : ℕ) (p : PassSeen) : Type 0 where
  pub seated : IsSeated h t p
  pub stopped : p.known.running ≡ false
  pub quiet : (p.known.requesting ≡ false) ⊎ (p.known.halted ≡ true)

-- So between two calls of C. Where the seat says that the pass is free, it is.
pub record IsAtRest (s : Seat) : Type 0 where
  pub seated : IsSeated s.room.value.heap s.lent.place s.lent.thing
  pub free : s.free ≡ true → IsFree s.lent.thing.known

-- what a heap has at home its own fields say
abbrev pub RestsWithin : Inner → Type 0
RestsWithin (inner.Plan p) = IsInLimits p
RestsWithin (inner.Seat s) = IsAtRest s
RestsWithin _ = Unit {0}
