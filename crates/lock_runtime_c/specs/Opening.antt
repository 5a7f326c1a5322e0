-- How a planned heap is opened, and how threads get their passes of it.
use Rattle.std.specs.Prelude.{◌≡◌, ◌⊎◌, ◌≤◌, ◌==◌, if◌then◌else◌, ℕ, length, Some, ◌<◌, []}
use Rattle.plain_monitor.specs.Limits.{entries_for}
use Rattle.heap_table.specs.Seen.{HeapSeen}
use Rattle.heap_table.specs.Layout.{shape_of}
use Rattle.lock_runtime_c.specs.Numbers.{answered}
use Rattle.lock_runtime_c.specs.declared.answers.Answer.{Answer}
use Rattle.lock_runtime_c.specs.declared.handle.Slot.{Slot}
use Rattle.lock_runtime_c.specs.declared.inner.Plan.{Plan}
use Rattle.lock_runtime_c.specs.declared.inner.Seat.{Seat}
use Rattle.lock_runtime_c.specs.declared.inner.Inner.{Inner}
use Rattle.lock_runtime_c.specs.declared.inner.Inner.TheVariants as inner
use Rattle.lock_runtime_c.specs.declared.outcome.Misuse.TheVariants.{Empty, NoThread, OtherKind, PassTaken, Taken}
use Rattle.lock_runtime_c.specs.declared.outcome.Outcome.{Outcome}
use Rattle.lock_runtime_c.specs.declared.outcome.Outcome.TheVariants.{Done, Misused, NoMemory}
use Rattle.lock_runtime_c.specs.declared.outcome.Said.TheVariants.{Nothing}
use Rattle.lock_runtime_c.specs.Planning.{Fills}
use Rattle.lock_runtime_c.specs.Rest.{IsHome}

-- for how many entries a page of its logs has room: for those that so much fuel may log, and for none where none are asked for
abbrev pub page_room : ℕ → ℕ
page_room fuel = if fuel == 0 then 0 else entries_for fuel

-- the heap is the planned one, and a page of its logs has that room
abbrev pub IsPlanned : Plan → HeapSeen → Type 0
IsPlanned p h =
    (h.heap ≡ record {
      shape = shape_of p.threads p.slots.items p.classes.items (length p.classes.items);
      start = p.start;
      biasing = p.biased;
    })
    × (h.room ≡ page_room p.fuel)

-- a plan becomes its heap; or memory is wanting, and it stays
abbrev pub Opens : Inner → Inner → Outcome → Type 0
Opens (inner.Plan p) after out =
    ((out ≡ Done Nothing) × (r : _) × (after ≡ inner.Room r) × IsPlanned p r.value.heap)
    ⊎ ((out ≡ NoMemory) × (after ≡ inner.Plan p))
Opens before after out = (after ≡ before) × (out ≡ Misused OtherKind)

-- A PASS: that of this thread, of this heap, which may have been at home. No page lies with it yet.
pub record IsPassOf (h : HeapSeen) (thread : ℕ) (s : Seat) : Type 0 where
  pub heap : s.room.value.heap ≡ h
  pub place : s.lent.place ≡ thread
  pub home : IsHome h thread s.lent.thing
  pub page : s.page.items ≡ []

abbrev pub IsSeatOf : HeapSeen → ℕ → Inner → Type 0
IsSeatOf h thread (inner.Seat s) = IsPassOf h thread s
IsSeatOf h thread x = ⊥

-- the heap has no such thread, or its pass was taken
abbrev pub GivesPass : Inner → ℕ → Slot → Slot → Outcome → Type 0
GivesPass (inner.Room r) thread before after out =
    Fills (IsSeatOf r.value.heap thread) before after out
    ⊎ ((out ≡ Misused NoThread) × (r.value.heap.heap.shape.threads ≤ thread) × (after ≡ before))
    ⊎ ((out ≡ Misused PassTaken) × (thread < r.value.heap.heap.shape.threads) × (after ≡ before))
GivesPass x thread before after out = (out ≡ Misused OtherKind) × (after ≡ before)

-- by a heap's handle, which stays
pub record PassBy (thread : ℕ) (before after out_before out_after : Slot) (out : Outcome) : Type 0 where
  pub had : (x : Inner) → before.live ≡ 1 → before.handle.held ≡ Some x
      → (after.live ≡ 1) × (after.handle.held ≡ Some x) × GivesPass x thread out_before out_after out
  pub empty : (before.live ≡ 1 → ⊥) → (out ≡ Misused Empty) × (after ≡ before) × (out_after ≡ out_before)

-- into an empty one: one that has something keeps it, and the heap's handle isn't looked at
pub record PassOf (thread : ℕ) (before after out_before out_after : Slot) (a : Answer) : Type 0 where
  pub taken : (out_before.live ≡ 0 → ⊥) → (a ≡ answered (Misused Taken)) × (after ≡ before) × (out_after ≡ out_before)
  pub given : out_before.live ≡ 0 → (out : Outcome) × (a ≡ answered out) × PassBy thread before after out_before out_after out
