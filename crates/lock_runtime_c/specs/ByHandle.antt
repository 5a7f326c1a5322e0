-- What a call of C says, by what its handle had.
use Rattle.std.specs.Prelude.{◌≡◌, ◌≢◌, ◌≤◌, Option, Some, unwrap_or}
use Rattle.core_world.specs.declared.heap_call.HeapCall.{HeapCall}
use Rattle.heap_table.specs.Kept.{all_holds}
use Rattle.lock_runtime_c.specs.declared.answers.Answer.{Answer}
use Rattle.lock_runtime_c.specs.declared.handle.Slot.{Slot}
use Rattle.lock_runtime_c.specs.declared.inner.Inner.{Inner}
use Rattle.lock_runtime_c.specs.declared.inner.Inner.TheVariants as inner
use Rattle.lock_runtime_c.specs.declared.inner.Seat.{Seat}
use Rattle.lock_runtime_c.specs.declared.outcome.Misuse.TheVariants.{Empty, OtherKind}
use Rattle.lock_runtime_c.specs.declared.outcome.Outcome.{Outcome}
use Rattle.lock_runtime_c.specs.declared.outcome.Outcome.TheVariants.{Misused}
use Rattle.lock_runtime_c.specs.LogRoom.{KeepsRoom}
use Rattle.lock_runtime_c.specs.Numbers.{answered}
use Rattle.lock_runtime_c.specs.Told.{Told}

-- Of a thread's pass: it stays one of the same heap, with the same page, and this is what
-- became of it. Its log had room for an exit of each hold: so an exit is full only
-- where nothing is held. Of anything else: nothing could begin, and it stays so.
abbrev pub Within : Inner → Inner → HeapCall → Outcome → Type 0
Within (inner.Seat s) after task out =
    (z : Seat) × (after ≡ inner.Seat z) × (z.room ≡ s.room) × (z.page.items ≡ s.page.items) × KeepsRoom s.lent.thing
    × Told s.room.value.heap task s.lent.thing z.lent.thing out
Within before after task out = (after ≡ before) × (out ≡ Misused OtherKind)

-- By a handle that has something: it has still something, and that is told of it. By an empty one nothing could begin: this is the answer, and it is as
-- it was.
pub record ByHandleOf {R : Type 0} (Became : Inner → Inner → R → Type 0) (none : R) (before after : Slot) (out : R) : Type 0 where
  pub had : (x : Inner) → before.live ≡ 1 → before.handle.held ≡ Some x
      → (y : Inner) × (after.live ≡ 1) × (after.handle.held ≡ Some y) × Became x y out
  pub empty : (before.live ≡ 1 → ⊥) → (out ≡ none) × (after ≡ before)

-- the same of the answer that C gets
pub record AnswersOf (Became : Inner → Inner → Outcome → Type 0) (before after : Slot) (a : Answer) : Type 0 where
  pub outcome : Outcome
  pub is : a ≡ answered outcome
  pub by_handle : ByHandleOf Became (Misused Empty) before after outcome

-- so of the call of a task
abbrev pub ByHandle : Slot → Slot → HeapCall → Outcome → Type 0
ByHandle before after task out = ByHandleOf (λ x y o. Within x y task o) (Misused Empty) before after out

abbrev pub Answers : Slot → Slot → HeapCall → Answer → Type 0
Answers before after task a = AnswersOf (λ x y o. Within x y task o) before after a

-- what the handle has is looked at, and stays: this is the answer
pub record Reads (answer : Inner → Answer) (before after : Slot) (a : Answer) : Type 0 where
  pub had : (x : Inner) → before.live ≡ 1 → before.handle.held ≡ Some x → (after.live ≡ 1) × (after.handle.held ≡ Some x) × (a ≡ answer x)
  pub empty : (before.live ≡ 1 → ⊥) → (a ≡ answered (Misused Empty)) × (after ≡ before)

-- the same where something is written, which is as it was where nothing is found
pub record ReadsInto {R : Type 0} (answer : Inner → Answer) (found : Inner → Option R) (before after : Slot) (old new : R) (a : Answer) : Type 0 where
  pub reads : Reads answer before after a
  pub had : (x : Inner) → before.live ≡ 1 → before.handle.held ≡ Some x → new ≡ unwrap_or (found x) old
  pub empty : (before.live ≡ 1 → ⊥) → new ≡ old

-- an exit by a thread that holds something is never full
abbrev pub IsNeverFull : Slot → Answer → Type 0
IsNeverFull before a = (s : Seat) → before.live ≡ 1 → before.handle.held ≡ Some (inner.Seat s) → 1 ≤ all_holds s.lent.thing.known.holds → a.kind ≢ 4
