-- How a pass is given back, and a handle emptied.
use Rattle.std.specs.Prelude.{◌≡◌, ◌==◌, not, if◌then◌else◌, Option, Some, None}
use Rattle.core_world.specs.declared.heap_call.Unfinished.{Unfinished}
use Rattle.heap_table.specs.Kept.{all_holds}
use Rattle.heap_table.specs.Seen.{PassSeen}
use Rattle.lock_runtime_c.specs.declared.answers.Answer.{Answer}
use Rattle.lock_runtime_c.specs.declared.handle.Slot.{Slot}
use Rattle.lock_runtime_c.specs.declared.inner.Inner.{Inner}
use Rattle.lock_runtime_c.specs.declared.inner.Inner.TheVariants as inner
use Rattle.lock_runtime_c.specs.declared.outcome.Misuse.{Misuse}
use Rattle.lock_runtime_c.specs.declared.outcome.Misuse.TheVariants as misuse
use Rattle.lock_runtime_c.specs.declared.outcome.Outcome.TheVariants.{Done, Misused}
use Rattle.lock_runtime_c.specs.declared.outcome.Said.TheVariants.{Nothing}
use Rattle.lock_runtime_c.specs.Numbers.{answered}
use Rattle.lock_runtime_c.specs.Reasons.{if_so, or_else}

abbrev pub unfinished_reason : Option Unfinished → Option Misuse
unfinished_reason None = None
unfinished_reason (Some u) = Some (misuse.IsUnfinished u.op)

-- Why the pass may not be given back: its thread runs, asks, has something unfinished, or holds something. That of a halted run may, whatever its thread holds.
abbrev pub leave_reason : PassSeen → Option Misuse
leave_reason p =
    or_else (if_so p.known.running misuse.IsRunning)
    (if p.known.halted then None
    else or_else (if_so p.known.requesting misuse.IsAsking)
    (or_else (unfinished_reason p.known.unfinished) (if_so (not (all_holds p.known.holds == 0)) misuse.IsHolding)))

-- a pass goes home, where nothing speaks against it
abbrev pub not_left : Inner → Option Misuse
not_left (inner.Seat s) = leave_reason s.lent.thing
not_left _ = Some misuse.OtherKind

-- all but a pass may be let go
abbrev pub not_freed : Inner → Option Misuse
not_freed (inner.Seat s) = Some misuse.OtherKind
not_freed _ = None

-- the handle is empty then, or keeps what it has
abbrev pub EmptiesBy : Option Misuse → Inner → Slot → Answer → Type 0
EmptiesBy (Some why) x after a = (after.live ≡ 1) × (after.handle.held ≡ Some x) × (a ≡ answered (Misused why))
EmptiesBy None x after a = (after.live ≡ 0) × (after.handle.held ≡ None) × (a ≡ answered (Done Nothing))

pub record Empties (why : Inner → Option Misuse) (before after : Slot) (a : Answer) : Type 0 where
  pub had : (x : Inner) → before.live ≡ 1 → before.handle.held ≡ Some x → EmptiesBy (why x) x after a
  pub empty : (before.live ≡ 1 → ⊥) → (a ≡ answered (Misused misuse.Empty)) × (after ≡ before)
