-- The moments of the calls that a thread made, and the resets that it counted, by the length of a tick.
use Rattle.std.specs.Prelude.{◌≡◌, ℕ, ◌+◌, ◌-◌, ◌*◌, ◌^◌, min, Bool, Some}
use Rattle.std.specs.List.{AllByRecursion}
use Rattle.core_calls.specs.Moments.{moment_of, IsDecidedAt}
use Rattle.core_world.specs.declared.heap_call.HeapCall.{HeapCall}
use Rattle.core_world.specs.Threads.Counts.{CountedVerdict}
use Rattle.core_world.specs.Threads.ThreadView.{ThreadView, StepMade}
use Rattle.heap_table.specs.Seen.{PassSeen}

-- It is the time after some count of ticks of so many units each, from 1 on. The time stays at the greatest u64 where it would pass that.
pub record IsMoment (tick now : ℕ) : Type 0 where
  pub count : ℕ
  pub is : now ≡ min (1 + tick * count) (2 ^ 64 - 1)

-- the call was given such a moment, if it takes one
abbrev pub IsOnTime : ℕ → HeapCall → Type 0
IsOnTime tick t = (now : ℕ) → moment_of t ≡ Some now → IsMoment tick now

-- a reset was counted, or none was, as the policy says at such a moment
pub record IsCountedOnTime (tick : ℕ) (reset : Bool) : Type 0 where
  pub now : ℕ
  pub moment : IsMoment tick now
  pub decided : IsDecidedAt now reset

-- so it was with all steps that the thread made, and all verdicts that it counted
pub record IsTimed (tick : ℕ) (k : ThreadView) : Type 0 where
  pub calls : AllByRecursion (λ (m : StepMade). IsOnTime tick m.plan.task) k.steps
  pub counts : AllByRecursion (λ (v : CountedVerdict). IsCountedOnTime tick v.reset) k.counts

-- the pass was p, and is q: the calls that it made in between were given such moments
abbrev pub StaysTimed : ℕ → PassSeen → PassSeen → Type 0
StaysTimed tick p q = IsTimed tick p.known → IsTimed tick q.known
