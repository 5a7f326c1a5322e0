-- When an owner may tell those who wait.
use Rattle.std.specs.Prelude.{◌≡◌, ◌⊎◌, ℕ, ◌+◌, ◌<◌, true, length, Some}
use Rattle.plain_monitor.specs.declared.entry.Entry.TheVariants as entry
use Rattle.core_world.specs.declared.word_id.WordId.TheVariants.{Waiting}
use Rattle.core_world.specs.declared.stage.Stage.TheVariants.{Settled, Notifies}
use Rattle.core_world.specs.Words.Shape.{Shape}
use Rattle.core_world.specs.Words.Forms.{waits_on, stamp_in}
use Rattle.core_world.specs.Threads.ThreadView.{ThreadView, last_seen}
use Rattle.core_world.specs.Threads.References.{HasReference}
use Rattle.core_world.specs.Clauses.Lengths.{log_limit}
use Rattle.core_world.specs.Trees.Plans.{CallContext}
use Rattle.core_world.specs.Trees.WaitSteps.{is_older}
use Rattle.core_locks.specs.Knowing.{GoesOn, HasHold, IsOwnEntry}

-- In this call it has seen the waiting word of each of n threads. By what it saw or stored last, u waits on o, and has waited longer than all
-- others who wait there.
pub record SawOldest (n : ℕ) (k : ThreadView) (o u : ℕ) : Type 0 where
  pub word : ℕ
  pub saw : last_seen (Waiting u) k.seen ≡ Some word
  pub waits : waits_on word o ≡ true
  pub oldest : (z : ℕ) → z < n → (y : ℕ) × (last_seen (Waiting z) k.seen ≡ Some y)
      × (waits_on y o ≡ true → (z ≡ u) ⊎ (is_older (u, stamp_in word) (z, stamp_in y) ≡ true))

-- and nobody else waits there
abbrev pub SawNoOtherWaiter : ℕ → ThreadView → ℕ → ℕ → Type 0
SawNoOtherWaiter n k o u = (z : ℕ) → z < n → (y : ℕ) × (last_seen (Waiting z) k.seen ≡ Some y) × (waits_on y o ≡ true → z ≡ u)

-- it has told n of those who wait on o: none at first
abbrev pub HasNotified : ThreadView → ℕ → ℕ → Type 0
HasNotified k o n = ((k.stage ≡ Settled) × (n ≡ 0)) ⊎ (k.stage ≡ Notifies o n)

-- Storing Notified with o in the waiting word of u: the thread holds o, and u is the oldest of those who wait there. It has told n already.
pub record MayWake (s : Shape) (k : ThreadView) (o u n : ℕ) : Type 0 where
  pub runs : k.running ≡ true
  pub ready : k.wait ≡ 0
  pub holds : HasHold k o
  pub object : HasReference s k o
  pub told : HasNotified k o n
  pub oldest : SawOldest s.threads k o u

-- one of several, in a notifyAll
pub record MayWakeNext (s : Shape) (k : ThreadView) (e : CallContext) (o u n : ℕ) : Type 0 where
  pub wakes : MayWake s k o u n
  pub goes_on : GoesOn k e

-- in a notify
pub record MayNotify (s : Shape) (k : ThreadView) (o u : ℕ) : Type 0 where
  pub wakes : MayWake s k o u 0
  pub calm : k.stage ≡ Settled
  pub room : length k.log < log_limit
  pub own_entry : IsOwnEntry k (entry.Notify o (Some u))

-- the last one in a notifyAll, or the only one
pub record MayNotifyAll (s : Shape) (k : ThreadView) (o u n : ℕ) : Type 0 where
  pub wakes : MayWake s k o u n
  pub last : SawNoOtherWaiter s.threads k o u
  pub room : length k.log < log_limit
  pub own_entry : IsOwnEntry k (entry.NotifyAll o (n + 1))
