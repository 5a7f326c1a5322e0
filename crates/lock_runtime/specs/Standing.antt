-- How a thread stands between two calls: it runs, it is stopped, or it is stopped and its own request for a safepoint stands.
use Rattle.std.specs.Prelude.{◌≡◌, Bool, true, false, Result, Ok, Err, length}
use Rattle.core_world.specs.declared.answer.Progress.{Progress}
use Rattle.core_world.specs.declared.answer.Progress.TheVariants.{Done, Pending}
use Rattle.core_world.specs.declared.answer.PendingCause.TheVariants.{Stopping}
use Rattle.core_world.specs.Threads.ThreadView.{ThreadView}

pub record IsRunning (k : ThreadView) : Type 0 where
  pub runs : k.running ≡ true
  pub asks : k.requesting ≡ false

pub record IsStopped (k : ThreadView) : Type 0 where
  pub runs : k.running ≡ false
  pub asks : k.requesting ≡ false

pub record IsAsking (k : ThreadView) : Type 0 where
  pub runs : k.running ≡ false
  pub asks : k.requesting ≡ true

-- After a turn of an operation its thread runs. Only where it is pending for running threads does its request stand.
abbrev pub StandsAfterTurn : {A : Type 0} → ThreadView → Progress A → Type 0
StandsAfterTurn k (Done a) = IsRunning k
StandsAfterTurn k (Pending (Stopping word)) = IsAsking k
StandsAfterTurn k (Pending _) = IsRunning k

-- a refusal leaves all that the thread knows
abbrev pub StandsOrSame : {A E : Type 0} → ThreadView → ThreadView → Result (Progress A) E → Type 0
StandsOrSame before k (Ok progress) = StandsAfterTurn k progress
StandsOrSame before k (Err e) = k ≡ before

-- the same of a call that makes its entry at once
abbrev pub RunsOrSame : {A E : Type 0} → ThreadView → ThreadView → Result A E → Type 0
RunsOrSame before k (Ok a) = IsRunning k
RunsOrSame before k (Err e) = k ≡ before

-- a stopped thread has published its whole log
pub record HasStopped (k : ThreadView) : Type 0 where
  pub stopped : IsStopped k
  pub published : k.published ≡ length k.log

-- a resume sets the thread running, or leaves it stopped
abbrev pub StandsAfterResumeTurn : ThreadView → Progress (Unit {0}) → Type 0
StandsAfterResumeTurn k (Done x) = IsRunning k
StandsAfterResumeTurn k (Pending why) = IsStopped k

-- a check that finds the run stuck halts it, and leaves its thread stopped
pub record HasHalted (k : ThreadView) : Type 0 where
  pub stopped : IsStopped k
  pub halted : k.halted ≡ true

abbrev pub StandsAfterCheckTurn : ThreadView → Progress Bool → Type 0
StandsAfterCheckTurn k (Done true) = HasHalted k
StandsAfterCheckTurn k (Done false) = IsRunning k
StandsAfterCheckTurn k (Pending (Stopping word)) = IsAsking k
StandsAfterCheckTurn k (Pending _) = IsRunning k
