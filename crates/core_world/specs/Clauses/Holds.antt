-- A thread's hold words are those of its log, but for the one that it is taking or leaving.
use Rattle.std.specs.Prelude.{◌≡◌, ℕ, ◌+◌, ◌<◌, nat_lt, List, length, slice_index}
use Rattle.plain_monitor.specs.Limits.{most_holds}
use Rattle.core_world.specs.Threads.Stages.{one_if}
use Rattle.core_world.specs.Locks.{hold_count, depth_count}

-- `stands` is how often a thread holds an object by the plain monitor, and `more` how many hold words it has besides
pub record HoldsFitLogs (hold : ℕ → ℕ → ℕ) (holds : ℕ → List ℕ) (more stands : ℕ → ℕ → ℕ) : Type 0 where
  -- each is what its own thread last stored there
  pub stored : (t p : ℕ) → hold t p ≡ slice_index (holds t) p
  pub places : (t : ℕ) → length (holds t) ≡ most_holds
  pub number : (t o : ℕ) → hold_count o (holds t) ≡ stands o t + more t o
  -- each depth from 1 to that number stands there once, and no other
  pub each : (t o d : ℕ) → d < most_holds → depth_count o (d + 1) (holds t) ≡ one_if (nat_lt d (hold_count o (holds t)))
