-- The recursions of a monitor, and the displaced words of those who hold its object by it.
use Rattle.std.specs.Prelude.{◌≡◌, ◌⊎◌, ℕ, ◌+◌, ◌≤◌, true, List, slice_index, Some}
use Rattle.plain_monitor.specs.Monitor.{is_listed}
use Rattle.core_world.specs.declared.stage.Stage.{Stage}
use Rattle.core_world.specs.declared.stage.Stage.TheVariants.{Waits, Resumes, OwnerConverted}
use Rattle.core_world.specs.Words.Forms.{is_neutral, monitor_in, hold_word}
use Rattle.core_world.specs.Threads.Stages.{recursions_ahead, recursions_lowered}
use Rattle.core_world.specs.Locks.{Lock, Open, OnRecord, OwnedBy, recursion_count}

-- the records of thread t go by the monitor: it has the lock through it, or waits, or was notified
abbrev pub GoesByMonitor : Lock → List (ℕ × ℕ) → List (ℕ × ℕ) → ℕ → Type 0
GoesByMonitor lock waits called t = (lock ≡ OwnedBy t) ⊎ (is_listed waits t ≡ true) ⊎ (is_listed called t ≡ true)

pub record RecursionsFit (mark recursions : ℕ → ℕ) (lock : ℕ → Lock) (holds : ℕ → List ℕ) (stage : ℕ → Stage)
    (saved : ℕ → ℕ) (displaced : ℕ → ℕ → ℕ) (waits called : ℕ → List (ℕ × ℕ)) : Type 0 where
  -- the displaced word of the record with depth 1 is a header or 3, and that of each other one 0 or 3
  pub first : (o t p : ℕ) → GoesByMonitor (lock o) (waits o) (called o) t
      → slice_index (holds t) p ≡ hold_word o 1 → (is_neutral (displaced t p) ≡ true) ⊎ (displaced t p ≡ 3)
  pub others : (o t p d : ℕ) → GoesByMonitor (lock o) (waits o) (called o) t
      → slice_index (holds t) p ≡ hold_word o (d + 2) → d ≤ 62 → (displaced t p ≡ 0) ⊎ (displaced t p ≡ 3)
  -- the recursions count the records above depth 1 that were made through the monitor, but for the one hold that the thread is taking
  -- or leaving; at the stages Waits and Resumes the word may be anything
  pub owned : (o m t : ℕ) → monitor_in (mark o) ≡ Some m → lock o ≡ OwnedBy t → (stage t ≡ Waits o → ⊥)
      → (stage t ≡ Resumes o → ⊥)
      → recursions m + recursions_lowered (stage t) o ≡ recursion_count o (displaced t) (holds t)
      + recursions_ahead (stage t) o
  -- a thread that waits or was notified keeps them
  pub waiting : (o t : ℕ) → (is_listed (waits o) t ≡ true) ⊎ (is_listed (called o) t ≡ true)
      → saved t ≡ recursion_count o (displaced t) (holds t)
  pub on_record : (o m t p : ℕ) → monitor_in (mark o) ≡ Some m → lock o ≡ OnRecord t p → recursions m ≡ 0
  pub free : (o m : ℕ) → monitor_in (mark o) ≡ Some m → lock o ≡ Open → recursions m ≡ 0
  -- a thread that has become the owner in place of its own record has made no record above depth 1 through the monitor
  pub thread_owns : (o t : ℕ) → stage t ≡ OwnerConverted o → recursion_count o (displaced t) (holds t) ≡ 0
