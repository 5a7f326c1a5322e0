-- Whom a notify wakes: where a lock record has the lock, it is the caller's own.
use Rattle.std.specs.Prelude.{◌≡◌, ◌⊎◌, ℕ, List, Option, None}
use Rattle.core_world.specs.Threads.ThreadView.{StepMade}
use Rattle.core_world.specs.Words.Shape.{Shape}
use Rattle.core_calls.specs.Woken.{IsRecordLocked, WakesOldest, WakesEach}

-- o's mark was loaded, and says that a lock record of thread t has the lock
abbrev pub IsOwnLocked : ℕ → ℕ → List StepMade → Type 0
IsOwnLocked t o ms = (r : IsRecordLocked o ms) × (r.thread ≡ t)

-- nobody waits where a record of thread t, who calls, has the lock; else the words loaded tell whom it wakes
abbrev pub OwnerWakes : ℕ → Shape → ℕ → List StepMade → Option ℕ → Type 0
OwnerWakes t s o ms woken = (IsOwnLocked t o ms × (woken ≡ None)) ⊎ WakesOldest s o ms woken

abbrev pub OwnerWakesAll : ℕ → Shape → ℕ → List StepMade → ℕ → Type 0
OwnerWakesAll t s o ms woken = (IsOwnLocked t o ms × (woken ≡ 0)) ⊎ WakesEach s o ms woken
