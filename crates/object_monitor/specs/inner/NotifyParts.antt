-- Parts of a notify.
use Rattle.std.specs.Prelude.{ℕ, if◌then◌else◌, List, [], ◌∷◌, length, Option, Some, None}
use Rattle.plain_monitor.specs.declared.entry.Entry.TheVariants as entry
use Rattle.core_world.specs.Threads.ThreadView.{Local}
use Rattle.core_world.specs.Trees.Plans.{CallContext}
use Rattle.core_world.specs.Trees.StepTree.{StepTree, done, ◌>>=◌, ask}
use Rattle.core_world.specs.Trees.WaitSteps.{is_older, publish_steps, notify_plan, notify_each}
use Rattle.core_world.specs.Words.Forms.{waits_on, stamp_in}

-- the first of these waiters
abbrev pub first_of : List (ℕ × ℕ) → Option (ℕ × ℕ)
first_of [] = None
first_of (p ∷ ps) = Some p

-- the oldest of p and of others, of whom this is the oldest
abbrev pub older_of : ℕ × ℕ → Option (ℕ × ℕ) → Option (ℕ × ℕ)
older_of p None = Some p
older_of p (Some q) = if is_older p q then Some p else Some q

-- the same, where thread t counts only if its waiting word w says that it waits on o
abbrev pub oldest_with : ℕ → ℕ → ℕ → Option (ℕ × ℕ) → Option (ℕ × ℕ)
oldest_with o t w others = if waits_on w o then older_of (t, stamp_in w) others else others

-- what comes after the look at the waiting words, by the oldest waiter
abbrev pub notify_one : Option (ℕ × ℕ) → CallContext → Local → ℕ → StepTree (Option ℕ)
notify_one None e k o = do
  _ ← publish_steps (entry.Notify o None) e k
  done None
notify_one (Some p) e k o = do
  _ ← ask (notify_plan e o p.0)
  done (Some p.0)

-- Each of these waiters is notified, the oldest first.
abbrev pub notify_those : List (ℕ × ℕ) → CallContext → ℕ → StepTree ℕ
notify_those ps e o = do
  _ ← notify_each ps e o 0
  done (length ps)
