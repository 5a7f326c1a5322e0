-- Parts of an exit by the monitor.
use Rattle.std.specs.Prelude.{ℕ, ◌==◌, if◌then◌else◌, Option}
use Rattle.mark_word.specs.declared.owner.OwnerForm.{OwnerForm}
use Rattle.core_world.specs.declared.word_id.WordId.TheVariants.{Recursions}
use Rattle.core_world.specs.Threads.ThreadView.{Local}
use Rattle.core_world.specs.Trees.LockSteps.{leave_steps}
use Rattle.core_world.specs.Trees.MonitorSteps.{lower_count_plan, own_steps, release_steps}
use Rattle.core_world.specs.Trees.Plans.{CallContext, load}
use Rattle.core_world.specs.Trees.StepTree.{StepTree, ◌>>=◌, ask}

-- The recursions of m, which are r, are lowered, and the hold is left.
abbrev pub lowered_exit : CallContext → Local → ℕ → ℕ → ℕ → StepTree (Unit {0})
lowered_exit e k o m r = do
  _ ← ask (lower_count_plan e o m r)
  leave_steps e k o

-- what comes after the owner word of m, which is the thread's own
abbrev pub counted_exit : CallContext → Local → ℕ → ℕ → StepTree (Unit {0})
counted_exit e k o m = do
  recursions ← ask (load e (Recursions m))
  if recursions == 0 then release_steps e k o m else lowered_exit e k o m recursions

-- what comes after the owner word of m, which has this form
abbrev pub owned_exit : Option OwnerForm → CallContext → Local → ℕ → ℕ → StepTree (Unit {0})
owned_exit form e k o m = do
  _ ← own_steps form e k o m
  counted_exit e k o m
