-- Parts of checks and of dumps, by what their threads know as they begin.
use Rattle.std.specs.Prelude.{ℕ, Bool, true, Option}
use Rattle.plain_monitor.specs.declared.entry.Entry.TheVariants as entry
use Rattle.core_world.specs.declared.answer.Progress.{Progress}
use Rattle.core_world.specs.declared.stage.Stage.TheVariants.{Settled}
use Rattle.core_world.specs.declared.heap_call.HeapCall.TheVariants as task
use Rattle.core_world.specs.declared.heap_call.Unfinished.{Unfinished}
use Rattle.core_world.specs.Threads.ThreadView.{Local}
use Rattle.core_world.specs.Trees.DeflateSteps.{deflate_steps}
use Rattle.core_world.specs.Trees.LookSteps.{stands_still_steps, take_shot_steps}
use Rattle.core_world.specs.Trees.Operations.{and_then, check_ending}
use Rattle.core_world.specs.Trees.Plans.{CallContext, done_with}
use Rattle.core_world.specs.Trees.SafepointSteps.{safepoint_steps, release_safepoint}
use Rattle.core_world.specs.Trees.StepTree.{StepTree, ◌>>=◌}
use Rattle.core_world.specs.Trees.WaitSteps.{publish_steps}
use Rattle.core_world.specs.Words.Shape.{Shape}

-- CHECKS. What one works for: the unfinished operation stays, and the check is unfinished until it is done.
abbrev pub checking : Option Unfinished → CallContext
checking u = record { task = task.Check; unfinished = u; check = true }

-- a check at thread t's reached safepoint, where idle monitors are given back, and which then ends
abbrev pub reached_check : Shape → ℕ → CallContext → StepTree (Progress Bool)
reached_check s t e = do
  still ← stands_still_steps e s
  _ ← deflate_steps s e Settled
  check_ending still e t

-- the whole of one
abbrev pub check_going : Shape → ℕ → Bool → CallContext → StepTree (Progress Bool)
check_going s t requesting e = do
  progress ← safepoint_steps e t requesting
  and_then progress (λ _. reached_check s t e)

-- the safepoint ends, and the dump of this number is logged
abbrev pub told_dump : CallContext → Local → ℕ → StepTree (Progress ℕ)
told_dump e k number = do
  _ ← release_safepoint e k.thread
  _ ← publish_steps (entry.Dump number) e k
  done_with number

-- at the thread's reached safepoint: the shot, and after it idle monitors are given back
abbrev pub reached_dump : Shape → CallContext → Local → ℕ → StepTree (Progress ℕ)
reached_dump s e k number = do
  _ ← take_shot_steps e s
  _ ← deflate_steps s e Settled
  told_dump e k number

-- the whole of one that is not refused
abbrev pub numbered_dump : Shape → Bool → CallContext → Local → ℕ → StepTree (Progress ℕ)
numbered_dump s requesting e k number = do
  progress ← safepoint_steps e k.thread requesting
  and_then progress (λ _. reached_dump s e k number)
