-- What a part takes of its thread's knowledge where that has changed since the operation began.
use Rattle.std.specs.Prelude.{ℕ, None}
use Rattle.core_world.specs.Trees.LockSteps.{leave_plan, clear_plan}
use Rattle.core_world.specs.Trees.Plans.{CallContext}
use Rattle.core_world.specs.Trees.StepTree.{StepTree, done, ◌>>=◌, ask}

-- `leave_steps` and `clear_steps` of a thread t whose newest record of o is at place p
abbrev pub leave_at : CallContext → ℕ → ℕ → ℕ → StepTree (Unit {0})
leave_at e t o p = do
  _ ← ask (leave_plan e t o p)
  done tt

abbrev pub clear_at : CallContext → ℕ → ℕ → StepTree (Unit {0})
clear_at e t p = do
  _ ← ask (clear_plan (record e { unfinished = None }) t p)
  done tt
