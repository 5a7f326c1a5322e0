-- Parts of an enter and of an exit by a lock record.
use Rattle.std.specs.Prelude.{ℕ, if◌then◌else◌}
use Rattle.mark_word.specs.Mark.{read_mark}
use Rattle.plain_monitor.specs.declared.entry.Path.{Path}
use Rattle.core_world.specs.declared.answer.StackOut.{StackOut}
use Rattle.core_world.specs.declared.word_id.WordId.TheVariants.{Mark}
use Rattle.core_world.specs.declared.stage.Stage.TheVariants.{Enters}
use Rattle.core_world.specs.Threads.ThreadView.{Local}
use Rattle.core_world.specs.Words.Forms.{is_entering}
use Rattle.core_world.specs.Trees.LockSteps.{store_ready_plan, log_enter_steps, stack_exit_at}
use Rattle.core_world.specs.Trees.Plans.{CallContext, load}
use Rattle.core_world.specs.Trees.StepTree.{StepTree, ◌>>=◌, ask}

-- Thread t's waiting word, which was Entering, becomes Ready, and the Enter is logged. The new hold word stands at place p.
abbrev pub ready_steps : CallContext → ℕ → ℕ → ℕ → Path → StepTree Path
ready_steps e t o p path = do
  _ ← ask (store_ready_plan e (Enters o p path) t)
  log_enter_steps e o path

-- `entered_steps` of a thread t with this waiting word, whose lowest free place was p
abbrev pub entered_by : CallContext → ℕ → ℕ → ℕ → ℕ → Path → StepTree Path
entered_by e t wait o p path = if is_entering wait then ready_steps e t o p path else log_enter_steps e o path

-- what comes after a header that is not 0
abbrev pub marked_exit : CallContext → Local → ℕ → ℕ → StepTree StackOut
marked_exit e k o header = do
  mark ← ask (load e (Mark o))
  stack_exit_at (read_mark mark) e k o header mark
