-- Parts of a wait by the monitor.
use Rattle.std.specs.Prelude.{ℕ}
use Rattle.mark_word.specs.Mark.{read_mark}
use Rattle.core_world.specs.declared.answer.Progress.{Progress}
use Rattle.core_world.specs.declared.word_id.WordId.TheVariants.{Mark}
use Rattle.core_world.specs.Threads.ThreadView.{Local}
use Rattle.core_world.specs.Trees.LockSteps.{raise_stamp_plan}
use Rattle.core_world.specs.Trees.Plans.{CallContext, load, next_stamp}
use Rattle.core_world.specs.Trees.StepTree.{StepTree, done, ◌>>=◌, ask}
use Rattle.core_world.specs.Trees.WaitSteps.{save_count_plan, log_wait_steps, drop_plan, quit_plan, resume_mark_at}

-- what comes after the waiting word of thread t, which says that t was notified
abbrev pub marked_resume : CallContext → ℕ → ℕ → ℕ → StepTree (Progress (Unit {0}))
marked_resume e t saved o = do
  mark ← ask (load e (Mark o))
  resume_mark_at (read_mark mark) e t saved o

-- The stamp of o is raised, and the Wait is logged.
abbrev pub stamped_wait : CallContext → Local → ℕ → StepTree (Unit {0})
stamped_wait e k o = do
  _ ← ask (raise_stamp_plan e o (next_stamp k))
  log_wait_steps e k o

-- The monitor m of o is let go, all its recursions at once.
abbrev pub quit_steps : CallContext → ℕ → ℕ → StepTree (Unit {0})
quit_steps e o m = do
  _ ← ask (drop_plan e o m)
  _ ← ask (quit_plan e m)
  done tt

-- what comes after the owner word of m, which is the thread's own
abbrev pub owned_wait : CallContext → Local → ℕ → ℕ → StepTree ℕ
owned_wait e k o m = do
  recursions ← ask (save_count_plan e m)
  _ ← stamped_wait e k o
  _ ← quit_steps e o m
  done recursions
