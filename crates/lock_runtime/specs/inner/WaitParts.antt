-- Parts of waits and notifies: what comes once the object's mark has no bias pattern.
use Rattle.std.specs.Prelude.{ℕ, Option}
use Rattle.mark_word.specs.Mark.{read_mark}
use Rattle.core_world.specs.declared.answer.Progress.{Progress}
use Rattle.core_world.specs.declared.word_id.WordId.TheVariants.{Mark}
use Rattle.core_world.specs.Threads.ThreadView.{Local}
use Rattle.core_world.specs.Trees.MonitorSteps.{inflate_steps}
use Rattle.core_world.specs.Trees.Operations.{and_then, notify_at, notify_all_at}
use Rattle.core_world.specs.Trees.Plans.{CallContext, load}
use Rattle.core_world.specs.Trees.StepTree.{StepTree, ◌>>=◌, ask}
use Rattle.core_world.specs.Trees.WaitSteps.{monitor_wait_steps, monitor_resume_steps}
use Rattle.core_world.specs.Words.Shape.{Shape}

-- o is inflated with m: the thread lets it go, and looks at once whether it was notified
abbrev pub letting_go : CallContext → Local → ℕ → ℕ → StepTree (Progress (Unit {0}))
letting_go e k o m = do
  saved ← monitor_wait_steps e k o m
  monitor_resume_steps e k.thread saved o

-- o is inflated for that, with the monitor that the thread keeps if it needs one
abbrev pub inflated_wait : Shape → CallContext → Option ℕ → Local → ℕ → StepTree (Progress (Unit {0}))
inflated_wait s e kept k o = do
  progress ← inflate_steps s e kept o
  and_then progress (λ m. letting_go e k o m)

-- a notify, and a notify of all, by o's mark
abbrev pub marked_notify : Shape → CallContext → Local → ℕ → StepTree (Progress (Option ℕ))
marked_notify s e k o = do
  mark ← ask (load e (Mark o))
  notify_at (read_mark mark) s e k o

abbrev pub marked_notify_all : Shape → CallContext → Local → ℕ → StepTree (Progress ℕ)
marked_notify_all s e k o = do
  mark ← ask (load e (Mark o))
  notify_all_at (read_mark mark) s e k o
