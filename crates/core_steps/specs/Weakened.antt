-- Trees of steps that are wrong in one way each, and the stages at which no thread may stop.
use Rattle.std.specs.Prelude.{ℕ, ◌==◌, nat_lt, cond, Bool, true, false, None}
use Rattle.plain_monitor.specs.declared.entry.Path.{Path}
use Rattle.plain_monitor.specs.declared.entry.Path.TheVariants.{StackFirst}
use Rattle.core_world.specs.declared.answer.StackOut.{StackOut}
use Rattle.core_world.specs.declared.answer.StackOut.TheVariants.{Left, Not}
use Rattle.core_world.specs.declared.answer.Progress.{Progress}
use Rattle.core_world.specs.declared.answer.PendingCause.TheVariants as why
use Rattle.core_world.specs.declared.stage.Stage.{Stage}
use Rattle.core_world.specs.declared.stage.Stage.TheVariants.{RecordLocked, MonitorAcquired, Enters, Resumes, Exits, Waits, Inflates, Notifies}
use Rattle.core_world.specs.declared.word_id.WordId.TheVariants.{Header}
use Rattle.core_world.specs.Words.Shape.{Shape}
use Rattle.core_world.specs.Threads.ThreadView.{Local}
use Rattle.core_world.specs.Trees.CreateSteps.{class_plan, make_plan, creating}
use Rattle.core_world.specs.Trees.DeflateSteps.{detach_plan, clean_plan}
use Rattle.core_world.specs.Trees.MonitorSteps.{inflate_by}
use Rattle.core_world.specs.Trees.LockSteps.{displace_plan, seize_plan, let_go_plan, clear_plan, hold_steps}
use Rattle.core_world.specs.Trees.Plans.{CallContext, with_stage, done_with, pending_for, free_place, top_place}
use Rattle.core_world.specs.Trees.SafepointSteps.{stop_plan}
use Rattle.core_world.specs.Trees.StepTree.{StepTree, done, ◌>>=◌, ask}

-- An enter by a neutral mark that stores the displaced word only after the exchange.
abbrev pub late_displaced_steps : CallContext → Local → ℕ → ℕ → StepTree (Progress Path)
late_displaced_steps e k o mark = do
  found ← ask (seize_plan e k.thread o mark (free_place k.holds))
  cond (found == mark) (do
    _ ← ask (displace_plan e (RecordLocked o (free_place k.holds)) k.thread (free_place k.holds) mark)
    path ← hold_steps e k o StackFirst
    done_with path) (pending_for (why.Raced mark found))

-- An exit that clears its hold word before it puts the header back.
abbrev pub early_clearing_steps : CallContext → Local → ℕ → ℕ → ℕ → StepTree StackOut
early_clearing_steps e k o header mark = do
  _ ← ask (clear_plan e k.thread (top_place o k.holds))
  found ← ask (let_go_plan e o mark header (top_place o k.holds))
  cond (found == mark) (done Left) (done (Not (why.Raced mark found)))

-- A stop by a thread that stands, and goes on to stand, at this stage. Its log is published.
abbrev pub stop_at_stage_steps : CallContext → Stage → Local → StepTree (Unit {0})
stop_at_stage_steps e stage k = do
  _ ← ask (with_stage stage (stop_plan e k.thread))
  done tt

-- An inflation that claims a position even where its thread keeps a monitor, from one that didn't come about.
abbrev pub always_claiming_steps : Shape → CallContext → ℕ → ℕ → StepTree (Progress ℕ)
always_claiming_steps s e o mark = inflate_by None s e o mark

-- A deflation that clears the header of the monitor m before it stores it as the mark of o.
abbrev pub early_cleaning_steps : CallContext → Stage → ℕ → ℕ → ℕ → StepTree (Unit {0})
early_cleaning_steps e stage o m header = do
  _ ← ask (clean_plan e stage (Header m))
  _ ← ask (detach_plan e stage o m header)
  done tt

-- The making of an object that stores its first mark before its class word.
abbrev pub early_mark_steps : CallContext → ℕ → ℕ → ℕ → StepTree ℕ
early_mark_steps e o c prototype = do
  _ ← ask (make_plan e o c prototype)
  _ ← ask (class_plan e o c)
  done o

-- The making of this object, whichever one the thread makes next.
abbrev pub any_object_steps : ℕ → ℕ → ℕ → StepTree ℕ
any_object_steps o c prototype = do
  _ ← ask (class_plan (creating o c) o c)
  _ ← ask (make_plan (creating o c) o c prototype)
  done o

-- No thread may stop at this stage: it is in the middle of taking or leaving a lock, of a wait, of an inflation, or of telling several of those who
-- wait. (At `Takes` and `TakesOver` the clauses hold of a thread in the middle of nothing too.)
abbrev pub is_between : Stage → Bool
is_between (RecordLocked object place) = true
is_between (MonitorAcquired object) = true
is_between (Enters object place path) = true
is_between (Resumes object) = true
is_between (Exits object place) = true
is_between (Waits object) = true
is_between (Inflates object thread place) = true
is_between (Notifies object told) = nat_lt 0 told
is_between _ = false
