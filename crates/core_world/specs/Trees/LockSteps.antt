-- The steps that take and leave a hold by a lock record, after OpenJDK 8's synchronizer.cpp (fast_enter, slow_enter, fast_exit).
use Rattle.std.specs.Prelude.{ℕ, ◌+◌, ◌==◌, if◌then◌else◌, Option, Some, None}
use Rattle.mark_word.specs.declared.mark.MarkForm.{MarkForm}
use Rattle.mark_word.specs.declared.mark.MarkForm.TheVariants.{Inflating, Neutral, Locked, Inflated}
use Rattle.mark_word.specs.declared.wait.WaitForm.TheVariants.{Ready}
use Rattle.mark_word.specs.Mark.{mark_of, read_mark}
use Rattle.mark_word.specs.Wait.{wait_of}
use Rattle.plain_monitor.specs.declared.entry.Entry.TheVariants as entry
use Rattle.plain_monitor.specs.declared.entry.Path.{Path}
use Rattle.plain_monitor.specs.declared.entry.Path.TheVariants.{StackFirst, StackAgain}
use Rattle.core_world.specs.declared.act.Act.TheVariants.{Load, Store, CompareExchange, FetchMax}
use Rattle.core_world.specs.declared.word_id.WordId.TheVariants.{Mark, Stamp, Hold, Displaced, Waiting}
use Rattle.core_world.specs.declared.plan.StepPlan.{StepPlan}
use Rattle.core_world.specs.declared.stage.Stage.{Stage}
use Rattle.core_world.specs.declared.stage.Stage.TheVariants.{Settled, RecordLocked, Enters, Exits}
use Rattle.core_world.specs.declared.answer.Progress.{Progress}
use Rattle.core_world.specs.declared.answer.PendingCause.TheVariants as why
use Rattle.core_world.specs.declared.answer.StackOut.{StackOut}
use Rattle.core_world.specs.declared.answer.StackOut.TheVariants.{Left, Monitor, Not}
use Rattle.core_world.specs.Words.Forms.{hold_word, is_entering}
use Rattle.core_world.specs.Threads.ThreadView.{Local}
use Rattle.core_world.specs.Locks.{hold_count}
use Rattle.core_world.specs.Trees.StepTree.{StepTree, done, unreachable, ◌>>=◌, ask}
use Rattle.core_world.specs.Trees.Plans.{CallContext, quiet_plan, with_stage, logging_plan, load, store}
use Rattle.core_world.specs.Trees.Plans.{swap, done_with, pending_for, free_place, top_place, next_stamp}

-- THE PLANS, of thread t's steps. The lowest free place p gets a displaced word, wherever the thread stands.
abbrev pub displace_plan : CallContext → Stage → ℕ → ℕ → ℕ → StepPlan
displace_plan e stage t p word = with_stage stage (store e (Displaced t p) word)

-- The neutral mark of o is exchanged for its place p.
abbrev pub seize_plan : CallContext → ℕ → ℕ → ℕ → ℕ → StepPlan
seize_plan e t o mark p = with_stage (RecordLocked o p) (swap e (Mark o) mark (mark_of (Locked t p)))

-- Its place p gets the hold word of o at depth d.
abbrev pub hold_plan : CallContext → ℕ → ℕ → ℕ → ℕ → Path → StepPlan
hold_plan e t o d p path = with_stage (Enters o p path) (store e (Hold t p) (hold_word o d))

-- Its waiting word becomes Ready, and it stands where it stood.
abbrev pub store_ready_plan : CallContext → Stage → ℕ → StepPlan
store_ready_plan e stage t = with_stage stage (store e (Waiting t) (wait_of Ready))

-- The stamp of o is loaded, which logs Enter.
abbrev pub log_enter_plan : CallContext → ℕ → Path → StepPlan
log_enter_plan e o path = logging_plan (entry.Enter o path) e (Stamp o) Load

-- The stamp word of o is raised, before o is let go.
abbrev pub raise_stamp_plan : CallContext → ℕ → ℕ → StepPlan
raise_stamp_plan e o stamp = quiet_plan e (Stamp o) (FetchMax stamp)

-- The hold word of o at its place p is cleared, which logs Exit.
abbrev pub leave_plan : CallContext → ℕ → ℕ → ℕ → StepPlan
leave_plan e t o p = logging_plan (entry.Exit o) e (Hold t p) (Store 0)

-- The mark of o, which names its place p, is exchanged for the header, which logs Exit.
abbrev pub let_go_plan : CallContext → ℕ → ℕ → ℕ → ℕ → StepPlan
let_go_plan e o mark header p = with_stage (Exits o p) (logging_plan (entry.Exit o) e (Mark o) (CompareExchange mark header))

-- The hold word at its place p is cleared, after the step that logged its Exit.
abbrev pub clear_plan : CallContext → ℕ → ℕ → StepPlan
clear_plan e t p = store e (Hold t p) 0

-- THE STEPS. The object's stamp is loaded, and this step logs Enter.
abbrev pub log_enter_steps : CallContext → ℕ → Path → StepTree Path
log_enter_steps e o path = do
  _ ← ask (log_enter_plan e o path)
  done path

-- Where the waiting word was Entering, it becomes Ready before.
abbrev pub entered_steps : CallContext → Local → ℕ → Path → StepTree Path
entered_steps e k o path = if is_entering k.wait then (do
  _ ← ask (store_ready_plan e (Enters o (free_place k.holds) path) k.thread)
  log_enter_steps e o path) else log_enter_steps e o path

-- The hold word is stored at the lowest free place.
abbrev pub hold_steps : CallContext → Local → ℕ → Path → StepTree Path
hold_steps e k o path = do
  _ ← ask (hold_plan e k.thread o (hold_count o k.holds + 1) (free_place k.holds) path)
  entered_steps e k o path

-- Locked by this thread: the displaced word 0 says that the record is recursive.
abbrev pub stack_again_steps : CallContext → Local → ℕ → StepTree (Progress Path)
stack_again_steps e k o = do
  _ ← ask (displace_plan e Settled k.thread (free_place k.holds) 0)
  path ← hold_steps e k o StackAgain
  done_with path

-- Neutral: the mark is stored as the displaced word, and exchanged for the record's place.
abbrev pub stack_first_steps : CallContext → Local → ℕ → ℕ → StepTree (Progress Path)
stack_first_steps e k o mark = do
  _ ← ask (displace_plan e Settled k.thread (free_place k.holds) mark)
  found ← ask (seize_plan e k.thread o mark (free_place k.holds))
  if found == mark then (do
    path ← hold_steps e k o StackFirst
    done_with path) else pending_for (why.Raced mark found)

abbrev pub stack_enter_at : Option MarkForm → CallContext → Local → ℕ → ℕ → StepTree (Progress Path)
stack_enter_at (Some (Neutral hash age)) e k o mark = stack_first_steps e k o mark
stack_enter_at (Some (Locked thread place)) e k o mark = stack_again_steps e k o
stack_enter_at _ e k o mark = unreachable

-- an enter by this mark, which is neutral or names the thread's record of o with depth 1
abbrev pub stack_enter_steps : CallContext → Local → ℕ → ℕ → StepTree (Progress Path)
stack_enter_steps e k o mark = stack_enter_at (read_mark mark) e k o mark

-- The hold word is cleared, and this step logs Exit.
abbrev pub leave_steps : CallContext → Local → ℕ → StepTree (Unit {0})
leave_steps e k o = do
  _ ← ask (leave_plan e k.thread o (top_place o k.holds))
  done tt

-- The hold word is cleared after the step that logged Exit: nothing is unfinished, though the call goes on.
abbrev pub clear_steps : CallContext → Local → ℕ → StepTree (Unit {0})
clear_steps e k o = do
  _ ← ask (clear_plan (record e { unfinished = None }) k.thread (top_place o k.holds))
  done tt

-- A mark that names this record is exchanged for the displaced header; this step logs Exit.
abbrev pub stack_exit_by : CallContext → Local → ℕ → ℕ → ℕ → StepTree StackOut
stack_exit_by e k o header mark = do
  found ← ask (let_go_plan e o mark header (top_place o k.holds))
  if found == mark then (do
    _ ← clear_steps e k o
    done Left) else done (Not (why.Raced mark found))

abbrev pub stack_exit_at : Option MarkForm → CallContext → Local → ℕ → ℕ → ℕ → StepTree StackOut
stack_exit_at (Some Inflating) e k o header mark = done (Not why.Inflating)
stack_exit_at (Some (Locked thread place)) e k o header mark = stack_exit_by e k o header mark
stack_exit_at (Some (Inflated monitor)) e k o header mark = done (Monitor monitor)
stack_exit_at _ e k o header mark = unreachable

-- Displaced 0: the record is recursive. Else the mark says whether it is the lock that is left.
abbrev pub stack_exit_record : CallContext → Local → ℕ → StepTree StackOut
stack_exit_record e k o = do
  header ← ask (load e (Displaced k.thread (top_place o k.holds)))
  if header == 0 then (do
    _ ← leave_steps e k o
    done Left) else (do
      mark ← ask (load e (Mark o))
      stack_exit_at (read_mark mark) e k o header mark)

-- The object's stamp word is raised to the entry's stamp where this is the last hold, before anything is let go.
abbrev pub raise_steps : CallContext → Local → ℕ → StepTree (Unit {0})
raise_steps e k o = if hold_count o k.holds == 1 then (do
  _ ← ask (raise_stamp_plan e o (next_stamp k))
  done tt) else done tt

abbrev pub stack_exit_steps : CallContext → Local → ℕ → StepTree StackOut
stack_exit_steps e k o = do
  _ ← raise_steps e k o
  stack_exit_record e k o
