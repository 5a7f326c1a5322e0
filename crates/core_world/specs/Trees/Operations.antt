-- The steps of each operation, from its first to the one that ends it.
use Rattle.std.specs.Prelude.{ℕ, ◌+◌, ◌==◌, ◌&&◌, nat_lt, if◌then◌else◌, Bool, true, false, Option, Some, None, Result, Ok, Err}
use Rattle.mark_word.specs.declared.mark.MarkForm.{MarkForm}
use Rattle.mark_word.specs.declared.mark.MarkForm.TheVariants.{Inflating, Neutral, Locked, Inflated}
use Rattle.mark_word.specs.declared.wait.WaitForm.TheVariants.{Ended}
use Rattle.mark_word.specs.Mark.{read_mark}
use Rattle.mark_word.specs.Wait.{wait_of}
use Rattle.plain_monitor.specs.Limits.{most_holds, most_made}
use Rattle.plain_monitor.specs.declared.entry.Entry.TheVariants as entry
use Rattle.plain_monitor.specs.declared.entry.Ending.{Ending}
use Rattle.plain_monitor.specs.declared.entry.Path.{Path}
use Rattle.plain_monitor.specs.declared.entry.Value.{Value}
use Rattle.plain_monitor.specs.declared.entry.Value.TheVariants.{Nil}
use Rattle.plain_monitor.specs.Endings.{ending_entry}
use Rattle.plain_monitor.specs.ValueWords.{word_of, read_value}
use Rattle.core_world.specs.declared.act.Act.TheVariants.{Store}
use Rattle.core_world.specs.declared.word_id.WordId.TheVariants.{Mark, Slot, Waiting}
use Rattle.core_world.specs.declared.plan.LogEffect.TheVariants.{LogGet}
use Rattle.core_world.specs.declared.plan.StepPlan.{StepPlan}
use Rattle.core_world.specs.declared.heap_call.Operation.{Operation}
use Rattle.core_world.specs.declared.heap_call.Operation.TheVariants as op
use Rattle.core_world.specs.declared.heap_call.HeapCall.TheVariants as task
use Rattle.core_world.specs.declared.heap_call.Unfinished.{Unfinished}
use Rattle.core_world.specs.declared.answer.Progress.{Progress}
use Rattle.core_world.specs.declared.answer.Progress.TheVariants.{Done, Pending}
use Rattle.core_world.specs.declared.answer.PendingCause.TheVariants as why
use Rattle.core_world.specs.declared.answer.BiasTry.{BiasTry}
use Rattle.core_world.specs.declared.answer.BiasTry.TheVariants.{Took, Unbiased, Valid, Raced}
use Rattle.core_world.specs.declared.answer.StackOut.{StackOut}
use Rattle.core_world.specs.declared.answer.StackOut.TheVariants.{Left, Monitor, Not}
use Rattle.core_world.specs.declared.answer.TooDeep.{TooDeep}
use Rattle.core_world.specs.declared.answer.IllegalMonitorState.{IllegalMonitorState}
use Rattle.core_world.specs.declared.answer.Unguarded.{Unguarded}
use Rattle.core_world.specs.declared.answer.TooManyDumps.{TooManyDumps}
use Rattle.core_world.specs.declared.answer.TooMany.{TooMany}
use Rattle.core_world.specs.Words.Shape.{Shape}
use Rattle.core_world.specs.Words.Forms.{waits_on}
use Rattle.core_world.specs.Threads.Stages.{Revocation}
use Rattle.core_world.specs.Threads.ThreadView.{Local, Start}
use Rattle.core_world.specs.Locks.{hold_count}
use Rattle.core_world.specs.Trees.StepTree.{StepTree, done, unreachable, ◌>>=◌, ask}
pub use Rattle.core_world.specs.Trees.Plans.{lone_context}
use Rattle.core_world.specs.Trees.Plans.{CallContext, call_context, logging_plan, load, store, done_with, pending_for, free_place}
use Rattle.core_world.specs.Trees.LockSteps.{stack_enter_steps, stack_exit_steps}
use Rattle.core_world.specs.Trees.MonitorSteps.{inflate_steps, monitor_enter_steps, monitor_exit_steps}
use Rattle.core_world.specs.Trees.WaitSteps.{monitor_wait_steps, monitor_resume_steps, monitor_notify_steps, monitor_notify_all_steps, publish_steps}
use Rattle.core_world.specs.Trees.BiasSteps.{bias_enter_steps, bias_exit_steps, bias_drop_steps, stage_after, bias_after_steps}
use Rattle.core_world.specs.Trees.SafepointSteps.{safepoint_steps, release_to, release_safepoint, halt_steps}
use Rattle.core_world.specs.Trees.RevocationSteps.{revoke_at_safepoint_steps}
use Rattle.core_world.specs.Trees.HashSteps.{hash_header_steps}
use Rattle.core_world.specs.declared.stage.Stage.TheVariants.{Settled}
use Rattle.core_world.specs.Trees.DeflateSteps.{deflate_steps}
use Rattle.core_world.specs.Trees.CreateSteps.{count_made, next_made, make_steps}
use Rattle.core_world.specs.Trees.LookSteps.{take_shot_steps, stands_still_steps}

abbrev pub same_op : Operation → Operation → Bool
same_op op.Enter op.Enter = true
same_op op.Exit op.Exit = true
same_op op.Wait op.Wait = true
same_op op.Notify op.Notify = true
same_op op.NotifyAll op.NotifyAll = true
same_op op.Hash op.Hash = true
same_op op.Dump op.Dump = true
same_op op.Create op.Create = true
same_op _ _ = false

-- the unfinished operation is this one, on o
abbrev pub goes_on_with : Operation → ℕ → Option Unfinished → Bool
goes_on_with op o None = false
goes_on_with op o (Some u) = same_op u.op op && (u.object == o)

-- what follows where a part of a call is done; where it is pending, the call ends with that
abbrev pub and_then : {A B : Type 0} → Progress A → (A → StepTree (Progress B)) → StepTree (Progress B)
and_then (Done a) f = f a
and_then (Pending why) f = pending_for why

abbrev pub answer : {A E : Type 0} → A → StepTree (Result A E)
answer a = done (Ok a)

-- A safepoint at which o's bias is revoked. It answers whether a new one was given to the thread.
abbrev pub revocation_steps : Shape → ℕ → Bool → CallContext → Revocation → StepTree (Progress Bool)
revocation_steps s t requesting e b = do
  progress ← safepoint_steps e t requesting
  and_then progress (λ _. do
    outcome ← revoke_at_safepoint_steps s t e b
    _ ← deflate_steps s e (stage_after outcome.took b.object)
    _ ← release_to (stage_after outcome.took b.object) e t
    done_with outcome.took)

-- ENTER. Locked by another, or inflated: by the monitor.
abbrev pub enter_monitor_steps : Shape → CallContext → Start → ℕ → StepTree (Progress Path)
enter_monitor_steps s e k o = do
  progress ← inflate_steps s e k.kept o
  and_then progress (λ m. monitor_enter_steps e k.local o m)

-- a mark without the bias pattern
abbrev pub enter_at : Option MarkForm → Shape → CallContext → Start → ℕ → ℕ → StepTree (Progress Path)
enter_at (Some Inflating) s e k o mark = pending_for why.Inflating
enter_at (Some (Neutral hash age)) s e k o mark = stack_enter_steps e k.local o mark
enter_at (Some (Locked thread place)) s e k o mark =
    if thread == k.local.thread then stack_enter_steps e k.local o mark else enter_monitor_steps s e k o
enter_at (Some (Inflated monitor)) s e k o mark = monitor_enter_steps e k.local o monitor
enter_at _ s e k o mark = unreachable

abbrev pub enter_unbiased : BiasTry → Shape → CallContext → Start → ℕ → StepTree (Progress Path)
enter_unbiased (Took path) s e k o = done_with path
enter_unbiased (Unbiased mark) s e k o = enter_at (read_mark mark) s e k o mark
enter_unbiased (Valid mark) s e k o = unreachable
enter_unbiased (Raced expected found) s e k o = pending_for (why.Raced expected found)

-- a bias of another thread: it is revoked at a safepoint, and the mark is loaded again
abbrev pub enter_revoked : Shape → Bool → CallContext → Start → Revocation → StepTree (Progress Path)
enter_revoked s requesting e k b = do
  progress ← revocation_steps s k.local.thread requesting e b
  and_then progress (λ took. do
    tried ← bias_after_steps e k.local b.object took
    enter_unbiased tried s e k b.object)

abbrev pub enter_tried : BiasTry → Shape → CallContext → Start → Revocation → StepTree (Progress Path)
enter_tried (Valid mark) s e k b = enter_revoked s false e k b
enter_tried tried s e k b = enter_unbiased tried s e k b.object

abbrev pub enter_going : Shape → CallContext → Start → Revocation → StepTree (Progress Path)
enter_going s e k b = if k.requesting then enter_revoked s true e k b else (do
  tried ← bias_enter_steps s e k.local b.object
  enter_tried tried s e k b)

-- With the most holds there is no place for one more. An enter that goes on found a place before, and has it still.
abbrev pub full_steps : Start → ℕ → StepTree (Result (Progress Path) TooDeep)
full_steps k o = if goes_on_with op.Enter o k.unfinished then unreachable else done (Err record {})

abbrev pub enter_steps : Shape → Start → ℕ → ℕ → StepTree (Result (Progress Path) TooDeep)
enter_steps s k o now =
    if free_place k.local.holds == most_holds then full_steps k o
    else enter_going s (call_context (task.Enter o now) op.Enter o) k
    (record { object = o; rebias = true; now = now }) >>= answer

-- EXIT. Under a bias, by the lock record, or by the monitor.
abbrev pub exit_at : StackOut → CallContext → Local → ℕ → StepTree (Progress (Unit {0}))
exit_at Left e k o = done_with tt
exit_at (Not why) e k o = pending_for why
exit_at (Monitor number) e k o = do
  _ ← monitor_exit_steps e k o number
  done_with tt

abbrev pub exit_going : CallContext → Local → ℕ → StepTree (Progress (Unit {0}))
exit_going e k o = do
  biased ← bias_exit_steps e k o
  if biased then done_with tt else (do
    out ← stack_exit_steps e k o
    exit_at out e k o)

abbrev pub exit_steps : Start → ℕ → StepTree (Result (Progress (Unit {0})) IllegalMonitorState)
exit_steps k o =
    if hold_count o k.local.holds == 0 then done (Err record {})
    else exit_going (call_context (task.Exit o) op.Exit o) k.local o >>= answer

-- UNBIAS, which wait, notify, notifyall and hash begin with. Afterwards the mark has no bias pattern.
abbrev pub revoked_steps : Shape → ℕ → Bool → CallContext → Revocation → StepTree (Progress (Unit {0}))
revoked_steps s t requesting e b = do
  progress ← revocation_steps s t requesting e b
  and_then progress (λ _. done_with tt)

abbrev pub unbias_tried : BiasTry → Shape → CallContext → Start → Revocation → StepTree (Progress (Unit {0}))
unbias_tried (Took path) s e k b = unreachable
unbias_tried (Unbiased mark) s e k b = done_with tt
unbias_tried (Valid mark) s e k b = revoked_steps s k.local.thread false e b
unbias_tried (Raced expected found) s e k b = pending_for (why.Raced expected found)

abbrev pub unbias_steps : Shape → CallContext → Start → Revocation → StepTree (Progress (Unit {0}))
unbias_steps s e k b = if k.requesting then revoked_steps s k.local.thread true e b else (do
  tried ← bias_drop_steps s e b.object
  unbias_tried tried s e k b)

abbrev pub no_bias : ℕ → ℕ → Revocation
no_bias o now = record { object = o; rebias = false; now = now }

-- WAIT. It begins by letting go, and then, now and in each later call, looks whether it was notified.
abbrev pub wait_beginning : Shape → CallContext → Start → ℕ → ℕ → StepTree (Progress (Unit {0}))
wait_beginning s e k o now = do
  progress ← unbias_steps s e k (no_bias o now)
  and_then progress (λ _. do
    progress ← inflate_steps s e k.kept o
    and_then progress (λ m. do
      saved ← monitor_wait_steps e k.local o m
      monitor_resume_steps e k.local.thread saved o))

abbrev pub wait_going : Shape → CallContext → Start → ℕ → ℕ → StepTree (Progress (Unit {0}))
wait_going s e k o now =
    if waits_on k.local.wait o then monitor_resume_steps e k.local.thread k.saved o
    else wait_beginning s e k o now

abbrev pub wait_steps : Shape → Start → ℕ → ℕ → StepTree (Result (Progress (Unit {0})) IllegalMonitorState)
wait_steps s k o now =
    if hold_count o k.local.holds == 0 then done (Err record {})
    else wait_going s (call_context (task.Wait o now) op.Wait o) k o now >>= answer

-- NOTIFY and NOTIFYALL. Nobody waits on an object that is locked by a record of the caller.
abbrev pub notify_at : Option MarkForm → Shape → CallContext → Local → ℕ → StepTree (Progress (Option ℕ))
notify_at (Some Inflating) s e k o = pending_for why.Inflating
notify_at (Some (Locked thread place)) s e k o = do
  _ ← publish_steps (entry.Notify o None) e k
  done_with None
notify_at (Some (Inflated monitor)) s e k o = do
  woken ← monitor_notify_steps e k s.threads o
  done_with woken
notify_at _ s e k o = unreachable

abbrev pub notify_going : Shape → CallContext → Start → ℕ → ℕ → StepTree (Progress (Option ℕ))
notify_going s e k o now = do
  progress ← unbias_steps s e k (no_bias o now)
  and_then progress (λ _. do
    mark ← ask (load e (Mark o))
    notify_at (read_mark mark) s e k.local o)

abbrev pub notify_steps : Shape → Start → ℕ → ℕ → StepTree (Result (Progress (Option ℕ)) IllegalMonitorState)
notify_steps s k o now =
    if hold_count o k.local.holds == 0 then done (Err record {})
    else notify_going s (call_context (task.Notify o now) op.Notify o) k o now >>= answer

abbrev pub notify_all_at : Option MarkForm → Shape → CallContext → Local → ℕ → StepTree (Progress ℕ)
notify_all_at (Some Inflating) s e k o = pending_for why.Inflating
notify_all_at (Some (Locked thread place)) s e k o = do
  _ ← publish_steps (entry.NotifyAll o 0) e k
  done_with 0
notify_all_at (Some (Inflated monitor)) s e k o = do
  woken ← monitor_notify_all_steps e k s.threads o
  done_with woken
notify_all_at _ s e k o = unreachable

abbrev pub notify_all_going : Shape → CallContext → Start → ℕ → ℕ → StepTree (Progress ℕ)
notify_all_going s e k o now = do
  progress ← unbias_steps s e k (no_bias o now)
  and_then progress (λ _. do
    mark ← ask (load e (Mark o))
    notify_all_at (read_mark mark) s e k.local o)

abbrev pub notify_all_steps : Shape → Start → ℕ → ℕ → StepTree (Result (Progress ℕ) IllegalMonitorState)
notify_all_steps s k o now =
    if hold_count o k.local.holds == 0 then done (Err record {})
    else notify_all_going s (call_context (task.NotifyAll o now) op.NotifyAll o) k o now >>= answer

-- HASH
abbrev pub hash_steps : Shape → Start → ℕ → ℕ → StepTree (Progress ℕ)
hash_steps s k o now = do
  progress ← unbias_steps s (call_context (task.Hash o now) op.Hash o) k (no_bias o now)
  and_then progress
      (λ _. hash_header_steps s (call_context (task.Hash o now) op.Hash o) k.local k.kept
      (record { number = k.draws + 1; value = k.draw }) o)

-- GET and PUT: one load or store of the slot, which logs the entry.
abbrev pub get_plan : CallContext → ℕ → ℕ → StepPlan
get_plan e o slot = record (load e (Slot o slot)) { note = LogGet o slot }

abbrev pub put_plan : CallContext → ℕ → ℕ → Value → StepPlan
put_plan e o slot value = logging_plan (entry.Put o slot value) e (Slot o slot) (Store (word_of value))

abbrev pub value_found : Option Value → Value
value_found None = Nil
value_found (Some v) = v

abbrev pub get_steps : Start → ℕ → ℕ → StepTree (Result Value Unguarded)
get_steps k o slot = if hold_count o k.local.holds == 0 then done (Err record {}) else (do
  found ← ask (get_plan (lone_context (task.Get o slot)) o slot)
  answer (value_found (read_value found)))

abbrev pub put_steps : Start → ℕ → ℕ → Value → StepTree (Result (Unit {0}) Unguarded)
put_steps k o slot value = if hold_count o k.local.holds == 0 then done (Err record {}) else (do
  _ ← ask (put_plan (lone_context (task.Put o slot value)) o slot value)
  answer tt)

-- PRINT and FINISH: the entry is logged by publishing the length of the log.
abbrev pub print_steps : Start → Value → StepTree (Unit {0})
print_steps k value = publish_steps (entry.Print value) (lone_context (task.Print value)) k.local

-- the waiting word of thread t says that it has ended
abbrev pub store_ended_plan : CallContext → ℕ → StepPlan
store_ended_plan e t = store e (Waiting t) (wait_of Ended)

abbrev pub finish_steps : Start → Ending → StepTree (Unit {0})
finish_steps k how = do
  _ ← publish_steps (ending_entry how) (lone_context (task.Finish how)) k.local
  _ ← ask (store_ended_plan (lone_context (task.Finish how)) k.local.thread)
  done tt

-- DUMP: a shot at a safepoint, whose entry is logged after the release.
abbrev pub dump_going : Shape → CallContext → Start → StepTree (Progress ℕ)
dump_going s e k = do
  progress ← safepoint_steps e k.local.thread k.requesting
  and_then progress (λ _. do
    _ ← take_shot_steps e s
    _ ← deflate_steps s e Settled
    _ ← release_safepoint e k.local.thread
    _ ← publish_steps (entry.Dump (k.shots + 1)) e k.local
    done_with (k.shots + 1))

abbrev pub dump_steps : Shape → Start → StepTree (Result (Progress ℕ) TooManyDumps)
dump_steps s k = if k.shots == 4 then done (Err record {}) else dump_going s (call_context task.Dump op.Dump 0) k >>= answer

-- CREATE: a thread makes at most so many objects.
abbrev pub create_steps : Shape → Start → ℕ → StepTree (Result ℕ TooMany)
create_steps s k c =
    if nat_lt (count_made k.local) most_made then make_steps (next_made s k.local) c >>= answer
    else done (Err record {})

-- CHECK: whether no live thread can go on. Then the halt is set in place of the release. An unfinished operation stays.
abbrev pub check_ending : Bool → CallContext → ℕ → StepTree (Progress Bool)
check_ending true e t = do
  _ ← halt_steps e t
  done_with true
check_ending false e t = do
  _ ← release_safepoint e t
  done_with false

abbrev pub check_steps : Shape → Start → StepTree (Progress Bool)
check_steps s k = do
  progress ← safepoint_steps (record { task = task.Check; unfinished = k.unfinished; check = true })
      k.local.thread k.requesting
  and_then progress (λ _. do
    still ← stands_still_steps (record { task = task.Check; unfinished = k.unfinished; check = true }) s
    _ ← deflate_steps s (record { task = task.Check; unfinished = k.unfinished; check = true }) Settled
    check_ending still (record { task = task.Check; unfinished = k.unfinished; check = true }) k.local.thread)
