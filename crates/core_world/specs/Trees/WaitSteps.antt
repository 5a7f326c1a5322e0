-- The steps of wait and notify, after OpenJDK 8's objectMonitor.cpp (wait, notify, notifyAll).
use Rattle.std.specs.Prelude.{ℕ, ◌+◌, ◌==◌, ◌&&◌, ◌||◌, nat_lt, if◌then◌else◌, Bool, List, [], ◌∷◌, length, Option, Some, None}
use Rattle.mark_word.specs.declared.mark.MarkForm.{MarkForm}
use Rattle.mark_word.specs.declared.mark.MarkForm.TheVariants.{Inflated}
use Rattle.mark_word.specs.declared.owner.OwnerForm.{OwnerForm}
use Rattle.mark_word.specs.declared.owner.OwnerForm.TheVariants.{Free, ByThread, ByRecord}
use Rattle.mark_word.specs.declared.wait.WaitForm.{WaitForm}
use Rattle.mark_word.specs.declared.wait.WaitForm.TheVariants as wait
use Rattle.mark_word.specs.Mark.{read_mark}
use Rattle.mark_word.specs.Owner.{owner_of, read_owner}
use Rattle.mark_word.specs.Wait.{wait_of, read_wait}
use Rattle.plain_monitor.specs.declared.entry.Entry.{Entry}
use Rattle.plain_monitor.specs.declared.entry.Entry.TheVariants as entry
use Rattle.core_world.specs.declared.act.Act.TheVariants.{Load, Store}
use Rattle.core_world.specs.declared.word_id.WordId.TheVariants.{Mark, Stamp, Waiting, Length, Owner, Recursions}
use Rattle.core_world.specs.declared.plan.LocalEffect.TheVariants as own
use Rattle.core_world.specs.declared.plan.StepPlan.{StepPlan}
use Rattle.core_world.specs.declared.stage.Stage.TheVariants.{Resumes, Waits, Notifies}
use Rattle.core_world.specs.declared.answer.Progress.{Progress}
use Rattle.core_world.specs.declared.answer.PendingCause.TheVariants as why
use Rattle.core_world.specs.Words.Forms.{waits_on, stamp_in}
use Rattle.core_world.specs.Threads.ThreadView.{Local}
use Rattle.core_world.specs.Trees.StepTree.{StepTree, done, unreachable, ◌>>=◌, ask, each_from}
use Rattle.core_world.specs.Trees.Plans.{CallContext, with_stage, with_own, logging_plan, load, store, swap, done_with, pending_for, next_stamp}
use Rattle.core_world.specs.Trees.LockSteps.{raise_stamp_plan, store_ready_plan}
use Rattle.core_world.specs.Trees.MonitorSteps.{own_steps}

-- THE PLANS, of thread t's steps. The recursions of monitor m are loaded, and it keeps them as those to be restored.
abbrev pub save_count_plan : CallContext → ℕ → StepPlan
save_count_plan e m = with_own own.SaveRecursions (load e (Recursions m))

-- Its waiting word says that it waits on o, with this stamp, which logs Wait; the operation is unfinished still.
abbrev pub log_wait_plan : CallContext → ℕ → ℕ → ℕ → StepPlan
log_wait_plan e t o stamp =
    with_stage (Waits o)
    (record (logging_plan (entry.Wait o) e (Waiting t) (Store (wait_of (wait.Waiting o stamp))))
    { after = e.unfinished })

-- The recursions of o's monitor m become 0, and then its owner word Free.
abbrev pub drop_plan : CallContext → ℕ → ℕ → StepPlan
drop_plan e o m = with_stage (Waits o) (store e (Recursions m) 0)

abbrev pub quit_plan : CallContext → ℕ → StepPlan
quit_plan e m = store e (Owner m) (owner_of Free)

-- The owner word is exchanged from Free, at the end of a wait on o, and the recursions are restored.
abbrev pub regain_plan : CallContext → ℕ → ℕ → ℕ → StepPlan
regain_plan e t o m = with_stage (Resumes o) (swap e (Owner m) (owner_of Free) (owner_of (ByThread t)))

abbrev pub restore_plan : CallContext → ℕ → ℕ → ℕ → StepPlan
restore_plan e o m word = with_stage (Resumes o) (store e (Recursions m) word)

-- The stamp of o is loaded, which logs Resume.
abbrev pub log_resume_plan : CallContext → ℕ → StepPlan
log_resume_plan e o = logging_plan (entry.Resume o) e (Stamp o) Load

-- Its length is published, which logs this entry.
abbrev pub publish_plan : CallContext → ℕ → Entry → ℕ → StepPlan
publish_plan e t entry n = logging_plan entry e (Length t) (Store n)

-- The waiting word of u, who waits on o, says that it was notified: as the n-th of several, as the one of a notify, and as the last of n.
abbrev pub wake_next_plan : CallContext → ℕ → ℕ → ℕ → StepPlan
wake_next_plan e o u n = with_stage (Notifies o n) (store e (Waiting u) (wait_of (wait.Notified o)))

abbrev pub notify_plan : CallContext → ℕ → ℕ → StepPlan
notify_plan e o u = logging_plan (entry.Notify o (Some u)) e (Waiting u) (Store (wait_of (wait.Notified o)))

abbrev pub notify_all_plan : CallContext → ℕ → ℕ → ℕ → StepPlan
notify_all_plan e o u n = logging_plan (entry.NotifyAll o n) e (Waiting u) (Store (wait_of (wait.Notified o)))

-- THE STEPS. The waiting word says Waiting with the entry's stamp: this step logs Wait, and leaves the operation unfinished.
abbrev pub log_wait_steps : CallContext → Local → ℕ → StepTree (Unit {0})
log_wait_steps e k o = do
  _ ← ask (log_wait_plan e k.thread o (next_stamp k))
  done tt

-- The recursions are saved, the stamp is raised, and the Wait is logged. Then the monitor is let go. It answers the saved recursions.
abbrev pub monitor_wait_steps : CallContext → Local → ℕ → ℕ → StepTree ℕ
monitor_wait_steps e k o m = do
  owner ← ask (load e (Owner m))
  _ ← own_steps (read_owner owner) e k o m
  recursions ← ask (save_count_plan e m)
  _ ← ask (raise_stamp_plan e o (next_stamp k))
  _ ← log_wait_steps e k o
  _ ← ask (drop_plan e o m)
  _ ← ask (quit_plan e m)
  done recursions

-- The monitor is the thread's again: the saved recursions are stored, the waiting word becomes Ready, and the load of the stamp logs Resume.
abbrev pub resumed_steps : CallContext → ℕ → ℕ → ℕ → ℕ → StepTree (Progress (Unit {0}))
resumed_steps e t saved o m = do
  _ ← ask (restore_plan e o m saved)
  _ ← ask (store_ready_plan e (Resumes o) t)
  _ ← ask (log_resume_plan e o)
  done_with tt

-- The thread that let go is no owner, and none of its records is.
abbrev pub resume_owner_at : Option OwnerForm → CallContext → ℕ → ℕ → ℕ → ℕ → ℕ → StepTree (Progress (Unit {0}))
resume_owner_at (Some Free) e t saved o m found = resumed_steps e t saved o m
resume_owner_at (Some (ByThread thread)) e t saved o m found =
    if thread == t then unreachable else pending_for (why.Owned found)
resume_owner_at (Some (ByRecord thread place)) e t saved o m found =
    if thread == t then unreachable else pending_for (why.Owned found)
resume_owner_at None e t saved o m found = unreachable

-- The owner word is exchanged from Free; what was found says whose the monitor is.
abbrev pub resume_owner_steps : CallContext → ℕ → ℕ → ℕ → ℕ → StepTree (Progress (Unit {0}))
resume_owner_steps e t saved o m = do
  found ← ask (regain_plan e t o m)
  resume_owner_at (read_owner found) e t saved o m found

abbrev pub resume_mark_at : Option MarkForm → CallContext → ℕ → ℕ → ℕ → StepTree (Progress (Unit {0}))
resume_mark_at (Some (Inflated monitor)) e t saved o = resume_owner_steps e t saved o monitor
resume_mark_at _ e t saved o = unreachable

abbrev pub resume_at : Option WaitForm → CallContext → ℕ → ℕ → ℕ → ℕ → StepTree (Progress (Unit {0}))
resume_at (Some (wait.Waiting object stamp)) e t saved o word = pending_for (why.NotNotified word)
resume_at (Some (wait.Notified object)) e t saved o word = do
  mark ← ask (load e (Mark o))
  resume_mark_at (read_mark mark) e t saved o
resume_at _ e t saved o word = unreachable

-- the end of thread t's wait that has let go, in the same call or in a later one
abbrev pub monitor_resume_steps : CallContext → ℕ → ℕ → ℕ → StepTree (Progress (Unit {0}))
monitor_resume_steps e t saved o = do
  word ← ask (load e (Waiting t))
  resume_at (read_wait word) e t saved o word

-- the waiting words of n threads, by rising number
abbrev pub look_steps : CallContext → ℕ → StepTree (List ℕ)
look_steps e n = each_from 0 n (λ t. ask (load e (Waiting t)))

-- the threads that wait on o with their stamps, by these waiting words, of which the first is thread t's
abbrev pub waiters : ℕ → ℕ → List ℕ → List (ℕ × ℕ)
waiters o t [] = []
waiters o t (w ∷ ws) = if waits_on w o then (t, stamp_in w) ∷ waiters o (t + 1) ws else waiters o (t + 1) ws

-- of two waiters the first has waited longer: its stamp is smaller, or at equal stamps its number
abbrev pub is_older : ℕ × ℕ → ℕ × ℕ → Bool
is_older p q = nat_lt p.1 q.1 || ((p.1 == q.1) && nat_lt p.0 q.0)

abbrev pub insert_waiter : ℕ × ℕ → List (ℕ × ℕ) → List (ℕ × ℕ)
insert_waiter p [] = p ∷ []
insert_waiter p (q ∷ qs) = if is_older p q then p ∷ q ∷ qs else q ∷ insert_waiter p qs

-- the waiters, the oldest first
abbrev pub by_age : List (ℕ × ℕ) → List (ℕ × ℕ)
by_age [] = []
by_age (p ∷ ps) = insert_waiter p (by_age ps)

-- The length of the log is published with one entry more: this step logs that entry.
abbrev pub publish_steps : Entry → CallContext → Local → StepTree (Unit {0})
publish_steps logged e k = do
  _ ← ask (publish_plan e k.thread logged (length k.log + 1))
  done tt

-- The oldest waiter is notified, and this step logs Notify.
abbrev pub notify_first : List (ℕ × ℕ) → CallContext → Local → ℕ → StepTree (Option ℕ)
notify_first [] e k o = do
  _ ← publish_steps (entry.Notify o None) e k
  done None
notify_first (p ∷ ps) e k o = do
  _ ← ask (notify_plan e o p.0)
  done (Some p.0)

abbrev pub monitor_notify_steps : CallContext → Local → ℕ → ℕ → StepTree (Option ℕ)
monitor_notify_steps e k n o = do
  words ← look_steps e n
  notify_first (by_age (waiters o 0 words)) e k o

-- Each waiter that is left is notified, the oldest first. The last of these steps logs NotifyAll with the number of all.
abbrev pub notify_each : List (ℕ × ℕ) → CallContext → ℕ → ℕ → StepTree (Unit {0})
notify_each [] e o notified = done tt
notify_each (p ∷ []) e o notified = do
  _ ← ask (notify_all_plan e o p.0 (notified + 1))
  done tt
notify_each (p ∷ q ∷ ps) e o notified = do
  _ ← ask (wake_next_plan e o p.0 (notified + 1))
  notify_each (q ∷ ps) e o (notified + 1)

abbrev pub notify_listed : List (ℕ × ℕ) → CallContext → Local → ℕ → StepTree ℕ
notify_listed [] e k o = do
  _ ← publish_steps (entry.NotifyAll o 0) e k
  done 0
notify_listed (p ∷ ps) e k o = do
  _ ← notify_each (p ∷ ps) e o 0
  done (length (p ∷ ps))

abbrev pub monitor_notify_all_steps : CallContext → Local → ℕ → ℕ → StepTree ℕ
monitor_notify_all_steps e k n o = do
  words ← look_steps e n
  notify_listed (by_age (waiters o 0 words)) e k o
