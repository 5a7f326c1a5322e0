-- The laws of core_locks by which a thread waits, is told and goes on, as rules of the logic.
use Rattle.std.proofs.Common.{◌≡◌, ℕ, ◌<◌, ◌+◌, None, Some, refl, sym, ap, ◌∙◌, arith}
use Rattle.plain_monitor.specs.declared.entry.Entry.TheVariants as entry
use Rattle.core_world.specs.Threads.ThreadView.{ThreadView, local_of}
use Rattle.core_world.specs.Threads.References.{making_in}
use Rattle.core_world.specs.Trees.MonitorSteps.{store_entering_plan}
use Rattle.core_world.specs.Trees.Plans.{CallContext, next_stamp}
use Rattle.core_world.specs.Trees.WaitSteps.{log_wait_plan, log_resume_plan, wake_next_plan, notify_plan, notify_all_plan}
use Rattle.core_locks.specs.JournalLaws.{MayLogResume, MayStand, MayWait}
use Rattle.core_locks.specs.WakeLaws.{MayWake, MayWakeNext, MayNotify, MayNotifyAll}
use Rattle.core_locks.proofs.wait.ResumeLogs.{logging_a_resume}
use Rattle.core_locks.proofs.enter_exit.TakenStamps.{resume_stamp}
use Rattle.core_locks.proofs.wait.WaitLaws.{entering_valid}
use Rattle.core_locks.proofs.wait.Leaves.{leaves_to_wait}
use Rattle.core_locks.proofs.wait.Wakes.{was_waiting}
use Rattle.core_locks.proofs.wait.WakesCalls.{notify_logs, notify_all_logs}
use Rattle.core_locks.proofs.wait.WakesNext.{waking_next_valid}
use Rattle.bias_law.proofs.LoggedKinds as logged
use Rattle.bias_law.proofs.QuietKinds as quiet
use Rattle.core_law.specs.Logic.{Heap, SoundWorldWith, Keeps}
use Rattle.core_world.proofs.There.{waiter_there}
use Rattle.core_steps.proofs.FairSteps.{Begins, begins_none, works_making_none, told}
use Rattle.core_steps.proofs.LawRules.{runs_in_all, keeps, enters_in_log}
use Rattle.core_law.proofs.Standing.{home, away, inside, valid_here}

module _ (heap : Heap) (k : ThreadView) where
  -- ITS OWN WAITING WORD
  pub stands_rule : (e : CallContext) (o m : ℕ) → (SoundWorldWith heap k → MayStand heap.shape k e o m)
      → Begins heap.shape k e.unfinished → Keeps heap (store_entering_plan e k.thread o) k
  stands_rule e o m may begins =
      keeps heap k (λ s y. MayStand s y e o m) (λ t y. store_entering_plan e t o) (entering_valid e o m) (quiet.says_entering e o m) (λ t y h. refl)
      (λ s y a. a.runs) (λ v. (v.within, tt)) may (λ v. (refl, tt, tt)) begins

  pub logs_wait : (e : CallContext) (o m stamp : ℕ) → (SoundWorldWith heap k → MayWait heap.shape k e o m stamp)
      → Begins heap.shape k e.unfinished → Keeps heap (log_wait_plan e k.thread o (next_stamp (local_of k))) k
  logs_wait e o m stamp may begins = enters_in_log heap k (λ s y. MayWait s y e o m stamp)
      (λ t y. log_wait_plan e t o (next_stamp (local_of y))) (λ n. entry.Wait o) (leaves_to_wait e o m stamp) (logged.waits e o m stamp)
      (λ t y h. refl) (λ v. tt) (λ s y a. a.runs) (λ v. (v.within, tt)) may
      (λ v. (tt, tt, λ n. told refl (λ log. refl) tt refl (ap making_in (sym (may v).goes_on ∙ (may v).waits)) ((may v).object.known, tt))) (λ none. begins)

  -- of its wait, which makes no object
  pub logs_resume : (e : CallContext) (o m : ℕ) → (SoundWorldWith heap k → MayLogResume heap.shape k o m) → making_in k.unfinished ≡ None
      → Keeps heap (log_resume_plan e o) k
  logs_resume e o m may making =
      enters_in_log heap k (λ s y. MayLogResume s y o m) (λ t y. log_resume_plan e o) (λ n. entry.Resume o) (logging_a_resume e o m)
      (logged.resumes e o m) (λ t y h. refl)
      (λ v s. resume_stamp v.world v.objects k.thread o m s (inside heap k v) (away heap k v (λ z y. MayLogResume z y o m) (may v))
      (valid_here heap k v)) (λ s y a. a.runs) (λ v. ((may v).object.within, tt)) may
      (λ v. (tt, (λ n. omega arith), λ n. told refl (λ log. refl) refl refl making ((may v).object.known, tt))) (begins_none heap.shape k None refl)

  -- THE WAITING WORDS OF OTHERS: who waits is a thread of the heap
  waits_there : (o u n : ℕ) → MayWake heap.shape k o u n → (v : SoundWorldWith heap k) → u < heap.shape.threads
  waits_there o u n wakes v =
      let fits = (runs_in_all heap k v wakes.runs).fits in
      let waits = was_waiting v.world v.objects k.thread o u n (inside heap k v) (away heap k v (λ s y. MayWake s y o u n) wakes) fits in
      home heap k v (λ s y. u < s.threads) (waiter_there v.world v.objects fits u o waits)

  pub wakes_next_rule : (e : CallContext) (o u n : ℕ) → (SoundWorldWith heap k → MayWakeNext heap.shape k e o u n)
      → Begins heap.shape k e.unfinished → Keeps heap (wake_next_plan e o u (n + 1)) k
  wakes_next_rule e o u n may begins =
      keeps heap k (λ s y. MayWakeNext s y e o u n) (λ t y. wake_next_plan e o u (n + 1)) (waking_next_valid e o u n) (quiet.wakes_next e o u n) (λ t y h. refl)
      (λ s y a. a.wakes.runs) (λ v. (waits_there o u n (may v).wakes v, tt)) may (λ v. (refl, tt, tt)) begins

  pub notifies_rule : (e : CallContext) (o u : ℕ) → (SoundWorldWith heap k → MayNotify heap.shape k o u) → Keeps heap (notify_plan e o u) k
  notifies_rule e o u may =
      enters_in_log heap k (λ s y. MayNotify s y o u) (λ t y. notify_plan e o u) (λ a. entry.Notify o (Some u)) (notify_logs e o u)
      (logged.notifies e o u) (λ t y h. refl) (λ v. tt) (λ s y a. a.wakes.runs) (λ v. (waits_there o u 0 (may v).wakes v, tt)) may
      (λ v. (
        tt,
        tt,
        λ n. told refl (λ log. refl) tt refl
            (works_making_none k (entry.Notify o (Some u)) refl (may v).own_entry.operation) ((may v).wakes.object.known, tt),
      )) (begins_none heap.shape k None refl)

  pub notifies_all_rule : (e : CallContext) (o u n : ℕ)
      → (SoundWorldWith heap k → MayNotifyAll heap.shape k o u n) → Keeps heap (notify_all_plan e o u (n + 1)) k
  notifies_all_rule e o u n may =
      enters_in_log heap k (λ s y. MayNotifyAll s y o u n) (λ t y. notify_all_plan e o u (n + 1)) (λ a. entry.NotifyAll o (n + 1))
      (notify_all_logs e o u n) (logged.notifies_all e o u n) (λ t y h. refl) (λ v. tt) (λ s y a. a.wakes.runs) (λ v. (waits_there o u n (may v).wakes v, tt))
      may (λ v. (
        tt,
        tt,
        λ m. told refl (λ log. refl) tt refl
            (works_making_none k (entry.NotifyAll o (n + 1)) refl (may v).own_entry.operation) ((may v).wakes.object.known, tt),
      )) (begins_none heap.shape k None refl)
