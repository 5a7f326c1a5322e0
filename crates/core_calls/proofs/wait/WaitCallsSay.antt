-- What the calls of wait, notify, notifyall and hash say.
use Rattle.std.proofs.Common.{◌≡◌, ℕ, ◌==◌, ◌&&◌, ◌||◌, not, cond, Bool, true, false, List, [], ◌∷◌, Option, Some, None, refl, ap, ◌∙◌, sym, subst, inl}
use Rattle.mark_word.specs.declared.mark.MarkForm.{MarkForm}
use Rattle.mark_word.specs.declared.mark.MarkForm.TheVariants.{Inflating, Locked, Inflated}
use Rattle.mark_word.specs.Mark.{read_mark}
use Rattle.plain_monitor.specs.declared.entry.Entry.TheVariants as entry
use Rattle.core_world.specs.declared.word_id.WordId.TheVariants.{Mark}
use Rattle.core_world.specs.declared.heap_call.Operation.TheVariants as op
use Rattle.core_world.specs.declared.heap_call.HeapCall.TheVariants as task
use Rattle.core_world.specs.declared.answer.Progress.{Progress}
use Rattle.core_world.specs.declared.answer.Progress.TheVariants.{Done, Pending}
use Rattle.core_world.specs.declared.answer.PendingCause.{PendingCause}
use Rattle.core_world.specs.declared.answer.PendingCause.TheVariants as why
use Rattle.core_world.specs.Words.Forms.{waits_on}
use Rattle.core_world.specs.Threads.ThreadView.{Start, StepMade}
use Rattle.core_world.specs.Locks.{hold_count}
use Rattle.core_world.specs.Trees.Plans.{CallContext, done_with, load}
use Rattle.core_world.specs.Words.Shape.{Shape}
use Rattle.core_world.specs.Trees.StepTree.{StepTree, ◌>>=◌, ask}
use Rattle.core_world.specs.Trees.MonitorSteps.{inflate_steps}
use Rattle.core_world.specs.Trees.WaitSteps.{monitor_wait_steps, monitor_resume_steps, monitor_notify_steps, monitor_notify_all_steps}
use Rattle.core_world.specs.Trees.HashSteps.{hash_header_steps}
use Rattle.core_world.specs.Trees.Operations.{and_then, answer, unbias_steps, no_bias, wait_beginning, wait_going, wait_steps, notify_at}
use Rattle.core_world.specs.Trees.Operations.{notify_going, notify_steps, notify_all_at, notify_all_going, notify_all_steps, hash_steps}
use Rattle.core_world.specs.declared.answer.IllegalMonitorState.{IllegalMonitorState}
use Rattle.core_calls.specs.Paths.{Always, Says, Leaves}
use Rattle.core_calls.specs.Causes.{Loaded, Caused, CausedUnder, RequestStands, of_waits}
use Rattle.core_calls.specs.CallsSay.{IsPendingBy, unfinished_on, lets_go, of_notifies, begins_with}
use Rattle.core_calls.specs.CallsSay.{WaitProgressSays, WaitSays, NotifySays, NotifyAllSays, HashSays}
use Rattle.core_calls.specs.CallsSay.{ResultSays, IsPendingBy, has_none}
use Rattle.core_calls.proofs.Paths.{always_then, always_so, either_way, Silent, Still, Logs, still, still_leaves}
use Rattle.core_calls.proofs.enter_exit.LocksSay.{zero_loaded}
use Rattle.core_calls.proofs.monitor.MonitorsSay.{InflateProgress, inflate_says}
use Rattle.core_calls.proofs.wait.WaitsSay.{LetGo, monitor_wait_says, ResumeProgress, monitor_resume_says, publish_says}
use Rattle.core_calls.proofs.wait.WaitsSay.{Notified, monitor_notify_says, AllNotified, monitor_notify_all_says}
use Rattle.core_calls.proofs.hash.HashSay.{HashProgress, hash_header_says, next_draw}
use Rattle.core_calls.proofs.Reasons.{notify_reasons}
use Rattle.core_calls.proofs.OperationsSay.{then_says, working, PartProgress, unbias_says}
use Rattle.core_calls.proofs.enter_exit.EntersSay.{nothing_yet}
use Rattle.core_calls.proofs.Reasons.{Reasons, Sees, Seeing, seeing, ProgressSees, ResultSees, result_said, result_seen, pending_said}
use Rattle.core_calls.proofs.Reasons.{pending_seen}

-- WAIT. Before it lets go it is pending for an exchange, an inflation or a safepoint, and then for nothing of that.
letting_go : (requesting : Bool) (why : PendingCause) → of_notifies requesting why ≡ true → of_waits why ≡ false
letting_go requesting (why.Owned word) h = absurd (cc h)
letting_go requesting (why.NotNotified word) h = absurd (cc h)
letting_go requesting why.Halted h = absurd (cc h)
letting_go requesting _ h = refl

-- After that it waits for no running thread.
no_stop : (requesting : Bool) (t : ℕ) (why : PendingCause) (ms : List StepMade) → of_waits why ≡ true → RequestStands requesting t why ms
no_stop requesting t (why.Stopping word) ms h = absurd (cc h)
no_stop requesting t _ ms h = tt

-- nor for a missed exchange
no_race : (why : PendingCause) (ms : List StepMade) → of_waits why ≡ true → Sees why ms
no_race (why.Raced expected found) ms h = absurd (cc h)
no_race _ ms h = tt

module _ (o : ℕ) where
  waits_before : (requesting : Bool) (t : ℕ) (ms : List StepMade) (why : PendingCause) → Leaves [] (unfinished_on op.Wait o) false ms
      → CausedUnder of_notifies requesting t o why ms → WaitProgressSays true requesting t o ms (Pending why)
  waits_before requesting t ms why h cause = (
    subst (λ (b : Bool). Leaves (cond b (begins_with true o []) []) (unfinished_on op.Wait o) false ms) (sym (letting_go requesting why cause.0.among)) h,
    (
      record {
        among = ap (λ (b : Bool). b || of_notifies requesting why) (letting_go requesting why cause.0.among) ∙ cause.0.among;
        cause = cause.0.cause;
      },
      cause.1,
    ),
  )

  waits_after : (gone requesting : Bool) (t : ℕ) (ms : List StepMade) (why : PendingCause) → Leaves (begins_with gone o [])
      (unfinished_on op.Wait o) false ms → Caused of_waits t o why ms → WaitProgressSays gone requesting t o ms (Pending why)
  waits_after gone requesting t ms why h cause = (
    subst (λ (b : Bool). Leaves (cond b (begins_with gone o []) []) (unfinished_on op.Wait o) false ms) (sym cause.among) h,
    (record { among = ap (λ (b : Bool). b || (gone && of_notifies requesting why)) cause.among; cause = cause.cause }, no_stop requesting t why ms cause.among),
  )

module _ (k : Start) (o : ℕ) where
  -- why they are pending before they let go, with what was seen last
  abbrev HeldCause : PendingCause → List StepMade → Type 0
  HeldCause = CausedUnder of_notifies k.requesting k.local.thread o

  abbrev SeenCause : PendingCause → List StepMade → Type 0
  SeenCause = Seeing (CausedUnder of_notifies k.requesting k.local.thread o)

  held_reasons : Reasons k.requesting k.local.thread o SeenCause
  held_reasons = seeing (notify_reasons k.requesting k.local.thread o)

  -- what a wait tells, with what it saw last
  abbrev pub WaitTells : Bool → List StepMade → Progress (Unit {0}) → Type 0
  WaitTells gone ms progress = WaitProgressSays gone k.requesting k.local.thread o ms progress × ProgressSees ms progress

module _ (s : Shape) (k : Start) (o now : ℕ) where
  abbrev waiting : CallContext
  waiting = working (task.Wait o now) (unfinished_on op.Wait o)

  -- the end of a wait that has let go, in this call or in an earlier one
  resumes_says : (gone : Bool) (saved : ℕ) (ms : List StepMade) → Logs (begins_with gone o []) ms
      → Always (WaitTells k o gone) ms (monitor_resume_steps waiting k.local.thread saved o)
  resumes_says gone saved ms h =
      always_so (ResumeProgress waiting k.local.thread o of_waits (λ word. refl) (λ word. refl) (begins_with gone o []))
      (WaitTells k o gone) (monitor_resume_steps waiting k.local.thread saved o) ms
      (monitor_resume_says waiting k.local.thread o of_waits (λ word. refl) (λ word. refl) (begins_with gone o []) saved ms h) (by_progress gone)
    where
      by_progress : (gone : Bool) (ms : List StepMade) (progress : Progress (Unit {0})) → ResumeProgress waiting k.local.thread o of_waits
          (λ word. refl) (λ word. refl) (begins_with gone o []) ms progress → WaitTells k o gone ms progress
      by_progress true ms (Done x) so = (so, tt)
      by_progress false ms (Done x) so = (so, tt)
      by_progress gone ms (Pending why) so = (waits_after o gone k.requesting k.local.thread ms why so.0 so.1, no_race why ms so.1.among)

  abbrev Unbiasing : List StepMade → Progress (Unit {0}) → Type 0
  Unbiasing = PartProgress s k (task.Wait o now) (unfinished_on op.Wait o) o
      (SeenCause k o) (held_reasons k o) (Unit {0})

  abbrev Inflation : List StepMade → Progress ℕ → Type 0
  Inflation = InflateProgress waiting k.requesting k.local.thread o
      (SeenCause k o) (held_reasons k o)

  beginning_says : (ms : List StepMade) → Still ms → Always (WaitTells k o true) ms (wait_beginning s waiting k o now)
  beginning_says ms h =
      always_then Unbiasing (WaitTells k o true)
      (unbias_steps s waiting k (no_bias o now)) (λ progress. and_then progress inflates) ms
      (unbias_says s k (task.Wait o now) (unfinished_on op.Wait o) o (SeenCause k o) (held_reasons k o) (no_bias o now) ms h)
      (λ ms progress so. then_says Unbiasing (WaitTells k o true) progress inflates ms so
      (λ _ silent. always_then Inflation (WaitTells k o true)
      (inflate_steps s waiting k.kept o) (λ progress. and_then progress lets) ms
      (inflate_says waiting k.requesting k.local.thread o (SeenCause k o) (held_reasons k o) s k.kept ms (still silent))
      (λ ms progress so. then_says Inflation (WaitTells k o true) progress lets ms so
      (λ m silent. always_then (LetGo waiting k.local o) (WaitTells k o true)
      (monitor_wait_steps waiting k.local o m) (λ saved. monitor_resume_steps waiting k.local.thread saved o) ms
      (monitor_wait_says waiting k.local o m ms (still silent)) (λ ms saved so. resumes_says true saved ms (still so)))
      (λ why so. (waits_before o k.requesting k.local.thread ms why so.0 so.1.0, so.1.1))))
      (λ why so. (waits_before o k.requesting k.local.thread ms why so.0 so.1.0, so.1.1)))
    where
      lets : ℕ → StepTree (Progress (Unit {0}))
      lets m = monitor_wait_steps waiting k.local o m >>= λ saved. monitor_resume_steps waiting k.local.thread saved o

      inflates : Unit {0} → StepTree (Progress (Unit {0}))
      inflates _ = inflate_steps s waiting k.kept o >>= λ progress. and_then progress lets

  going_says : (waits : Bool) → Always (WaitTells k o (not waits)) []
      (cond waits (monitor_resume_steps waiting k.local.thread k.saved o) (wait_beginning s waiting k o now))
  going_says true = resumes_says false k.saved [] nothing_yet
  going_says false = beginning_says [] nothing_yet

  wait_tells : Always (ResultSays (has_none k o) (WaitTells k o (lets_go k o))) [] (wait_steps s k o now)
  wait_tells =
      either_way (ResultSays (has_none k o) (WaitTells k o (lets_go k o))) [] (hold_count o k.local.holds == 0) _ _
      (λ none. (none, refl))
      (λ some. always_then (WaitTells k o (lets_go k o)) (ResultSays (has_none k o) (WaitTells k o (lets_go k o)))
      (wait_going s waiting k o now) answer [] (going_says (waits_on k.local.wait o)) (λ ms progress so. (some, so)))

  pub wait_says : Says (wait_steps s k o now) (WaitSays k o)
  wait_says = record {
    by = always_so (ResultSays (has_none k o) (WaitTells k o (lets_go k o))) (WaitSays k o) (wait_steps s k o now) [] wait_tells
        (result_said (has_none k o) (WaitTells k o (lets_go k o)) (WaitProgressSays (lets_go k o) k.requesting k.local.thread o)
        (λ ms a h. h.0));
  }

  pub wait_sees : Always (ResultSees {A = Unit {0}} {E = IllegalMonitorState}) [] (wait_steps s k o now)
  wait_sees =
      always_so (ResultSays (has_none k o) (WaitTells k o (lets_go k o))) (ResultSees {A = Unit {0}} {E = IllegalMonitorState})
      (wait_steps s k o now) []
      wait_tells (result_seen (has_none k o) (WaitTells k o (lets_go k o)) (λ ms a h. h.1))

-- NOTIFY and NOTIFYALL
module _ (s : Shape) (k : Start) (o now : ℕ) where
  abbrev notifying : CallContext
  notifying = working (task.Notify o now) (unfinished_on op.Notify o)

  abbrev Notifying : List StepMade → Progress (Option ℕ) → Type 0
  Notifying = IsPendingBy (λ woken. entry.Notify o woken ∷ []) (SeenCause k o) (unfinished_on op.Notify o) false

  abbrev NotifyUnbiasing : List StepMade → Progress (Unit {0}) → Type 0
  NotifyUnbiasing = PartProgress s k (task.Notify o now) (unfinished_on op.Notify o) o
      (SeenCause k o) (held_reasons k o) (Unit {0})

  notify_at_says : (form : Option MarkForm) (mark : ℕ) (ms : List StepMade) → read_mark mark ≡ form
      → Loaded (Mark o) mark ms → Silent notifying ms → Always Notifying ms (notify_at form s notifying k.local o)
  notify_at_says (Some Inflating) mark ms is loaded h = (h, ((record { among = refl; cause = zero_loaded (Mark o) ms mark is loaded }, tt), tt))
  notify_at_says (Some (Locked thread place)) mark ms is loaded h = publish_says notifying k.local (entry.Notify o None) ms (still h)
  notify_at_says (Some (Inflated monitor)) mark ms is loaded h =
      always_then (Notified notifying k.local o) Notifying (monitor_notify_steps notifying k.local s.threads o) (λ woken. done_with woken) ms
      (monitor_notify_says notifying k.local o s.threads ms h) (λ ms woken so. so)
  notify_at_says _ mark ms is loaded h = tt

  notify_going_says : (ms : List StepMade) → Still ms → Always Notifying ms (notify_going s notifying k o now)
  notify_going_says ms h =
      always_then NotifyUnbiasing Notifying (unbias_steps s notifying k (no_bias o now)) (λ progress. and_then progress looks) ms
      (unbias_says s k (task.Notify o now) (unfinished_on op.Notify o) o (SeenCause k o) (held_reasons k o) (no_bias o now) ms h)
      (λ ms progress so. then_says NotifyUnbiasing Notifying progress looks ms so
      (λ _ silent mark. notify_at_says (read_mark mark) mark _ refl (inl (refl, refl, refl)) (still_leaves _ mark ms refl refl refl silent))
      (λ why so. so))
    where
      looks : Unit {0} → StepTree (Progress (Option ℕ))
      looks _ = ask (load notifying (Mark o)) >>= λ mark. notify_at (read_mark mark) s notifying k.local o

  notify_tells : Always (ResultSays (has_none k o) Notifying) [] (notify_steps s k o now)
  notify_tells =
      either_way (ResultSays (has_none k o) Notifying) [] (hold_count o k.local.holds == 0) _ _
      (λ none. (none, refl))
      (λ some. always_then Notifying (ResultSays (has_none k o) Notifying) (notify_going s notifying k o now) answer []
      (notify_going_says [] nothing_yet) (λ ms progress so. (some, so)))

  pub notify_says : Says (notify_steps s k o now) (NotifySays k o)
  notify_says = record {
    by = always_so (ResultSays (has_none k o) Notifying) (NotifySays k o) (notify_steps s k o now) [] notify_tells
        (result_said (has_none k o) Notifying
        (IsPendingBy (λ woken. entry.Notify o woken ∷ []) (HeldCause k o) (unfinished_on op.Notify o) false)
        (pending_said (λ woken. entry.Notify o woken ∷ []) (HeldCause k o) (unfinished_on op.Notify o) false));
  }

  pub notify_sees : Always (ResultSees {A = Option ℕ} {E = IllegalMonitorState}) [] (notify_steps s k o now)
  notify_sees =
      always_so (ResultSays (has_none k o) Notifying) (ResultSees {A = Option ℕ} {E = IllegalMonitorState})
      (notify_steps s k o now) [] notify_tells
      (result_seen (has_none k o) Notifying (pending_seen (λ woken. entry.Notify o woken ∷ []) (HeldCause k o)
      (unfinished_on op.Notify o) false))

  abbrev calling : CallContext
  calling = working (task.NotifyAll o now) (unfinished_on op.NotifyAll o)

  abbrev Calling : List StepMade → Progress ℕ → Type 0
  Calling = IsPendingBy (λ woken. entry.NotifyAll o woken ∷ []) (SeenCause k o) (unfinished_on op.NotifyAll o) false

  abbrev CallUnbiasing : List StepMade → Progress (Unit {0}) → Type 0
  CallUnbiasing = PartProgress s k (task.NotifyAll o now) (unfinished_on op.NotifyAll o) o
      (SeenCause k o) (held_reasons k o) (Unit {0})

  notify_all_at_says : (form : Option MarkForm) (mark : ℕ) (ms : List StepMade) → read_mark mark ≡ form
      → Loaded (Mark o) mark ms → Silent calling ms → Always Calling ms (notify_all_at form s calling k.local o)
  notify_all_at_says (Some Inflating) mark ms is loaded h =
      (h, ((record { among = refl; cause = zero_loaded (Mark o) ms mark is loaded }, tt), tt))
  notify_all_at_says (Some (Locked thread place)) mark ms is loaded h = publish_says calling k.local (entry.NotifyAll o 0) ms (still h)
  notify_all_at_says (Some (Inflated monitor)) mark ms is loaded h =
      always_then (AllNotified calling k.local o) Calling (monitor_notify_all_steps calling k.local s.threads o) (λ woken. done_with woken) ms
      (monitor_notify_all_says calling k.local o s.threads ms h) (λ ms woken so. so)
  notify_all_at_says _ mark ms is loaded h = tt

  notify_all_going_says : (ms : List StepMade) → Still ms → Always Calling ms (notify_all_going s calling k o now)
  notify_all_going_says ms h =
      always_then CallUnbiasing Calling (unbias_steps s calling k (no_bias o now)) (λ progress. and_then progress looks) ms
      (unbias_says s k (task.NotifyAll o now) (unfinished_on op.NotifyAll o) o
      (SeenCause k o) (held_reasons k o) (no_bias o now) ms h)
      (λ ms progress so. then_says CallUnbiasing Calling progress looks ms so
      (λ _ silent mark. notify_all_at_says (read_mark mark) mark _ refl (inl (refl, refl, refl)) (still_leaves _ mark ms refl refl refl silent))
      (λ why so. so))
    where
      looks : Unit {0} → StepTree (Progress ℕ)
      looks _ = ask (load calling (Mark o)) >>= λ mark. notify_all_at (read_mark mark) s calling k.local o

  notify_all_tells : Always (ResultSays (has_none k o) Calling) [] (notify_all_steps s k o now)
  notify_all_tells =
      either_way (ResultSays (has_none k o) Calling) [] (hold_count o k.local.holds == 0) _ _
      (λ none. (none, refl))
      (λ some. always_then Calling (ResultSays (has_none k o) Calling) (notify_all_going s calling k o now) answer []
      (notify_all_going_says [] nothing_yet) (λ ms progress so. (some, so)))

  pub notify_all_says : Says (notify_all_steps s k o now) (NotifyAllSays k o)
  notify_all_says = record {
    by = always_so (ResultSays (has_none k o) Calling) (NotifyAllSays k o) (notify_all_steps s k o now) [] notify_all_tells
        (result_said (has_none k o) Calling
        (IsPendingBy (λ woken. entry.NotifyAll o woken ∷ []) (HeldCause k o) (unfinished_on op.NotifyAll o) false)
        (pending_said (λ woken. entry.NotifyAll o woken ∷ []) (HeldCause k o) (unfinished_on op.NotifyAll o) false));
  }

  pub notify_all_sees : Always (ResultSees {A = ℕ} {E = IllegalMonitorState}) [] (notify_all_steps s k o now)
  notify_all_sees =
      always_so (ResultSays (has_none k o) Calling) (ResultSees {A = ℕ} {E = IllegalMonitorState})
      (notify_all_steps s k o now) [] notify_all_tells
      (result_seen (has_none k o) Calling (pending_seen (λ woken. entry.NotifyAll o woken ∷ []) (HeldCause k o)
      (unfinished_on op.NotifyAll o) false))

-- HASH
module _ (s : Shape) (k : Start) (o now : ℕ) where
  abbrev hashing : CallContext
  hashing = working (task.Hash o now) (unfinished_on op.Hash o)

  abbrev HashUnbiasing : List StepMade → Progress (Unit {0}) → Type 0
  HashUnbiasing = PartProgress s k (task.Hash o now) (unfinished_on op.Hash o) o
      (SeenCause k o) (held_reasons k o) (Unit {0})

  abbrev Hashing : List StepMade → Progress ℕ → Type 0
  Hashing = HashProgress hashing k o (SeenCause k o) (held_reasons k o)

  hash_tells : Always Hashing [] (hash_steps s k o now)
  hash_tells =
      always_then HashUnbiasing Hashing (unbias_steps s hashing k (no_bias o now))
      (λ progress. and_then progress (λ _. hash_header_steps s hashing k.local k.kept (next_draw k) o)) []
      (unbias_says s k (task.Hash o now) (unfinished_on op.Hash o) o (SeenCause k o) (held_reasons k o) (no_bias o now) [] nothing_yet)
      (λ ms progress so. then_says HashUnbiasing Hashing progress (λ _. hash_header_steps s hashing k.local k.kept (next_draw k) o) ms so
      (λ _ silent. hash_header_says hashing k o (SeenCause k o) (held_reasons k o) s k.kept ms (still silent)) (λ why so. so))

  pub hash_says : Says (hash_steps s k o now) (HashSays k o)
  hash_says = record { by = always_so Hashing (HashSays k o) (hash_steps s k o now) [] hash_tells by_progress }
    where
      by_progress : (ms : List StepMade) (progress : Progress ℕ) → Hashing ms progress → HashSays k o ms progress
      by_progress ms (Done value) so = so
      by_progress ms (Pending why) so = (so.0, so.1.0)

  pub hash_sees : Always (ProgressSees {A = ℕ}) [] (hash_steps s k o now)
  hash_sees = always_so Hashing (ProgressSees {A = ℕ}) (hash_steps s k o now) [] hash_tells by_progress
    where
      by_progress : (ms : List StepMade) (progress : Progress ℕ) → Hashing ms progress → ProgressSees ms progress
      by_progress ms (Done value) so = tt
      by_progress ms (Pending why) so = so.1.1
