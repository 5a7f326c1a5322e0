-- The steps of a notify that wakes nobody since a lock record has the lock: it loads the mark after steps that log nothing, and then logs its entry.
use Rattle.std.proofs.Common.{◌≡◌, ◌⊎◌, ℕ, ◌+◌, ◌==◌, List, [], ◌∷◌, if◌then◌else◌, length, Option, Some, None, Result, Ok, Err, refl, inl, inr}
use Rattle.mark_word.specs.declared.mark.MarkForm.{MarkForm}
use Rattle.mark_word.specs.declared.mark.MarkForm.TheVariants.{Locked, Inflated}
use Rattle.mark_word.specs.Mark.{read_mark}
use Rattle.plain_monitor.specs.declared.entry.Entry.{Entry}
use Rattle.plain_monitor.specs.declared.entry.Entry.TheVariants as entry
use Rattle.core_world.specs.declared.answer.Progress.{Progress}
use Rattle.core_world.specs.declared.answer.Progress.TheVariants.{Done, Pending}
use Rattle.core_world.specs.declared.word_id.WordId.TheVariants.{Mark}
use Rattle.core_world.specs.declared.answer.IllegalMonitorState.{IllegalMonitorState}
use Rattle.core_world.specs.declared.heap_call.HeapCall.{HeapCall}
use Rattle.core_world.specs.declared.heap_call.Operation.{Operation}
use Rattle.core_world.specs.declared.heap_call.Operation.TheVariants as op
use Rattle.core_world.specs.declared.heap_call.HeapCall.TheVariants as task
use Rattle.core_world.specs.Locks.{hold_count}
use Rattle.core_world.specs.Threads.ThreadView.{Start, StepMade}
use Rattle.core_world.specs.Trees.Operations.{and_then, answer, no_bias, unbias_steps, notify_at}
use Rattle.core_world.specs.Trees.Operations.{notify_steps, notify_all_at, notify_all_steps}
use Rattle.core_world.specs.Trees.Plans.{CallContext, load, done_with}
use Rattle.core_world.specs.Trees.StepTree.{StepTree, done, ◌>>=◌, ask}
use Rattle.core_world.specs.Trees.WaitSteps.{publish_plan, publish_steps, monitor_notify_steps, monitor_notify_all_steps}
use Rattle.core_world.specs.Words.Shape.{Shape}
use Rattle.core_calls.specs.CallsSay.{unfinished_on, of_notifies}
use Rattle.core_calls.specs.Causes.{CausedUnder}
use Rattle.core_calls.specs.Paths.{made, Always, Says}
use Rattle.core_calls.specs.Woken.{WakesOldest, WakesEach, IfDone}
use Rattle.core_calls.proofs.enter_exit.EntersSay.{nothing_yet}
use Rattle.core_calls.proofs.OperationsSay.{then_says, working, PartProgress, unbias_says}
use Rattle.core_calls.proofs.Paths.{always_then, either_way, Silent}
use Rattle.core_calls.proofs.Reasons.{notify_reasons}
use Rattle.core_calls.proofs.wait.WhoIsWoken.{DoneWith, monitor_wakes, monitor_wakes_all}

-- these are all the steps: thread t's last step logs an entry, and the one before it loads o's mark, which says that a lock record has the lock
pub record LoadsLocked (e : CallContext) (t o : ℕ) (ms : List StepMade) : Type 0 where
  pub mark : ℕ
  pub thread : ℕ
  pub place : ℕ
  pub says : read_mark mark ≡ Some (Locked thread place)
  pub logged : Entry
  pub published : ℕ
  pub found : ℕ
  pub before : List StepMade
  pub are : ms ≡ made (publish_plan e t logged published) found ∷ made (load e (Mark o)) mark ∷ before
  pub silent : Silent e before

-- A CALL that notifies by o's mark, and answers whom it woke
module _ (s : Shape) (k : Start) (o : ℕ) (e : CallContext) {A : Type 0} (nobody : A) (Wakes : List StepMade → A → Type 0) where
  abbrev Paths : List StepMade → A → Type 0
  Paths ms woken = (LoadsLocked e k.local.thread o ms × (woken ≡ nobody)) ⊎ Wakes ms woken

  abbrev Turns : List StepMade → Progress A → Type 0
  Turns = DoneWith s e k.local o Paths

  -- what is said of these steps, after the load of the mark
  abbrev AfterMark : Option MarkForm → StepTree (Progress A) → Type 0
  AfterMark form d = (mark : ℕ) (ms : List StepMade) → read_mark mark ≡ form → Silent e ms → Always Turns (made (load e (Mark o)) mark ∷ ms) d

  by_record : (logged : Entry) (thread place : ℕ) → AfterMark (Some (Locked thread place)) (publish_steps logged e k.local >>= (λ _. done_with nobody))
  by_record logged thread place mark ms is silent = λ n.
      inl (
        record {
          mark = mark;
          thread = thread;
          place = place;
          says = is;
          logged = logged;
          published = length k.local.log + 1;
          found = n;
          before = ms;
          are = refl;
          silent = silent;
        },
        refl,
      )

  by_monitor : (d : StepTree A) (ms : List StepMade) → Always Wakes ms d → Always Turns ms (d >>= (λ woken. done_with woken))
  by_monitor d ms wakes = always_then Wakes Turns d (λ woken. done_with woken) ms wakes (λ ms woken h. inr h)

module _ (s : Shape) (k : Start) (o now : ℕ) (t : HeapCall) (which : Operation) {A : Type 0} (nobody : A) (Wakes : List StepMade → A → Type 0)
    (at : Option MarkForm → StepTree (Progress A)) where
  abbrev e : CallContext
  e = working t (unfinished_on which o)

  abbrev looks : StepTree (Progress A)
  looks = ask (load e (Mark o)) >>= (λ mark. at (read_mark mark))

  abbrev going : StepTree (Progress A)
  going = unbias_steps s e k (no_bias o now) >>= (λ progress. and_then progress (λ _. looks))

  abbrev Unbiasing : List StepMade → Progress (Unit {0}) → Type 0
  Unbiasing =
      PartProgress s k t (unfinished_on which o) o (CausedUnder of_notifies k.requesting k.local.thread o)
      (notify_reasons k.requesting k.local.thread o) (Unit {0})

  -- so where each form of the mark has its steps, the whole call has
  whole_paths : ((form : Option MarkForm) → AfterMark s k o e nobody Wakes form (at form))
      → Says {A = Result (Progress A) IllegalMonitorState} (if hold_count o k.local.holds == 0 then done (Err (record {})) else (going >>= answer))
      (IfDone (Paths s k o e nobody Wakes))
  whole_paths by_mark = record {
    by = either_way (IfDone (Paths s k o e nobody Wakes)) [] (hold_count o k.local.holds == 0) _ _ (λ none. tt)
        (λ some. always_then (Turns s k o e nobody Wakes) (IfDone (Paths s k o e nobody Wakes)) going answer [] goes by_progress);
  }
    where
      goes : Always (Turns s k o e nobody Wakes) [] going
      goes =
          always_then Unbiasing (Turns s k o e nobody Wakes) (unbias_steps s e k (no_bias o now)) (λ progress. and_then progress (λ _. looks)) []
          (unbias_says s k t (unfinished_on which o) o (CausedUnder of_notifies k.requesting k.local.thread o)
          (notify_reasons k.requesting k.local.thread o) (no_bias o now) [] nothing_yet)
          (λ ms progress so. then_says Unbiasing (Turns s k o e nobody Wakes) progress (λ _. looks) ms so
          (λ _ silent mark. by_mark (read_mark mark) mark ms refl silent) (λ why so. tt))

      by_progress : (ms : List StepMade) (progress : Progress A) → Turns s k o e nobody Wakes ms progress
          → IfDone (Paths s k o e nobody Wakes) ms (Ok progress)
      by_progress ms (Done woken) h = h
      by_progress ms (Pending why) h = tt

module _ (s : Shape) (k : Start) (o now : ℕ) where
  abbrev notifying : CallContext
  notifying = working (task.Notify o now) (unfinished_on op.Notify o)

  pub notify_paths : Says (notify_steps s k o now) (IfDone (Paths s k o notifying None (WakesOldest s o)))
  notify_paths = whole_paths s k o now (task.Notify o now) op.Notify None (WakesOldest s o) (λ form. notify_at form s notifying k.local o) by_mark
    where
      by_mark : (form : Option MarkForm) → AfterMark s k o notifying None (WakesOldest s o) form (notify_at form s notifying k.local o)
      by_mark (Some (Locked thread place)) mark ms is silent =
          by_record s k o notifying None (WakesOldest s o) (entry.Notify o None) thread place mark ms is silent
      by_mark (Some (Inflated monitor)) mark ms is silent =
          let before = made (load notifying (Mark o)) mark ∷ ms in
          by_monitor s k o notifying None (WakesOldest s o) (monitor_notify_steps notifying k.local s.threads o) before
          (monitor_wakes s notifying k.local o mark monitor before is (inl (refl, refl, refl)))
      by_mark _ mark ms is silent = tt

  abbrev notifying_all : CallContext
  notifying_all = working (task.NotifyAll o now) (unfinished_on op.NotifyAll o)

  pub notify_all_paths : Says (notify_all_steps s k o now) (IfDone (Paths s k o notifying_all 0 (WakesEach s o)))
  notify_all_paths = whole_paths s k o now (task.NotifyAll o now) op.NotifyAll 0 (WakesEach s o) (λ form. notify_all_at form s notifying_all k.local o) by_mark
    where
      by_mark : (form : Option MarkForm) → AfterMark s k o notifying_all 0 (WakesEach s o) form (notify_all_at form s notifying_all k.local o)
      by_mark (Some (Locked thread place)) mark ms is silent =
          by_record s k o notifying_all 0 (WakesEach s o) (entry.NotifyAll o 0) thread place mark ms is silent
      by_mark (Some (Inflated monitor)) mark ms is silent =
          let before = made (load notifying_all (Mark o)) mark ∷ ms in
          by_monitor s k o notifying_all 0 (WakesEach s o) (monitor_notify_all_steps notifying_all k.local s.threads o) before
          (monitor_wakes_all s notifying_all k.local o mark monitor before is (inl (refl, refl, refl)))
      by_mark _ mark ms is silent = tt
