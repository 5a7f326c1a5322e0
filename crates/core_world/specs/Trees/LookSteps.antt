-- The steps that look at all threads and objects at a reached safepoint: for a dump, and to see whether the run is stuck.
use Rattle.std.specs.Prelude.{ℕ, ◌==◌, ◌&&◌, not, if◌then◌else◌, Bool, true, false, List, [], ◌∷◌, length, Option, Some, None}
use Rattle.plain_monitor.specs.Limits.{most_holds}
use Rattle.mark_word.specs.declared.mark.MarkForm.{MarkForm}
use Rattle.mark_word.specs.declared.mark.MarkForm.TheVariants.{Biased, Locked, Inflated}
use Rattle.mark_word.specs.declared.owner.OwnerForm.{OwnerForm}
use Rattle.mark_word.specs.declared.owner.OwnerForm.TheVariants.{Free, ByThread, ByRecord}
use Rattle.mark_word.specs.declared.wait.WaitForm.{WaitForm}
use Rattle.mark_word.specs.declared.wait.WaitForm.TheVariants.{Ready, Entering, Waiting, Notified, Ended}
use Rattle.mark_word.specs.Mark.{read_mark}
use Rattle.mark_word.specs.Owner.{read_owner}
use Rattle.mark_word.specs.Wait.{read_wait}
use Rattle.core_world.specs.declared.word_id.WordId.TheVariants as id
use Rattle.core_world.specs.declared.plan.LocalEffect.TheVariants as own
use Rattle.core_world.specs.declared.plan.StepPlan.{StepPlan}
use Rattle.core_world.specs.declared.stage.Stage.TheVariants.{Settled}
use Rattle.core_world.specs.Words.Shape.{Shape}
use Rattle.core_world.specs.Words.Forms.{epoch_in}
use Rattle.core_world.specs.Locks.{has_epoch}
use Rattle.core_world.specs.Trees.StepTree.{StepTree, done, unreachable, ◌>>=◌, ask, each_from, all_from}
use Rattle.core_world.specs.Trees.Plans.{CallContext, with_own, load, class_steps}

-- THE PLAN of the step that keeps a shot: the safepoint word is loaded once more.
abbrev pub keep_shot_plan : CallContext → StepPlan
keep_shot_plan e = with_own own.TakeShot (load e id.Safepoint)

-- THE STEPS. The hold words of a thread.
abbrev pub look_at_holds : CallContext → ℕ → StepTree (Unit {0})
look_at_holds e t = all_from 0 most_holds (λ p. do
  _ ← ask (load e (id.Hold t p))
  done tt)

abbrev pub look_at_owner : Option OwnerForm → CallContext → StepTree (Unit {0})
look_at_owner (Some (ByThread thread)) e = look_at_holds e thread
look_at_owner (Some (ByRecord thread place)) e = look_at_holds e thread
look_at_owner _ e = done tt

-- What a mark names: the prototype under a bias, the monitor, and the hold words of the thread that has the lock.
abbrev pub look_at_named : Option MarkForm → CallContext → Shape → ℕ → StepTree (Unit {0})
look_at_named (Some (Biased thread epoch age)) e s o = do
  class ← class_steps e Settled s o
  prototype ← ask (load e (id.Prototype class))
  if has_epoch (epoch_in prototype) epoch then look_at_holds e thread else done tt
look_at_named (Some (Locked thread place)) e s o = look_at_holds e thread
look_at_named (Some (Inflated monitor)) e s o = do
  owner ← ask (load e (id.Owner monitor))
  look_at_owner (read_owner owner) e
look_at_named _ e s o = done tt

abbrev pub look_at_objects : CallContext → Shape → StepTree (Unit {0})
look_at_objects e s = all_from 0 (length s.objects) (λ o. do
  mark ← ask (load e (id.Mark o))
  look_at_named (read_mark mark) e s o)

-- The headers of all objects and the lengths of all logs. The safepoint word is loaded once more, and with this step the shot is kept.
abbrev pub take_shot_steps : CallContext → Shape → StepTree (Unit {0})
take_shot_steps e s = do
  _ ← look_at_objects e s
  _ ← all_from 0 s.threads (λ t. do
    _ ← ask (load e (id.Length t))
    done tt)
  _ ← ask (keep_shot_plan e)
  done tt

-- whether thread t may take the monitor with this owner: it is free or t's own
abbrev pub can_acquire : Option OwnerForm → ℕ → Bool
can_acquire (Some Free) t = true
can_acquire (Some (ByThread thread)) t = thread == t
can_acquire (Some (ByRecord thread place)) t = thread == t
can_acquire None t = false

-- what a thread's waiting word and the owner that is loaded after it say: None where it has ended, and else whether it can go on
abbrev pub look_at_monitor : Option MarkForm → CallContext → ℕ → StepTree (Option Bool)
look_at_monitor (Some (Inflated monitor)) e t = do
  owner ← ask (load e (id.Owner monitor))
  done (Some (can_acquire (read_owner owner) t))
look_at_monitor _ e t = unreachable

abbrev pub look_at_object : CallContext → ℕ → ℕ → StepTree (Option Bool)
look_at_object e t o = do
  mark ← ask (load e (id.Mark o))
  look_at_monitor (read_mark mark) e t

abbrev pub look_at_wait : Option WaitForm → CallContext → ℕ → StepTree (Option Bool)
look_at_wait (Some Ready) e t = done (Some true)
look_at_wait (Some (Entering object)) e t = look_at_object e t object
look_at_wait (Some (Waiting object stamp)) e t = done (Some false)
look_at_wait (Some (Notified object)) e t = look_at_object e t object
look_at_wait (Some Ended) e t = done None
look_at_wait None e t = unreachable

-- some thread is live, and none of the threads can go on
abbrev pub some_live : List (Option Bool) → Bool
some_live [] = false
some_live (None ∷ ts) = some_live ts
some_live (Some on ∷ ts) = true

abbrev pub none_goes_on : List (Option Bool) → Bool
none_goes_on [] = true
none_goes_on (None ∷ ts) = none_goes_on ts
none_goes_on (Some on ∷ ts) = not on && none_goes_on ts

-- whether the run stands still, by the waiting words of all threads
abbrev pub stands_still_steps : CallContext → Shape → StepTree Bool
stands_still_steps e s = do
  threads ← each_from 0 s.threads (λ t. do
    word ← ask (load e (id.Waiting t))
    look_at_wait (read_wait word) e t)
  done (some_live threads && none_goes_on threads)
