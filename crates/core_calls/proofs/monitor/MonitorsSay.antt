-- What the steps of inflation and of monitors say.
use Rattle.std.proofs.Common.{◌≡◌, ℕ, ◌==◌, not, Bool, true, List, Option, Some, None, refl, ap, ◌∙◌, inl, inr, arith}
use Rattle.mark_word.specs.declared.mark.MarkForm.{MarkForm}
use Rattle.mark_word.specs.declared.mark.MarkForm.TheVariants.{Inflating, Neutral, Locked, Inflated}
use Rattle.mark_word.specs.declared.owner.OwnerForm.{OwnerForm}
use Rattle.mark_word.specs.declared.owner.OwnerForm.TheVariants.{Free, ByThread, ByRecord}
use Rattle.mark_word.specs.Mark.{mark_of, read_mark}
use Rattle.mark_word.specs.Owner.{owner_of, read_owner}
use Rattle.plain_monitor.specs.declared.entry.Path.{Path}
use Rattle.plain_monitor.specs.declared.entry.Path.TheVariants.{MonitorFirst, MonitorAgain}
use Rattle.core_world.specs.declared.word_id.WordId.TheVariants.{Mark, Owner}
use Rattle.core_world.specs.declared.plan.LocalEffect.TheVariants as own
use Rattle.core_world.specs.declared.stage.Stage.{Stage}
use Rattle.core_world.specs.declared.stage.Stage.TheVariants.{MonitorAcquired, RecursionsRaised, Inflates}
use Rattle.core_world.specs.declared.answer.Progress.{Progress}
use Rattle.core_world.specs.declared.answer.Progress.TheVariants.{Done, Pending}
use Rattle.core_world.specs.declared.answer.PendingCause.{PendingCause}
use Rattle.core_world.specs.declared.answer.PendingCause.TheVariants as why
use Rattle.core_world.specs.Threads.ThreadView.{Local, StepMade}
use Rattle.core_world.specs.Words.Shape.{Shape}
use Rattle.core_world.specs.Trees.Plans.{CallContext, load, with_own, store, done_with}
use Rattle.core_world.specs.Trees.StepTree.{◌>>=◌, ask}
use Rattle.core_world.specs.Trees.MonitorSteps.{prepare_steps, inflate_locked, inflate_neutral, inflate_with, inflate_by}
use Rattle.core_world.specs.Trees.MonitorSteps.{inflate_at, inflate_steps, record_steps, owned_steps, monitor_enter_at}
use Rattle.core_world.specs.Trees.MonitorSteps.{monitor_enter_steps, own_steps, release_steps, monitor_exit_steps}
use Rattle.core_calls.specs.Paths.{Always}
use Rattle.core_calls.specs.Causes.{Found, Cause, names_other, is_other_form}
use Rattle.core_calls.proofs.Paths.{Saw, saw_load, always_then, either_way, Silent, Still, IsQuiet, still, still_leaves, still_more}
use Rattle.core_calls.proofs.Paths.{now_silent, now_logged, missed_last}
use Rattle.core_calls.proofs.Spends.{Spend, spend_done, spend_never, quiet_step, of_call, spend_quietly}
use Rattle.core_calls.proofs.Reasons.{Reasons}
use Rattle.core_calls.proofs.enter_exit.LocksSay.{zero_loaded, EnterProgress, held_says, Exited, leave_says, clear_says}

pub prepare_spends : (e : CallContext) (stage : Stage) (o m header owner : ℕ) → Spend (IsQuiet e) (λ _. 0) 4 (prepare_steps e stage o m header owner)
prepare_spends e stage o m header owner =
    quiet_step refl refl refl tt (λ _. of_call refl tt) (λ _. quiet_step refl refl refl tt (λ _. of_call refl tt)
    (λ _. quiet_step refl refl refl tt (λ _. of_call refl tt)
    (λ _. quiet_step refl refl refl tt (λ _. of_call refl tt) (λ _. spend_done (omega arith)))))

module _ (e : CallContext) (requesting : Bool) (t o : ℕ) (For : PendingCause → List StepMade → Type 0) (may : Reasons requesting t o For) where
  -- nothing is logged; the number of the monitor, or the cause
  abbrev pub InflateProgress : List StepMade → Progress ℕ → Type 0
  InflateProgress ms (Done m) = Silent e ms
  InflateProgress ms (Pending why) = Silent e ms × For why ms

  inflate_locked_says : (mark m thread place : ℕ) (ms : List StepMade) → Saw (Mark o) mark ms
      → Silent e ms → Always InflateProgress ms (inflate_locked e o mark m thread place)
  inflate_locked_says mark m thread place ms loaded h = λ n.
      let silent = still_leaves _ n ms refl refl refl h in
      either_way InflateProgress _ (n == mark) _ _
      (λ hit header. always_then (λ ms _. Silent e ms) InflateProgress (prepare_steps e (Inflates o thread place) o m header (owner_of (ByRecord thread place)))
      (λ _. ask (with_own own.DropClaim (store e (Mark o) (mark_of (Inflated m)))) >>= λ _. done_with m) _
      (spend_quietly _ (prepare_spends e _ o m header _) (still_leaves _ header _ refl refl refl silent))
      (λ ms _ s n. still_leaves _ n ms refl refl refl s))
      (λ miss. (silent, may.races mark n _ (missed_last _ n ms mark _ refl miss loaded)))

  inflate_neutral_says : (mark m : ℕ) (ms : List StepMade) → Saw (Mark o) mark ms → Silent e ms
      → Always InflateProgress ms (inflate_neutral e o mark m)
  inflate_neutral_says mark m ms loaded h = λ a b c d n.
      let prepared = still_leaves _ d _ refl refl refl
      (still_leaves _ c _ refl refl refl (still_leaves _ b _ refl refl refl (still_leaves _ a ms refl refl refl h))) in
      let silent = still_leaves _ n _ refl refl refl prepared in
      either_way InflateProgress _ (n == mark) _ _ (λ hit. silent)
      (λ miss. (silent, may.races mark n _ (missed_last _ n _ mark _ refl miss (inr (inr (inr (inr loaded.0))), loaded.1))))

  inflate_with_says : (form : Option MarkForm) (mark m : ℕ) (ms : List StepMade)
      → Saw (Mark o) mark ms → Silent e ms → Always InflateProgress ms (inflate_with form e o mark m)
  inflate_with_says (Some (Locked thread place)) mark m ms loaded h = inflate_locked_says mark m thread place ms loaded h
  inflate_with_says (Some (Neutral hash age)) mark m ms loaded h = inflate_neutral_says mark m ms loaded h
  inflate_with_says _ mark m ms loaded h = tt

  inflate_by_says : (s : Shape) (kept : Option ℕ) (mark : ℕ) (ms : List StepMade)
      → Saw (Mark o) mark ms → Silent e ms → Always InflateProgress ms (inflate_by kept s e o mark)
  inflate_by_says s (Some m) mark ms loaded h = inflate_with_says (read_mark mark) mark m ms loaded h
  inflate_by_says s None mark ms loaded h = λ position m.
      inflate_with_says (read_mark mark) mark m _ (inr (inr loaded.0), loaded.1)
      (still_leaves _ m _ refl refl refl (still_leaves _ position ms refl refl refl h))

  inflate_at_says : (form : Option MarkForm) (s : Shape) (kept : Option ℕ) (mark : ℕ) (ms : List StepMade)
      → read_mark mark ≡ form → Saw (Mark o) mark ms → Silent e ms → Always InflateProgress ms (inflate_at form s e kept o mark)
  inflate_at_says (Some Inflating) s kept mark ms is loaded h = (h, may.inflates ms (zero_loaded (Mark o) ms mark is loaded.0))
  inflate_at_says (Some (Inflated monitor)) s kept mark ms is loaded h = h
  inflate_at_says _ s kept mark ms is loaded h = inflate_by_says s kept mark ms loaded h

  pub inflate_says : (s : Shape) (kept : Option ℕ) (ms : List StepMade) → Still ms → Always InflateProgress ms (inflate_steps s e kept o)
  inflate_says s kept ms h =
      λ mark. inflate_at_says (read_mark mark) s kept mark _ refl (saw_load (load e (Mark o)) mark ms refl)
      (now_silent e _ mark ms refl refl refl refl h)

module _ (e : CallContext) (k : Local) (o : ℕ) (For : PendingCause → List StepMade → Type 0)
    (owns : (word : ℕ) (ms : List StepMade) → Cause k.thread o (why.Owned word) ms → For (why.Owned word) ms) where
  record_says : (stage : Stage) (path : Path) (ms : List StepMade) → Still ms → Always (EnterProgress e k o For) ms (record_steps e stage k o path)
  record_says stage path ms h = λ n. held_says e k o For path _ (still_more _ n ms refl h)

  -- the owner word that the exchange found names another
  owned_says : (m found : ℕ) (ms : List StepMade) → names_other found k.thread ≡ true
      → Found (Owner m) found ms → Silent e ms → Always (EnterProgress e k o For) ms (owned_steps e k o found)
  owned_says m found ms other found_there h = λ n. (still_leaves _ n ms refl refl refl h, owns found _ (m, other, inr found_there))

  monitor_enter_at_says : (form : Option OwnerForm) (m found : ℕ) (ms : List StepMade) → read_owner found ≡ form
      → Found (Owner m) found ms → Silent e ms → Always (EnterProgress e k o For) ms (monitor_enter_at form e k o m found)
  monitor_enter_at_says (Some Free) m found ms is there h = record_says (MonitorAcquired o) MonitorFirst ms (still h)
  monitor_enter_at_says (Some (ByThread thread)) m found ms is there h =
      either_way (EnterProgress e k o For) ms (thread == k.thread) _ _
      (λ own n w. record_says (RecursionsRaised o) MonitorAgain _ (still_more _ w _ refl (still_more _ n ms refl (still h))))
      (λ other. owned_says m found ms (ap (λ f. is_other_form f k.thread) is ∙ ap not other) there h)
  monitor_enter_at_says (Some (ByRecord thread place)) m found ms is there h =
      either_way (EnterProgress e k o For) ms (thread == k.thread) _ _
      (λ own n w. record_says (RecursionsRaised o) MonitorAgain _ (still_more _ w _ refl (still_more _ n ms refl (still h))))
      (λ other. owned_says m found ms (ap (λ f. is_other_form f k.thread) is ∙ ap not other) there h)
  monitor_enter_at_says None m found ms is there h = tt

  pub monitor_enter_says : (m : ℕ) (ms : List StepMade) → Silent e ms → Always (EnterProgress e k o For) ms (monitor_enter_steps e k o m)
  monitor_enter_says m ms h = λ found. monitor_enter_at_says (read_owner found) m found _ refl (inl (refl, refl)) (still_leaves _ found ms refl refl refl h)

-- what stands between the owner's load and the recursions'
pub own_spends : (form : Option OwnerForm) (e : CallContext) (k : Local) (o m : ℕ) → Spend (IsQuiet e) (λ _. 0) 2 (own_steps form e k o m)
own_spends (Some (ByRecord thread place)) e k o m =
    quiet_step refl refl refl tt (λ _. of_call refl tt) (λ _. quiet_step refl refl refl tt (λ _. of_call refl tt)
    (λ _. spend_done (omega arith)))
own_spends (Some (ByThread thread)) e k o m = spend_done (omega arith)
own_spends (Some Free) e k o m = spend_never
own_spends None e k o m = spend_never

module _ (e : CallContext) (k : Local) (o : ℕ) where
  release_says : (m : ℕ) (ms : List StepMade) → Still ms → Always (Exited e k o) ms (release_steps e k o m)
  release_says m ms h = λ n. clear_says e k o _ (now_logged _ None e.check _ n ms refl refl refl refl h)

  pub monitor_exit_says : (m : ℕ) (ms : List StepMade) → Still ms → Always (Exited e k o) ms (monitor_exit_steps e k o m)
  monitor_exit_says m ms h = λ owner.
      always_then (λ ms _. Silent e ms) (Exited e k o) (own_steps (read_owner owner) e k o m) _ _
      (spend_quietly _ (own_spends (read_owner owner) e k o m) (now_silent e _ owner ms refl refl refl refl h))
      (λ ms _ s recursions. let silent = still_leaves _ recursions ms refl refl refl s in
      either_way (Exited e k o) _ (recursions == 0) _ _
      (λ _. release_says m _ (still silent))
      (λ _ n. leave_says e k o _ (still_more _ n _ refl (still silent))))
