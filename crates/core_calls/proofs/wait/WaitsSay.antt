-- What the steps of wait and notify say.
use Rattle.std.proofs.Common.{◌≡◌, ℕ, ◌+◌, ◌==◌, not, Bool, true, List, [], ◌∷◌, ◌++◌, length, Option, Some, None, refl, ap, ◌∙◌, subst, inl, arith}
use Rattle.mark_word.specs.declared.mark.MarkForm.{MarkForm}
use Rattle.mark_word.specs.declared.mark.MarkForm.TheVariants.{Inflated}
use Rattle.mark_word.specs.declared.owner.OwnerForm.{OwnerForm}
use Rattle.mark_word.specs.declared.owner.OwnerForm.TheVariants.{Free, ByThread, ByRecord}
use Rattle.mark_word.specs.declared.wait.WaitForm.{WaitForm}
use Rattle.mark_word.specs.declared.wait.WaitForm.TheVariants as wait
use Rattle.mark_word.specs.Mark.{read_mark}
use Rattle.mark_word.specs.Owner.{read_owner}
use Rattle.mark_word.specs.Wait.{wait_of, read_wait}
use Rattle.plain_monitor.specs.declared.entry.Entry.{Entry}
use Rattle.plain_monitor.specs.declared.entry.Entry.TheVariants as entry
use Rattle.core_world.specs.declared.word_id.WordId.TheVariants.{Waiting, Owner}
use Rattle.core_world.specs.declared.stage.Stage.TheVariants.{Notifies}
use Rattle.core_world.specs.declared.answer.Progress.{Progress}
use Rattle.core_world.specs.declared.answer.Progress.TheVariants.{Done, Pending}
use Rattle.core_world.specs.declared.answer.PendingCause.{PendingCause}
use Rattle.core_world.specs.declared.answer.PendingCause.TheVariants as why
use Rattle.core_world.specs.Threads.ThreadView.{Local, StepMade}
use Rattle.core_world.specs.Trees.Plans.{CallContext, with_stage, store}
use Rattle.core_world.specs.Trees.StepTree.{done}
use Rattle.core_world.specs.Trees.MonitorSteps.{own_steps}
use Rattle.core_world.specs.Trees.WaitSteps.{monitor_wait_steps, resumed_steps, resume_owner_at, resume_mark_at, resume_at}
use Rattle.core_world.specs.Trees.WaitSteps.{monitor_resume_steps, look_steps, waiters, by_age, publish_steps, notify_first}
use Rattle.core_world.specs.Trees.WaitSteps.{monitor_notify_steps, notify_each, notify_listed, monitor_notify_all_steps}
use Rattle.core_calls.specs.Paths.{made, Always, Leaves}
use Rattle.core_calls.specs.Causes.{Found, Loaded, Caused, is_other_form, is_waiting_form}
use Rattle.core_calls.proofs.Paths.{always_then, either_way, Silent, Still, Logs, IsQuiet, still}
use Rattle.core_calls.proofs.Paths.{still_leaves, still_more, now_silent, now_logged, still_logged}
use Rattle.core_calls.proofs.Spends.{Spend, spend_done, spend_more, spend_each, quiet_step, of_call, spend_quietly}
use Rattle.core_calls.proofs.monitor.MonitorsSay.{own_spends}

module _ (e : CallContext) (k : Local) (o : ℕ) where
  -- the Wait is logged, and the operation goes on
  abbrev pub LetGo : List StepMade → ℕ → Type 0
  LetGo ms saved = Leaves (entry.Wait o ∷ []) e.unfinished e.check ms

  pub monitor_wait_says : (m : ℕ) (ms : List StepMade) → Still ms → Always LetGo ms (monitor_wait_steps e k o m)
  monitor_wait_says m ms h = λ owner.
      always_then (λ ms _. Silent e ms) LetGo (own_steps (read_owner owner) e k o m) _ _
      (spend_quietly _ (own_spends (read_owner owner) e k o m) (now_silent e _ owner ms refl refl refl refl h))
      (λ ms _ s recursions n w v x.
      let before = still_leaves _ n _ refl refl refl (still_leaves _ recursions ms refl refl refl s) in
      let logs = now_logged (entry.Wait o) e.unfinished e.check _ w _ refl refl refl refl (still before) in
      still_leaves _ x _ refl refl refl (still_leaves _ v _ refl refl refl logs))

module _ (e : CallContext) (t o : ℕ) (may_be : PendingCause → Bool) (notified : (word : ℕ) → may_be (why.NotNotified word) ≡ true)
    (owns : (word : ℕ) → may_be (why.Owned word) ≡ true) (es : List Entry) where
  -- after these entries, the Resume, or the cause
  abbrev pub ResumeProgress : List StepMade → Progress (Unit {0}) → Type 0
  ResumeProgress ms (Done x) = Leaves (es ++ entry.Resume o ∷ []) None e.check ms
  ResumeProgress ms (Pending why) = Leaves es e.unfinished e.check ms × Caused may_be t o why ms

  resumed_says : (saved m : ℕ) (ms : List StepMade) → Leaves es e.unfinished e.check ms → Always ResumeProgress ms (resumed_steps e t saved o m)
  resumed_says saved m ms h = λ n w v.
      let before = still_leaves _ w _ refl refl refl (still_leaves _ n ms refl refl refl h) in
      now_logged (entry.Resume o) None e.check _ v _ refl refl refl refl (still before)

  resume_owner_at_says : (form : Option OwnerForm) (saved m found : ℕ) (ms : List StepMade) → read_owner found ≡ form
      → Found (Owner m) found ms → Leaves es e.unfinished e.check ms → Always ResumeProgress ms (resume_owner_at form e t saved o m found)
  resume_owner_at_says (Some Free) saved m found ms is there h = resumed_says saved m ms h
  resume_owner_at_says (Some (ByThread thread)) saved m found ms is there h =
      either_way ResumeProgress ms (thread == t) _ _ (λ own. tt)
      (λ other. (h, record { among = owns found; cause = (m, ap (λ f. is_other_form f t) is ∙ ap not other, there) }))
  resume_owner_at_says (Some (ByRecord thread place)) saved m found ms is there h =
      either_way ResumeProgress ms (thread == t) _ _ (λ own. tt)
      (λ other. (h, record { among = owns found; cause = (m, ap (λ f. is_other_form f t) is ∙ ap not other, there) }))
  resume_owner_at_says None saved m found ms is there h = tt

  resume_mark_says : (form : Option MarkForm) (saved : ℕ) (ms : List StepMade)
      → Leaves es e.unfinished e.check ms → Always ResumeProgress ms (resume_mark_at form e t saved o)
  resume_mark_says (Some (Inflated m)) saved ms h =
      λ found. resume_owner_at_says (read_owner found) saved m found _ refl (inl (refl, refl)) (still_leaves _ found ms refl refl refl h)
  resume_mark_says _ saved ms h = tt

  resume_at_says : (form : Option WaitForm) (saved word : ℕ) (ms : List StepMade) → read_wait word ≡ form
      → Loaded (Waiting t) word ms → Leaves es e.unfinished e.check ms → Always ResumeProgress ms (resume_at form e t saved o word)
  resume_at_says (Some (wait.Waiting object stamp)) saved word ms is loaded h = (h, record { among = notified word; cause = (ap is_waiting_form is, loaded) })
  resume_at_says (Some (wait.Notified object)) saved word ms is loaded h =
      λ mark. resume_mark_says (read_mark mark) saved _ (still_leaves _ mark ms refl refl refl h)
  resume_at_says _ saved word ms is loaded h = tt

  pub monitor_resume_says : (saved : ℕ) (ms : List StepMade) → Logs es ms → Always ResumeProgress ms (monitor_resume_steps e t saved o)
  monitor_resume_says saved ms h =
      λ word. resume_at_says (read_wait word) saved word _ refl (inl (refl, refl, refl)) (still_logged _ word ms refl refl refl refl h)

-- all waiting words are looked at; there are as many as threads
pub look_spends : (e : CallContext) (n left : ℕ) → Spend (IsQuiet e) (λ words. length words + left) (n + n + left) (look_steps e n)
look_spends e n left =
    spend_more (omega arith) (spend_each {n = 1} 0 n left (λ t. quiet_step {n = 0} refl refl refl tt (λ _. of_call refl tt)
    (λ _. spend_done (omega arith))))

module _ (e : CallContext) (k : Local) where
  pub publish_says : (told : Entry) (ms : List StepMade) → Still ms → Always (λ ms _. Leaves (told ∷ []) None e.check ms) ms (publish_steps told e k)
  publish_says told ms h = λ n. now_logged told None e.check _ n ms refl refl refl refl h

  module _ (o : ℕ) where
    abbrev pub Notified : List StepMade → Option ℕ → Type 0
    Notified ms woken = Leaves (entry.Notify o woken ∷ []) None e.check ms

    notify_first_says : (waiting : List (ℕ × ℕ)) (ms : List StepMade) → Still ms → Always Notified ms (notify_first waiting e k o)
    notify_first_says [] ms h = publish_says (entry.Notify o None) ms h
    notify_first_says (p ∷ ps) ms h = λ n. now_logged _ None e.check _ n ms refl refl refl refl h

    pub monitor_notify_says : (n : ℕ) (ms : List StepMade) → Silent e ms → Always Notified ms (monitor_notify_steps e k n o)
    monitor_notify_says n ms h =
        always_then (λ ms _. Silent e ms) Notified (look_steps e n)
        (λ words. notify_first (by_age (waiters o 0 words)) e k o) ms (spend_quietly ms (look_spends e n 0) h)
        (λ ms words s. notify_first_says (by_age (waiters o 0 words)) ms (still s))

    abbrev pub AllNotified : List StepMade → ℕ → Type 0
    AllNotified ms woken = Leaves (entry.NotifyAll o woken ∷ []) None e.check ms

    -- the last of these steps logs how many were notified before it and with it
    notify_each_says : (p : ℕ × ℕ) (ps : List (ℕ × ℕ)) (told : ℕ) (ms : List StepMade) → Still ms
        → Always (λ ms _. AllNotified ms (told + length (p ∷ ps))) ms (notify_each (p ∷ ps) e o told)
    notify_each_says p [] told ms h = λ n. now_logged _ None e.check _ n ms refl refl refl refl h
    notify_each_says p (q ∷ ps) told ms h = λ n.
        subst (λ (all : ℕ). Always (λ ms _. AllNotified ms all) (made (with_stage (Notifies o (told + 1))
        (store e (Waiting p.0) (wait_of (wait.Notified o)))) n ∷ ms) (notify_each (q ∷ ps) e o (told + 1))) (omega arith) (notify_each_says q ps
        (told + 1) _ (still_more (with_stage (Notifies o (told + 1)) (store e (Waiting p.0) (wait_of (wait.Notified o)))) n ms refl h))

    notify_listed_says : (waiting : List (ℕ × ℕ)) (ms : List StepMade) → Still ms → Always AllNotified ms (notify_listed waiting e k o)
    notify_listed_says [] ms h = publish_says (entry.NotifyAll o 0) ms h
    notify_listed_says (p ∷ ps) ms h =
        always_then (λ ms _. AllNotified ms (0 + length (p ∷ ps))) AllNotified
        (notify_each (p ∷ ps) e o 0) (λ _. done (length (p ∷ ps))) ms (notify_each_says p ps 0 ms h)
        (λ ms _ so. subst (AllNotified ms) (omega arith) so)

    pub monitor_notify_all_says : (n : ℕ) (ms : List StepMade) → Silent e ms → Always AllNotified ms (monitor_notify_all_steps e k n o)
    monitor_notify_all_says n ms h =
        always_then (λ ms _. Silent e ms) AllNotified (look_steps e n)
        (λ words. notify_listed (by_age (waiters o 0 words)) e k o) ms (spend_quietly ms (look_spends e n 0) h)
        (λ ms words s. notify_listed_says (by_age (waiters o 0 words)) ms (still s))
