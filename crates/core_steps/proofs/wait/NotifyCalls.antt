-- Notify and notifyAll begin well.
use Rattle.std.proofs.Common.{◌≡◌, ℕ, ◌≤◌, ◌==◌, ◌&&◌, true, false, Option, Some, None, refl, sym, ap, ◌∙◌, subst, inl, inr}
use Rattle.mark_word.specs.declared.mark.MarkForm.{MarkForm}
use Rattle.mark_word.specs.declared.mark.MarkForm.TheVariants.{Inflating, Neutral, Anonymous, Biased, Locked, Inflated, Marked}
use Rattle.mark_word.specs.Mark.{read_mark}
use Rattle.plain_monitor.specs.declared.entry.Entry.TheVariants as entry
use Rattle.core_world.specs.declared.answer.Progress.{Progress}
use Rattle.core_world.specs.declared.word_id.WordId.TheVariants as id
use Rattle.core_world.specs.declared.stage.Stage.TheVariants.{Settled}
use Rattle.core_world.specs.declared.heap_call.Operation.{Operation}
use Rattle.core_world.specs.declared.heap_call.Operation.TheVariants as op
use Rattle.core_world.specs.declared.heap_call.HeapCall.TheVariants.{Notify, NotifyAll}
use Rattle.core_world.specs.Threads.AtRest.{AtRest, MayAsk, MayRevoke}
use Rattle.core_world.specs.Trees.Calls.{steps_of, may_begin, may_operate}
use Rattle.core_world.specs.Threads.References.{has_reference, has_object}
use Rattle.core_world.specs.Words.Forms.{is_biased, is_biased_form, monitor_form, says_notified}
use Rattle.core_world.specs.Threads.ThreadView.{ThreadView, local_of, start_of, last_seen}
use Rattle.core_world.specs.Locks.{hold_count}
use Rattle.core_world.specs.Trees.Operations.{answer, and_then, goes_on_with, no_bias, unbias_steps, notify_at, notify_going, notify_all_at, notify_all_going}
use Rattle.core_world.specs.Trees.Plans.{CallContext, call_context, load, done_with}
use Rattle.core_world.specs.Clauses.Safepoints.{IsUnfinished}
use Rattle.core_world.specs.Steps.{known_hit}
use Rattle.core_world.specs.Trees.StepTree.{StepTree, ask, ◌>>=◌}
use Rattle.core_world.specs.Valid.{RevokesWithin}
use Rattle.core_world.specs.Trees.WaitSteps.{monitor_notify_steps, monitor_notify_all_steps}
use Rattle.core_world.specs.Clauses.WordForms.{IsMark}
use Rattle.core_world.proofs.enter_exit.OwnersShown.{lock_by_form}
use Rattle.core_locks.specs.Knowing.{IsOut, IsOwnEntry}
use Rattle.core_locks.specs.JournalLaws.{SawNobody}
use Rattle.core_locks.proofs.WaitOut.{ready_is_out}
use Rattle.bias_law.specs.Steps.{SawUnbiased}
use Rattle.core_law.specs.Logic.{Heap, SoundWorldWith, Does}
use Rattle.core_law.specs.Sound.{Finishes}
use Rattle.core_law.specs.Begins.{BeginsWell}
use Rattle.core_steps.proofs.WorksOn.{MayWorkOn}
use Rattle.core_steps.proofs.Looks.{looks_running}
use Rattle.core_steps.proofs.enter_exit.ExitFacts.{unopen}
use Rattle.core_law.proofs.Standing.{fits_here, away}
use Rattle.core_steps.proofs.monitor.Inflations.{form_found}
use Rattle.core_steps.proofs.safepoint.SafeCalls.{closes}
use Rattle.core_steps.proofs.safepoint.SafepointLooks.{going}
use Rattle.core_steps.proofs.SeenSteps.{saw_newest}
use Rattle.core_steps.proofs.enter_exit.StackExits.{unbiased_here}
use Rattle.core_steps.proofs.wait.Tellings.{IsTelling, telling_of, Telling, telling_ready, telling_rests}
use Rattle.core_steps.proofs.wait.Tellings.{publishes_does, monitor_notify_does, monitor_notify_all_does}
use Rattle.core_steps.proofs.Tests.{both, some_named, operates, refers}
use Rattle.core_steps.proofs.Trees.{answers, binds, chooses, follows, hitting}
use Rattle.core_steps.proofs.bias.Unbiases.{unbias_does, starts_unbias}

module _ (heap : Heap) (e : CallContext) (o : ℕ) where
  -- what the thread counts on, and the mark that it has found: one that isn't neutral, since it holds the object
  record Finds (k : ThreadView) (mark : ℕ) : Type 0 where
    tells : Telling heap e o k
    calm : k.stage ≡ Settled
    saw : last_seen (id.Mark o) k.seen ≡ Some mark
    form : IsMark heap.shape (read_mark mark)
    unbiased : is_biased mark ≡ false
    held : (hash age : ℕ) → read_mark mark ≡ Some (Neutral hash age) → ⊥

  held_unfree : (k : ThreadView) (v : SoundWorldWith heap k) (mark hash age : ℕ) → Telling heap e o k → k.stage ≡ Settled → v.world.words (id.Mark o) ≡ mark
      → read_mark mark ≡ Some (Neutral hash age) → ⊥
  held_unfree k v mark hash age x calm found reads =
      unopen v.world v.objects k.thread o (fits_here heap k v x.runs) (away heap k v (λ s y. y.stage ≡ Settled) calm)
      (away heap k v (λ s y. IsOut y) (ready_is_out k (telling_ready heap e o k x v))) (away heap k v (λ s y. 1 ≤ hold_count o y.holds) x.holds)
      (lock_by_form v.world o (Neutral hash age) (ap read_mark found ∙ reads))

  finds : (k : ThreadView) (x : Telling heap e o k) → k.stage ≡ Settled → SawUnbiased k o
      → (mark : ℕ) (v : SoundWorldWith heap k) → v.world.words (id.Mark o) ≡ mark
      → Finds (known_hit heap.shape heap.start (load e (id.Mark o)) mark k) mark
  finds k x calm unbiased mark v found =
      let still : is_biased mark ≡ false = ap is_biased (sym found) ∙ unbiased_here heap false k o v x.runs (inr (refl, unbiased)) in record {
        tells = record {
          works = x.works;
          holds = x.holds;
          mine = refl;
          check = refl;
          untold = x.untold;
          telling = x.telling;
          unbiased = (mark, saw_newest heap (load e (id.Mark o)) mark k, still);
        };
        calm = refl;
        saw = saw_newest heap (load e (id.Mark o)) mark k;
        form = form_found heap e o k mark v x.runs found;
        unbiased = still;
        held = λ hash age reads. held_unfree k v mark hash age x calm found reads;
      }

  -- BY THE FORM of the mark: it is being inflated, or names a record, or a monitor
  by_form : {A : Type 0} (steps : Option MarkForm → StepTree (Progress A)) (f : Option MarkForm) (k : ThreadView) (mark : ℕ) → Finds k mark → read_mark mark ≡ f
      → Does heap false (steps (Some Inflating)) k (λ b r l. AtRest heap.shape l)
      → ((t p : ℕ) → SawNobody heap.shape.threads k o → Does heap false (steps (Some (Locked t p))) k (λ b r l. AtRest heap.shape l))
      → ((m : ℕ) → Does heap false (steps (Some (Inflated m))) k (λ b r l. AtRest heap.shape l)) → Does heap false (steps f) k (λ b r l. AtRest heap.shape l)
  by_form steps None k mark x reads inflating locked inflated = absurd (subst (IsMark heap.shape) reads x.form)
  by_form steps (Some Inflating) k mark x reads inflating locked inflated = inflating
  by_form steps (Some (Neutral hash age)) k mark x reads inflating locked inflated = absurd (x.held hash age reads)
  by_form steps (Some (Anonymous epoch age)) k mark x reads inflating locked inflated =
      let some = ap is_biased_form reads in let none = x.unbiased in absurd (cc (some, none))
  by_form steps (Some (Biased t epoch age)) k mark x reads inflating locked inflated =
      let some = ap is_biased_form reads in let none = x.unbiased in absurd (cc (some, none))
  by_form steps (Some (Locked t p)) k mark x reads inflating locked inflated = locked t p (inl (mark, x.saw, ap monitor_form reads))
  by_form steps (Some (Inflated m)) k mark x reads inflating locked inflated = inflated m
  by_form steps (Some Marked) k mark x reads inflating locked inflated = absurd (subst (IsMark heap.shape) reads x.form)

  notify_at_does : (k : ThreadView) (mark : ℕ) → Finds k mark → IsUnfinished e.unfinished op.Notify o
      → Does heap false (notify_at (read_mark mark) heap.shape e (local_of k) o) k (λ b r l. AtRest heap.shape l)
  notify_at_does k mark x notifies =
      let own : IsOwnEntry k (entry.Notify o None) = record { operation = inr (x.tells.mine ∙ notifies); shot = tt } in
      by_form (λ f. notify_at f heap.shape e (local_of k) o) (read_mark mark) k mark x refl
      (answers heap false _ k _ (telling_rests heap e o k x.tells x.calm))
      (λ t p nobody. publishes_does heap e o _ (entry.Notify o None) k x.tells x.calm
      (x.tells.holds, record { within = x.tells.object; known = x.tells.known }, nobody) own (mark, x.saw, x.unbiased) refl tt)
      (λ m. going heap (monitor_notify_steps e (local_of k) heap.shape.threads o) done_with k _ (
      follows heap false _ k _ _ (monitor_notify_does heap e o k x.tells x.calm notifies) (λ b r l rest. answers heap false _ l _ rest)))

  notify_all_at_does : (k : ThreadView) (mark : ℕ) → Finds k mark → IsUnfinished e.unfinished op.NotifyAll o
      → Does heap false (notify_all_at (read_mark mark) heap.shape e (local_of k) o) k (λ b r l. AtRest heap.shape l)
  notify_all_at_does k mark x notifies =
      let own : IsOwnEntry k (entry.NotifyAll o 0) = record { operation = inr (x.tells.mine ∙ notifies); shot = tt } in
      by_form (λ f. notify_all_at f heap.shape e (local_of k) o) (read_mark mark) k mark x refl
      (answers heap false _ k _ (telling_rests heap e o k x.tells x.calm))
      (λ t p nobody. publishes_does heap e o _ (entry.NotifyAll o 0) k x.tells x.calm
      (x.tells.holds, record { within = x.tells.object; known = x.tells.known }, nobody, refl) own (mark, x.saw, x.unbiased) refl tt)
      (λ m. going heap (monitor_notify_all_steps e (local_of k) heap.shape.threads o) done_with k _ (
      follows heap false _ k _ _ (monitor_notify_all_does heap e o k x.tells x.calm notifies) (λ b r l rest. answers heap false _ l _ rest)))

-- THE CALLS. An operation of this kind, by what it does where it has found the mark
module _ (heap : Heap) (k : ThreadView) (o now : ℕ) (rest : AtRest heap.shape k) where
  tells_does : {A : Type 0} (a : Operation) (e : CallContext) (steps : Option MarkForm → StepTree (Progress A))
      → IsUnfinished e.unfinished a o → e.check ≡ false
      → IsTelling e.unfinished → has_object a ≡ true
      → (MayAsk heap.shape k (Some (record { op = a; object = o })) → MayRevoke heap.shape k o) → RevokesWithin a false → (a ≡ op.Wait → ⊥)
      → (has_reference heap.shape k o && may_operate k (goes_on_with a o k.unfinished)) ≡ true → (hold_count o k.holds == 0) ≡ false
      → ((l : ThreadView) (mark : ℕ) → local_of l ≡ local_of k → Finds heap e o l mark
      → Does heap false (steps (read_mark mark)) l (λ b r y. AtRest heap.shape y))
      → Does heap true (unbias_steps heap.shape e (start_of heap.start k) (no_bias o now)
      >>= (λ progress. and_then progress (λ u. ask (load e (id.Mark o)) >>= (λ mark. steps (read_mark mark))))) k (λ b r l. AtRest heap.shape l)
  tells_does a e steps is unchecks telling on_object saw allowed no_wait may some then_so =
      let m = both (has_reference heap.shape k o) (may_operate k (goes_on_with a o k.unfinished)) may in
      let operates_here = operates k (goes_on_with a o k.unfinished) m.1 in
      let reference = refers heap.shape k o m.0 in
      let may_work : MayWorkOn heap k.log e o =
      record { unchecks = unchecks; live = operates_here.live; room = operates_here.room; object = reference.within; known = reference.known } in
      let look = load e (id.Mark o) in
      binds heap true (unbias_steps heap.shape e (start_of heap.start k) (no_bias o now))
      (λ progress. and_then progress (λ u. ask look >>= (λ mark. steps (read_mark mark)))) k _ (
      unbias_does heap e (no_bias o now) a is allowed refl reference.within unchecks k
      (starts_unbias heap e (no_bias o now) a k is unchecks rest operates_here reference.known on_object telling.unentering telling.undumped saw
      (λ waits. absurd (no_wait waits)) (inr (some_named (hold_count o k.holds) some))) _
      (record {
        unbiased = λ l x bare.
            let tells : Telling heap e o l = record {
              works = record {
                may = subst (λ z. MayWorkOn heap z.log e o) (sym x.local) may_work;
                runs = x.runs;
                unasks = x.unasks;
                still = x.still;
              };
              holds = subst (λ z. 1 ≤ hold_count o z.holds) (sym x.local) (some_named (hold_count o k.holds) some);
              mine = x.mine;
              check = x.check;
              untold = λ i. ap (λ z. says_notified z.wait i) x.local ∙ rest.untold i;
              telling = telling;
              unbiased = bare;
            } in
            hitting heap false look _ l _ (λ n. refl) (λ i. looks_running heap l e Settled (id.Mark o) refl x.runs (sym x.calm) x.check (inl (sym x.mine))
            (λ v. reference.within) (inl (sym x.mine)) (λ free. tells.known)) (λ mark i was.
            then_so (known_hit heap.shape heap.start look mark l) mark x.local (finds heap e o l tells x.calm bare mark was.stands was.found));
        pends = λ f l w x. answers heap f _ l _ x;
      }))

  notify_finishes : may_begin heap.shape heap.biasing k (Notify o now) ≡ true
      → Finishes heap true (steps_of heap.shape (Notify o now) (start_of heap.start k)) k
  unfolding steps_of
  notify_finishes may =
      let e = call_context (Notify o now) op.Notify o in
      closes heap true _ k (
      chooses heap true (hold_count o k.holds == 0) _ _ k _ (λ h. answers heap true _ k _ rest) (λ h.
      binds heap true (notify_going heap.shape e (start_of heap.start k) o now) answer k _ (
      follows heap true _ k _ _
      (tells_does op.Notify e (λ f. notify_at f heap.shape e (local_of k) o) refl refl
      (telling_of op.Notify o refl refl refl) refl (λ z. z) refl (λ z. cc z) may h (λ l mark same x.
      subst (λ z. Does heap false (notify_at (read_mark mark) heap.shape e z o) l (λ b r y. AtRest heap.shape y)) same (notify_at_does heap e o l mark x refl)))
      (λ b r l x. answers heap b _ l _ x))))

  notify_all_finishes : may_begin heap.shape heap.biasing k (NotifyAll o now) ≡ true
      → Finishes heap true (steps_of heap.shape (NotifyAll o now) (start_of heap.start k)) k
  unfolding steps_of
  notify_all_finishes may =
      let e = call_context (NotifyAll o now) op.NotifyAll o in
      closes heap true _ k (
      chooses heap true (hold_count o k.holds == 0) _ _ k _ (λ h. answers heap true _ k _ rest) (λ h.
      binds heap true (notify_all_going heap.shape e (start_of heap.start k) o now) answer k _ (
      follows heap true _ k _ _
      (tells_does op.NotifyAll e (λ f. notify_all_at f heap.shape e (local_of k) o) refl refl
      (telling_of op.NotifyAll o refl refl refl) refl (λ z. z) refl (λ z. cc z) may h (λ l mark same x.
      subst (λ z. Does heap false (notify_all_at (read_mark mark) heap.shape e z o) l (λ b r y. AtRest heap.shape y)) same
      (notify_all_at_does heap e o l mark x refl)))
      (λ b r l x. answers heap b _ l _ x))))

module _ (heap : Heap) (o now : ℕ) where
  pub notify_begins : BeginsWell heap (Notify o now)
  notify_begins = record { does = λ k v rest may. notify_finishes heap k o now rest may }

  pub notify_all_begins : BeginsWell heap (NotifyAll o now)
  notify_all_begins = record { does = λ k v rest may. notify_all_finishes heap k o now rest may }
