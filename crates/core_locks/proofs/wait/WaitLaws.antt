-- What a thread says in its own waiting word: that it is ready, that it enters an object, and that it has ended.
use Rattle.core_locks.proofs.Prelude.{◌≡◌, ◌⊎◌, ℕ, ◌<◌, true, false, List, Option, Some, refl, sym, ap, ◌∙◌, subst, arith, inl, inr}
use Rattle.core_locks.proofs.Prelude.{eqb-true, same_Some, wait_of, read_wait, Ready, Entering, Ended, read_wait-wait_of, is_listed}
use Rattle.core_locks.proofs.Prelude.{PlainObject, Path, Waiting, Settled, Enters, Resumes, monitor_in, waits_form, ended_form}
use Rattle.core_locks.proofs.Prelude.{notified_form, enters_form, World, marks, monitor_of, waits_at, notified_at, CallContext, with_stage}
use Rattle.core_locks.proofs.Prelude.{store, world_after, Fits, IsUnfinished, Unfinished, IsWait, no_entering, no_ended, no_wait}
use Rattle.core_locks.proofs.Prelude.{no_told, wait_zero, sound, listed_count, waiter_unnotified, fits_running, IsOut, MayBeReady}
use Rattle.core_locks.proofs.Prelude.{MayStand, MayEnd, KeepsValid, store_ended_plan, store_entering_plan, store_ready_plan}
use Rattle.core_world.specs.declared.heap_call.Operation.{Operation}
use Rattle.core_world.specs.declared.heap_call.Operation.TheVariants as op
use Rattle.core_locks.proofs.enter_exit.HoldWays.{saw_inflated}
use Rattle.core_locks.proofs.WaitOut.{fails, out_unlisted}
use Rattle.core_locks.proofs.wait.WaitStores.{MaySay, said_fits}

-- one operation is unfinished, and so on one object
one_object : (unfinished : Option Unfinished) (op : Operation) (o i : ℕ) → IsUnfinished unfinished op o → IsUnfinished unfinished op i → o ≡ i
one_object unfinished op o i here there = ap (λ (u : Unfinished). u.object) (same_Some _ _ (sym here ∙ there))

module _ (w : World) (P : List PlainObject) (t : ℕ) (v : Fits w P) where
  -- a thread that has the lock again after a wait on o was notified at no other object
  resumes_there : (o i : ℕ) → (w.known t).stage ≡ Resumes o → is_listed (notified_at P i) t ≡ true → o ≡ i
  resumes_there o i stage called =
      one_object (w.known t).unfinished op.Wait o i (v.waits.unfinished t o (inr (v.waits.resuming t o stage))) (v.waits.unfinished t i (inr called))

  -- and waits nowhere: not at o, where it was notified, and nowhere else, since o is what it has unfinished
  resumes_unlisted : (o i : ℕ) → (w.known t).stage ≡ Resumes o → is_listed (waits_at P i) t ≡ false
  resumes_unlisted o i stage = fails _ (λ waits.
      let called = v.waits.resuming t o stage in
      let same = one_object (w.known t).unfinished op.Wait i o (v.waits.unfinished t i (inl waits)) (v.waits.unfinished t o (inr called)) in
      let none = waiter_unnotified (monitor_of P o) t (sound w P v o) (subst (λ j. is_listed (waits_at P j) t ≡ true) same waits) in
      let some = listed_count (notified_at P o) t (sound w P v o).called called in
      absurd (omega (arith, none, some)))

  -- a thread that may say that it is ready waits nowhere, and was notified where it resumes alone
  ready_lists : (IsOut (w.known t) × ((o p : ℕ) × ((path : Path) × ((w.known t).stage ≡ Enters o p path))))
      ⊎ ((o : ℕ) × ((w.known t).stage ≡ Resumes o)) → (i : ℕ)
      → (is_listed (waits_at P i) t ≡ false) × (is_listed (notified_at P i) t ≡ true → (w.known t).stage ≡ Resumes i)
  ready_lists (inl a) i =
      let enters = a.1.2.1 in
      let outside = out_unlisted w P t v a.0 (λ j stage. absurd (cc (enters, stage))) i in
      let uncalled = outside.1 in (outside.0, λ called. absurd (cc (uncalled, called)))
  ready_lists (inr a) i = (resumes_unlisted a.0 i a.1, λ called. a.1 ∙ ap Resumes (resumes_there a.0 i a.1 called))

  -- where the thread says that it is ready
  ready : (e : CallContext) → MayBeReady (w.known t) e → MaySay w P t e 0
  ready e may = record {
    runs = may.runs;
    goes_on = may.goes_on;
    unlisted = λ o. (ready_lists may.before o).0;
    called = λ o h. (refl, (ready_lists may.before o).1 h);
    form = rw wait_zero tt;
    unwaiting = no_wait;
    untold = no_told;
    entering = λ o h. absurd (cc (h, no_entering o));
    ended = λ h. absurd (cc (h, no_ended));
  }

-- the stores of Ready
pub ready_valid : (e : CallContext) → KeepsValid (λ w t. MayBeReady (w.known t) e) (λ w t. store_ready_plan e (w.known t).stage t)
ready_valid e w P t within may valid =
    let v = fits_running w P t may.runs valid in inl (said_fits w P t e (wait_of Ready) within (ready w P t v e may) v)

-- what a thread says that stands calm, and waits and was notified nowhere
calm_says : (w : World) (P : List PlainObject) (t : ℕ) (e : CallContext) (word : ℕ)
    → t < w.shape.threads → (w.known t).stage ≡ Settled → Fits w P → MaySay w P t e word
    → Fits (world_after (store e (Waiting t) word) t w) P
calm_says w P t e word within calm v may =
    subst (λ stage. Fits (world_after (with_stage stage (store e (Waiting t) word)) t w) P) calm (said_fits w P t e word within may v)

module _ (w : World) (P : List PlainObject) (t : ℕ) (e : CallContext) (o m : ℕ) (may : MayStand w.shape (w.known t) e o m) (v : Fits w P) where
  -- the number of the object fits into the word
  read : read_wait (wait_of (Entering o)) ≡ Some (Entering o)
  read = let few = v.limits.objects in read_wait-wait_of (Entering o) (omega (arith, few, may.object.within))

  outside : (i : ℕ) → (is_listed (waits_at P i) t ≡ false) × (is_listed (notified_at P i) t ≡ false)
  outside = out_unlisted w P t v may.out (λ i stage. absurd (cc (stage, may.calm)))

  -- where the thread says that it enters the object
  enters : MaySay w P t e (wait_of (Entering o))
  enters = record {
    runs = may.runs;
    goes_on = inl may.goes_on;
    unlisted = λ i. (outside i).0;
    called = λ i h. let not = (outside i).1 in absurd (cc (not, h));
    form = subst (IsWait w.shape) (sym read) may.object.within;
    unwaiting = λ i. ap (λ f. waits_form f i) read;
    untold = λ i. ap (λ f. notified_form f i) read;
    entering = λ i h.
        let same : o ≡ i = eqb-true o i (sym (ap (λ f. enters_form f i) read) ∙ h) in
        subst (λ j. IsUnfinished e.unfinished op.Enter j × ((m : ℕ) × (monitor_in (marks w j) ≡ Some m))) same
        (may.enters, (m, saw_inflated w P t o may.runs v m may.inflated));
    ended = λ h. let not = ap ended_form read in absurd (cc (not, h));
  }

pub entering_valid : (e : CallContext) (o m : ℕ) → KeepsValid (λ w t. MayStand w.shape (w.known t) e o m) (λ w t. store_entering_plan e t o)
entering_valid e o m w P t within may valid =
    let v = fits_running w P t may.runs valid in inl (calm_says w P t e (wait_of (Entering o)) within may.calm v (enters w P t e o m may v))

-- the word 4 says nothing of an object
wait_four : read_wait (wait_of Ended) ≡ Some Ended
wait_four = read_wait-wait_of Ended tt

-- where the thread says that it has ended
ends_there : (w : World) (P : List PlainObject) (t : ℕ) (e : CallContext) → MayEnd (w.known t) e → Fits w P → MaySay w P t e (wait_of Ended)
ends_there w P t e may v =
    let outside = out_unlisted w P t v may.out (λ i stage. absurd (cc (stage, may.calm))) in
    record {
      runs = may.runs;
      goes_on = inl may.goes_on;
      unlisted = λ i. (outside i).0;
      called = λ i h. let not = (outside i).1 in absurd (cc (not, h));
      form = subst (IsWait w.shape) (sym wait_four) tt;
      unwaiting = λ i. ap (λ f. waits_form f i) wait_four;
      untold = λ i. ap (λ f. notified_form f i) wait_four;
      entering = λ i h. let not = ap (λ f. enters_form f i) wait_four in absurd (cc (not, h));
      ended = λ h. may.ended;
    }

pub ended_valid : (e : CallContext) → KeepsValid (λ w t. MayEnd (w.known t) e) (λ w t. store_ended_plan e t)
ended_valid e w P t within may valid =
    let v = fits_running w P t may.runs valid in inl (calm_says w P t e (wait_of Ended) within may.calm v (ends_there w P t e may v))
