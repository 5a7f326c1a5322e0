-- Who is notified has a waiting word that says so; who waits by its word is in the wait set; and in a halted world another owns the object of each who
-- is notified.
use Rattle.core_locks.proofs.Prelude.{◌≡◌, ◌⊎◌, ℕ, ◌<◌, ◌≤◌, Bool, true, false, List, Option, Some, None, refl, sym, ap, ◌∙◌, subst, arith, inl, inr}
use Rattle.core_locks.proofs.Prelude.{same_Some, is_listed, PlainObject, Safepoint, Waiting, Settled, World, logs, monitor_of, waits_at, notified_at}
use Rattle.core_locks.proofs.Prelude.{Fits, Shape, Unfinished, sound, waiter_unnotified, listed_count, ends, by_equal, nat_lt, nat_tests, ThreadView}
use Rattle.plain_monitor.specs.History.{objects_after}
use Rattle.core_world.specs.declared.heap_call.Operation.TheVariants as op
use Rattle.core_world.specs.Clauses.Safepoints.{IsHeldUp, IsStuck, IsUnfinished}
use Rattle.core_world.specs.Threads.Stages.{notification_in}
use Rattle.core_world.specs.Words.Forms.{waits_on, says_notified, says_ended, notified_form, ended_form, is_halted, requester_in}
use Rattle.core_world.specs.Words.Shape.{IsInLimits}
use Rattle.mark_word.specs.Wait.{read_wait}
use Rattle.mark_word.specs.declared.wait.WaitForm.{WaitForm}
use Rattle.mark_word.specs.declared.wait.WaitForm.TheVariants as wait
use Rattle.core_world.specs.Valid.{IsValid, Valid}
use Rattle.core_world.proofs.RefusedWorlds.{revoking_logs}
use Rattle.core_world.proofs.bias.LookWhileRevoking.{forgotten}
use Rattle.core_law.specs.WholeLaw.{LawsHold, WhollyValid}
use Rattle.core_law.specs.Logic.{Heap}
use Rattle.core_law.specs.Reached.{IsReachable}
use Rattle.core_steps.proofs.ReachedWorlds.{reached_worlds_valid}
use Rattle.wake_ups.specs.WakeUps.{AreAfterLogs, IsTold, OwnedByAnother}
use Rattle.wake_ups.proofs.Untouched.{word_before}

-- one of two numbers is the smaller one, or it isn't
by_order : {P : Type 0} (a b : ℕ) → (a < b → P) → (b ≤ a → P) → P
by_order {P} a b f g = cases (nat_lt a b) refl
  where
    cases : (c : Bool) → nat_lt a b ≡ c → P
    cases true e = f (grind (arith, nat_tests, e))
    cases false e = g (grind (arith, nat_tests, e))

-- THE WORLD IN WHICH ALL CLAUSES HOLD: the world itself, or, while a bias is revoked, the one before the first store. Its logs and waiting words are
-- the same, and so is where its threads stand, unless they stand in the middle of nothing there.
record Reads (w : World) (P : List PlainObject) : Type 0 where
  pub view : World
  pub fits : Fits view P
  pub shape : w.shape ≡ view.shape
  pub logged : logs w ≡ logs view
  pub waiting : (t : ℕ) → w.words (Waiting t) ≡ view.words (Waiting t)
  pub safepoint : w.words Safepoint ≡ view.words Safepoint
  pub stage : (t : ℕ) → ((w.known t).stage ≡ (view.known t).stage) ⊎ ((view.known t).stage ≡ Settled)

within_heap : (w : World) (P : List PlainObject) (r : ℕ) → Fits w P → (w.known r).reached ≡ true → r < w.shape.threads
within_heap w P r fits reached =
    by_order r w.shape.threads (λ less. less)
    (λ far. let none = ap (λ (y : ThreadView). y.reached) (fits.absent r far) in absurd (cc (reached, none)))

reads : (w : World) (P : List PlainObject) → IsValid w P → Reads w P
reads w P (inl fits) = record {
  view = w;
  fits = fits;
  shape = refl;
  logged = refl;
  waiting = λ t. refl;
  safepoint = refl;
  stage = λ t. inl refl;
}
reads w P (inr s) = record {
  view = s.before;
  fits = s.fits;
  shape = s.shape;
  logged = revoking_logs w P s;
  waiting = λ t. word_before w P s (Waiting t) (within_heap s.before P s.requester s.fits s.reached) refl;
  safepoint = s.untouched;
  stage = λ t. by_equal t s.requester
      (λ e. inr (ap (λ u. (s.before.known u).stage) e ∙ s.was_calm))
      (λ d. inl (ap (λ (k : ThreadView). k.stage) (s.others t d)));
}

module _ (heap : Heap) (w : World) (objects : List PlainObject) (limits : IsInLimits heap.shape) (comes : IsReachable heap w)
    (history : AreAfterLogs w objects) where
  valid : WhollyValid w
  valid = reached_worlds_valid heap w limits comes

  abbrev read : Reads w valid.objects
  read = reads w valid.objects (forgotten LawsHold w valid.objects valid.is)

  abbrev v : World
  v = read.view

  same : valid.objects ≡ objects
  same =
      same_Some valid.objects objects
      (sym read.fits.taken
      ∙ ap (objects_after v.shape.objects) (sym read.logged)
      ∙ ap (λ (s : Shape). objects_after s.objects (logs w)) (sym read.shape)
      ∙ history)

  fits : Fits v objects
  fits = subst (Fits v) same read.fits

  pub notified_told : (t o : ℕ) → is_listed (notified_at objects o) t ≡ true → IsTold w t o
  notified_told t o listed = elim (fits.waits.notified t o listed) [
    | inl says ↦ inl (ap (λ n. says_notified n o) (read.waiting t) ∙ says)
    | inr (ready, resumes) ↦ elim (read.stage t) [
      | inl stage ↦ inr (read.waiting t ∙ ready, stage ∙ resumes)
      | inr calm ↦ absurd (cc (calm, resumes))
    ]
  ]

  pub waiter_listed : (t o : ℕ) → waits_on (w.words (Waiting t)) o ≡ true → is_listed (waits_at objects o) t ≡ true
  waiter_listed t o says = fits.waits.waiter t o (ap (λ n. waits_on n o) (sym (read.waiting t)) ∙ says)

  pub told_notified : (t o : ℕ) → says_notified (w.words (Waiting t)) o ≡ true → (is_listed (notified_at objects o) t ≡ true)
      ⊎ ((is_listed (waits_at objects o) t ≡ true) × ((u : ℕ) × (notification_in (w.known u).stage ≡ Some o)))
  told_notified t o says = elim (fits.waits.told t o (ap (λ n. says_notified n o) (sym (read.waiting t)) ∙ says)) [
    | inl called ↦ inl called
    | inr (waits, (u, tells)) ↦ elim (read.stage u) [
      | inl stage ↦ inr (waits, (u, ap notification_in stage ∙ tells))
      | inr calm ↦ absurd (cc (ap notification_in calm, tells))
    ]
  ]

  -- a thread has one operation unfinished at most
  one_wait : (t o i : ℕ) → IsUnfinished (v.known t).unfinished op.Wait o → IsUnfinished (v.known t).unfinished op.Wait i → i ≡ o
  one_wait t o i a b = let e = same_Some _ _ (sym a ∙ b) in sym (ap (λ (u : Unfinished). u.object) e)

  -- in a halted world
  module _ (halted : is_halted (w.words Safepoint) ≡ true) where
    still : (requester_in (v.words Safepoint) ≡ None) × ((u : ℕ) → (v.known u).running ≡ false)
        × IsStuck v.shape.threads (λ t. ends (v.known t).log) (λ t. (v.known t).unfinished) (monitor_of objects)
    still = fits.safe.still (ap is_halted (sym read.safepoint) ∙ halted)

    says : (t o : ℕ) → is_listed (notified_at objects o) t ≡ true → says_notified (v.words (Waiting t)) o ≡ true
    says t o listed = elim (fits.waits.notified t o listed) [
      | inl b ↦ b
      | inr (ready, resumes) ↦ elim (fits.quiet.quiet t (still.1 t)) [
        | inl calm ↦ absurd (cc (calm, resumes))
        | inr (reached, (i, takes)) ↦ absurd (cc (takes, resumes))
      ]
    ]

    no_end : (n o : ℕ) → says_notified n o ≡ true → says_ended n ≡ true → ⊥
    no_end n o a b = forms (read_wait n) a b
      where
        forms : (f : Option WaitForm) → notified_form f o ≡ true → ended_form f ≡ true → ⊥
        forms (Some (wait.Notified i)) a b = absurd (cc b)
        forms _ a b = absurd (cc a)

    not_ended : (t o : ℕ) → is_listed (notified_at objects o) t ≡ true → ends (v.known t).log ≡ false
    not_ended t o listed = cases (ends (v.known t).log) refl
      where
        cases : (b : Bool) → ends (v.known t).log ≡ b → b ≡ false
        cases false e = refl
        cases true e = absurd (no_end (v.words (Waiting t)) o (says t o listed) (fits.waits.stopped t e (still.1 t)))

    there : (t o : ℕ) → is_listed (notified_at objects o) t ≡ true → t < v.shape.threads
    there t o listed = by_order t v.shape.threads (λ less. less)
        (λ far.
        let none = ap (λ (y : ThreadView). y.unfinished) (fits.absent t far) in
        let some = fits.waits.unfinished t o (inr listed) in
        absurd (cc (none, some)))

    once : (t o : ℕ) → is_listed (notified_at objects o) t ≡ true → is_listed (waits_at objects o) t ≡ true → ⊥
    once t o listed waits =
        let none = waiter_unnotified (monitor_of objects o) t (sound v objects fits o) waits in
        let some = listed_count (monitor_of objects o).called t (sound v objects fits o).called listed in
        absurd (omega (arith, none, some))

    pub faces_another : (t o : ℕ) → is_listed (notified_at objects o) t ≡ true → OwnedByAnother objects o t
    faces_another t o listed = by_held (still.2.1 t (there t o listed) (not_ended t o listed))
      where
        mine : IsUnfinished (v.known t).unfinished op.Wait o
        mine = fits.waits.unfinished t o (inr listed)

        by_held : IsHeldUp (monitor_of objects) t (v.known t).unfinished → OwnedByAnother objects o t
        by_held (i, inl waits) =
            let e = one_wait t o i mine (fits.waits.unfinished t i (inl waits)) in
            absurd (once t o listed (subst (λ j. is_listed (waits_at objects j) t ≡ true) e waits))
        by_held (i, inr (inl called, another)) =
            let e = one_wait t o i mine (fits.waits.unfinished t i (inr called)) in
            subst (λ j. OwnedByAnother objects j t) e another
        by_held (i, inr (inr enters, another)) =
            let e = same_Some _ _ (sym mine ∙ enters) in
            let differ = ap (λ (u : Unfinished). u.op) e in
            absurd (cc differ)

pub notified_are_told : (heap : Heap) (w : World) (objects : List PlainObject) (t o : ℕ) → IsInLimits heap.shape → IsReachable heap w
    → AreAfterLogs w objects
    → is_listed (notified_at objects o) t ≡ true → IsTold w t o
notified_are_told heap w objects t o limits comes history = notified_told heap w objects limits comes history t o

pub waiters_are_listed : (heap : Heap) (w : World) (objects : List PlainObject) (t o : ℕ) → IsInLimits heap.shape → IsReachable heap w
    → AreAfterLogs w objects
    → waits_on (w.words (Waiting t)) o ≡ true → is_listed (waits_at objects o) t ≡ true
waiters_are_listed heap w objects t o limits comes history = waiter_listed heap w objects limits comes history t o

pub told_are_notified : (heap : Heap) (w : World) (objects : List PlainObject) (t o : ℕ) → IsInLimits heap.shape → IsReachable heap w
    → AreAfterLogs w objects
    → says_notified (w.words (Waiting t)) o ≡ true → (is_listed (notified_at objects o) t ≡ true)
    ⊎ ((is_listed (waits_at objects o) t ≡ true) × ((u : ℕ) × (notification_in (w.known u).stage ≡ Some o)))
told_are_notified heap w objects t o limits comes history = told_notified heap w objects limits comes history t o

pub halted_face_another : (heap : Heap) (w : World) (objects : List PlainObject) (t o : ℕ) → IsInLimits heap.shape → IsReachable heap w
    → AreAfterLogs w objects
    → is_halted (w.words Safepoint) ≡ true → is_listed (notified_at objects o) t ≡ true → OwnedByAnother objects o t
halted_face_another heap w objects t o limits comes history halted = faces_another heap w objects limits comes history halted t o

-- A NOTIFY THAT STORES NOTHING: who waits isn't notified too
pub no_lost_notify : (w : World) (v : Valid w) (t o : ℕ) → is_listed (notified_at v.objects o) t ≡ true
    → waits_on (w.words (Waiting t)) o ≡ true → ⊥
no_lost_notify w v t o called waits =
    let r = reads w v.objects v.is in
    let waits_before : waits_on (r.view.words (Waiting t)) o ≡ true = ap (λ n. waits_on n o) (sym (r.waiting t)) ∙ waits in
    let none = waiter_unnotified (monitor_of v.objects o) t (sound r.view v.objects r.fits o) (r.fits.waits.waiter t o waits_before) in
    let some = listed_count (monitor_of v.objects o).called t (sound r.view v.objects r.fits o).called called in
    absurd (omega (arith, none, some))
