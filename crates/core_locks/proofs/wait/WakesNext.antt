-- An owner that tells all who wait tells one of several.
use Rattle.core_locks.proofs.Prelude.{◌≡◌, ℕ, suc, ◌+◌, ◌<◌, ◌==◌, ne_eqb, Bool, false, cond, List, refl, sym, ap, ◌∙◌, subst}
use Rattle.core_locks.proofs.Prelude.{arith, inl, inr, wait_of, Notified, PlainObject, Waiting, StepPlan, Notifies, waits_on}
use Rattle.core_locks.proofs.Prelude.{inflation_in, with_word, ThreadView, World, waits_at, CallContext, world_after, known_hit}
use Rattle.core_locks.proofs.Prelude.{Fits, AreNotified, header_stays, fits_running, KeepsValid, MayWakeNext, wake_next_plan}
use Rattle.core_locks.proofs.Clauses.{kept_parts, parts_stand, seen, forms, quiet, holds, owners, records, recursions, waits, AllHold}
use Rattle.core_locks.proofs.Steps.{turning, IsStep, next, step_fits, seen_next, quiet_next, quiet_step}
use Rattle.core_locks.proofs.OwnSeen.{own_seen}
use Rattle.core_locks.proofs.wait.TellLists.{told_or_waits}
use Rattle.core_locks.proofs.wait.WaitStores.{sorted_stays}
use Rattle.core_locks.proofs.wait.WakeForms.{wait_forms, uncounted, held}
use Rattle.core_locks.proofs.wait.Wakes.{IsCalmOrNotifies, at_still, IsWoken, still, other, word_unwaiting, at, told_more, waited, called_told}
use Rattle.core_locks.proofs.wait.Wakes.{told_was, inflates_same, holds_law, owners_law, records_law, recursions_law, waits_law}

module _ (w : World) (P : List PlainObject) (t : ℕ) (e : CallContext) (o u n : ℕ)
    (within : t < w.shape.threads) (may : MayWakeNext w.shape (w.known t) e o u n) (v : Fits w P) where
  abbrev plan : StepPlan
  plan = wake_next_plan e o u (n + 1)

  abbrev l : ThreadView
  l = known_hit w.shape w.start plan (w.words (Waiting u)) (w.known t)

  abbrev g : ℕ → ℕ
  g = λ z. with_word (Waiting u) (wait_of (Notified o)) w.words (Waiting z)

  now : IsCalmOrNotifies l.stage
  now = inr (o, n + 1, refl)

  -- the plain objects are the same: it is telling all
  woken : IsWoken P P o g (Notifies o (n + 1))
  woken = record {
    waits_else = λ i d. refl;
    called_else = λ i d. refl;
    back = λ z h. h;
    waiting = λ z h. elim (told_or_waits g o (suc n) (waits_at P o) z (told_more w P t o u n within may.wakes v) h) [ inl b ↦ inl b | inr b ↦ inr (b, refl) ];
    waiter = λ z h. v.waits.waiter z o (ap (λ y. waits_on y o) (waited w P t o u n within may.wakes v z o h) ∙ h);
    notified = λ z h. called_told w P t o u n within may.wakes v z h;
    told = λ z h. elim (told_was w P t o u n within may.wakes v z h) [ inl b ↦ inl b | inr b ↦ inr (b, refl) ];
    telling = λ i m h.
        let object : o ≡ i = cc h in
        let number : n + 1 ≡ m = cc h in (
          sym object,
          subst (λ k. AreNotified g o k (waits_at P o))
              (let k : suc n ≡ n + 1 = omega arith in k ∙ number) (told_more w P t o u n within may.wakes v),
        );
    sorted = sorted_stays (λ z. w.words (Waiting z)) g o (λ z h. waited w P t o u n within may.wakes v z o h) (waits_at P o) (v.waits.sorted o);
  }

  -- it knows its number, and the word isn't its own
  wait_same : l.wait ≡ (w.known t).wait
  wait_same = ap (λ (b : Bool). cond b (wait_of (Notified o)) (w.known t).wait)
      (ap (λ k. u == k) (v.numbered t) ∙ ne_eqb u t (other w P t o u n within may.wakes v))

  step : IsStep w t l turning
  step = record { within = within; mine = λ i. record l { wait = wait_same i }; others = λ k. refl }

  abbrev x : World
  x = next w t l turning (with_word (Waiting u) (wait_of (Notified o)) w.words)

  all_after : AllHold (kept_parts w x P)
  all_after seen = seen_next step x.words P (own_seen w P t plan
      (search (may.wakes.runs, now_inflates, held w P t o u n within may.wakes v l now, spared, uncounted w P t o u n within may.wakes v)) v)
    where
      now_inflates : inflation_in l.stage ≡ inflation_in (w.known t).stage
      now_inflates = sym (at_still (λ s. inflation_in s ≡ inflation_in l.stage) (w.known t).stage (still w P t o u n within may.wakes v) refl (λ i m. refl))

      spared : (z i : ℕ) → waits_on (w.words (Waiting z)) i ≡ false → waits_on (g z) i ≡ false
      spared z i h = at w P t o u n within may.wakes v (λ z y. waits_on (w.words (Waiting z)) i ≡ false → waits_on y i ≡ false) z
          (λ k. word_unwaiting w P t o u n within may.wakes v i) (λ d k. k) h
  all_after forms = wait_forms w P t o u n within may.wakes v
  all_after quiet = quiet_next step P refl may.wakes.runs v
  all_after holds = holds_law w P t o u n within may.wakes v P l now woken
  all_after owners = owners_law w P t o u n within may.wakes v P l now woken
  all_after records = records_law w P t o u n within may.wakes v P l now woken
  all_after recursions = recursions_law w P t o u n within may.wakes v P l now woken _ v.recursions
  all_after waits = waits_law w P t o u n within may.wakes v P l now woken (λ z. (w.known z).log) (λ z d. refl)
  all_after c = quiet_step step P may.goes_on may.wakes.runs v c

  woken_fits : Fits (world_after plan t w) P
  woken_fits =
      step_fits step x.words P (kept_parts w x P)
      (parts_stand w x P refl (λ z. refl) (inflates_same w P t o u n within may.wakes v P l now woken) refl refl refl
      (λ q. header_stays x w refl refl refl q)) all_after

pub waking_next_valid : (e : CallContext) (o u n : ℕ) → KeepsValid (λ w t. MayWakeNext w.shape (w.known t) e o u n) (λ w t. wake_next_plan e o u (n + 1))
waking_next_valid e o u n w P t within may valid = inl (woken_fits w P t e o u n within may (fits_running w P t may.wakes.runs valid))
