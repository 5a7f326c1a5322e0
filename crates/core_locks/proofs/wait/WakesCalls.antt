-- An owner's Notify calls the oldest of those who wait, and its NotifyAll calls all of them.
use Rattle.core_locks.proofs.Prelude.{◌≡◌, ◌≢◌, ℕ, suc, ◌+◌, ◌<◌, ◌==◌, ◌&&◌, ◌||◌, eq-eqb, ne_eqb, Bool, true, false, cond, List, []}
use Rattle.core_locks.proofs.Prelude.{◌∷◌, ◌++◌, length, Some, None, refl, sym, ap, ◌∙◌, subst, arith, inl, inr, wait_of, Notified}
use Rattle.core_locks.proofs.Prelude.{PlainMonitor, is_listed, owns, only_if, calls, PlainObject, with_monitor, Notify, NotifyAll}
use Rattle.core_locks.proofs.Prelude.{Waiting, waits_on, says_notified, with_word, last_seen, World, object_of, monitor_of, waits_at}
use Rattle.core_locks.proofs.Prelude.{notified_at, CallContext, Fits, StandByStamps, AreNotified, by_equal, fits_running, Logs, LogsValid}
use Rattle.core_locks.proofs.Prelude.{MayWake, SawNoOtherWaiter, MayNotify, MayNotifyAll, notify_plan, notify_all_plan}
use Rattle.core_locks.proofs.wait.TellLists.{waits_untold, told_or_waits, told_all, none_told}
use Rattle.core_locks.proofs.wait.TellNobody.{waiter_below}
use Rattle.core_locks.proofs.wait.WaitStores.{sorted_stays}
use Rattle.core_locks.proofs.wait.Wakes.{owned, listed, before, word_unwaiting, at, else, told_more, waited}
use Rattle.core_locks.proofs.wait.WakesLog.{IsCall, calls_it}

module _ (w : World) (P : List PlainObject) (t o u n : ℕ) (within : t < w.shape.threads) (may : MayWake w.shape (w.known t) o u n) (v : Fits w P) where
  abbrev g : ℕ → ℕ
  g = λ z. with_word (Waiting u) (wait_of (Notified o)) w.words (Waiting z)

  sorted_after : StandByStamps g o (waits_at P o)
  sorted_after = sorted_stays (λ z. w.words (Waiting z)) g o (λ z h. waited w P t o u n within may v z o h) (waits_at P o) (v.waits.sorted o)

  -- who waits on o afterwards is another one than u, and did before
  waits_else : (z : ℕ) → waits_on (g z) o ≡ true → (z ≢ u) × (waits_on (w.words (Waiting z)) o ≡ true)
  waits_else z = at w P t o u n within may v (λ z y. waits_on y o ≡ true → (z ≢ u) × (waits_on (w.words (Waiting z)) o ≡ true)) z
      (λ h. let no = word_unwaiting w P t o u n within may v o in absurd (cc (no, h))) (λ d h. (d, h))

  -- so it is nobody, where nobody else was seen
  pub nobody : SawNoOtherWaiter w.shape.threads (w.known t) o u → (z : ℕ) → is_listed (waits_at P o) z ≡ true → waits_on (g z) o ≡ true → ⊥
  nobody last z h waits = by_word (last z (waiter_below w P o z v h)) _ refl
    where
      by_word : (saw : (y : ℕ) × (last_seen (Waiting z) (w.known t).seen ≡ Some y) × (waits_on y o ≡ true → z ≡ u)) (b : Bool) → waits_on saw.0 o ≡ b → ⊥
      by_word saw true e = (waits_else z waits).0 (saw.2 e)
      by_word saw false e = let no = v.seen.unwaiting t z o saw.0 saw.1 may.runs (owned w P t o u n within may v) e in cc (no, (waits_else z waits).1)

  -- NOTIFYALL: all of them were notified
  pub all_called : SawNoOtherWaiter w.shape.threads (w.known t) o u → IsCall w P t o u (waits_at P o) [] (NotifyAll o (n + 1))
  all_called last = record {
    split = join_nothing (waits_at P o);
    told = λ z h. elim (told_or_waits g o (suc n) (waits_at P o) z (told_more w P t o u n within may v) h) [ inl b ↦ absurd (nobody last z h b) | inr b ↦ b ];
    wait = λ z h. absurd (cc h);
    sorted = tt;
    quiet = refl;
    tied = refl;
    takes = ap (with_monitor (object_of P o)) (ap (λ b. only_if b after) both);
  }
    where
      after : PlainMonitor
      after = record (monitor_of P o) { waits = []; called = notified_at P o ++ waits_at P o }

      join_nothing : (ps : List (ℕ × ℕ)) → ps ≡ ps ++ []
      join_nothing [] = refl
      join_nothing (p ∷ ps) = ap (λ qs. p ∷ qs) (join_nothing ps)

      both : (owns (monitor_of P o) t && (length (waits_at P o) == n + 1)) ≡ true
      both =
          let many : length (waits_at P o) ≡ n + 1 = omega (arith, told_all g o (suc n) (waits_at P o) (told_more w P t o u n within may v) (nobody last)) in
          (λ i. owned w P t o u n within may v i && eq-eqb (length (waits_at P o)) (n + 1) many i)

-- NOTIFY: the first of them was notified
module _ (w : World) (P : List PlainObject) (t o u : ℕ) (within : t < w.shape.threads) (may : MayWake w.shape (w.known t) o u 0) (v : Fits w P) where
  abbrev f : ℕ → ℕ
  f = λ z. with_word (Waiting u) (wait_of (Notified o)) w.words (Waiting z)

  pub first_called : (p : ℕ × ℕ) (ps : List (ℕ × ℕ)) → waits_at P o ≡ p ∷ ps → IsCall w P t o u (p ∷ []) ps (Notify o (Some u))
  first_called p ps is = record {
    split = is;
    told = λ z h. by_equal p.0 z (λ e. ap (λ y. says_notified (f y) o) (sym e) ∙ more.0) (λ d. absurd (cc (sym (only z d) ∙ h)));
    wait = λ z h. none_told f o ps z more.1 h;
    sorted = (subst (StandByStamps f o) is (sorted_after w P t o u 0 within may v)).1;
    quiet = refl;
    tied = refl;
    takes = ap (with_monitor (object_of P o)) (
        ap (λ (b : Bool). cond b (calls (monitor_of P o) (waits_at P o) (Some u)) None) (owned w P t o u 0 within may v)
        ∙ ap (λ qs. calls (monitor_of P o) qs (Some u)) is
        ∙ ap (λ b. only_if b (record (monitor_of P o) { waits = ps; called = notified_at P o ++ p ∷ [] })) (eq-eqb p.0 u first)
        );
  }
    where
      more : AreNotified f o 1 (p ∷ ps)
      more = subst (AreNotified f o 1) is (told_more w P t o u 0 within may v)

      was : AreNotified (λ z. w.words (Waiting z)) o 0 (p ∷ ps)
      was = subst (AreNotified (λ z. w.words (Waiting z)) o 0) is (before w P t o u 0 within may v)

      first : p.0 ≡ u
      first = by_equal p.0 u (λ e. e)
          (λ d. absurd (cc (waits_untold _ o o was.0, ap (λ y. says_notified y o) (sym (else w P t o u 0 within may v p.0 d)) ∙ more.0)))

      only : (z : ℕ) → p.0 ≢ z → is_listed (p ∷ []) z ≡ false
      only z d = ap (λ (b : Bool). b || false) (ne_eqb p.0 z d)

pub notify_logs : (e : CallContext) (o u : ℕ) → LogsValid (λ w t. MayNotify w.shape (w.known t) o u) (λ w t. notify_plan e o u) (Notify o (Some u))
notify_logs e o u w P t within may valid = by_list (waits_at P o) refl
  where
    v : Fits w P
    v = fits_running w P t may.wakes.runs valid

    by_list : (ps : List (ℕ × ℕ)) → waits_at P o ≡ ps → Logs w P t (notify_plan e o u) (Notify o (Some u))
    by_list [] is = absurd (cc (ap (λ ps. is_listed ps u) (sym is) ∙ listed w P t o u 0 within may.wakes v))
    by_list (p ∷ ps) is = calls_it w P t e o u 0 within may.wakes may.room v (p ∷ []) ps
        (Notify o (Some u)) (first_called w P t o u within may.wakes v p ps is) may.own_entry

pub notify_all_logs : (e : CallContext) (o u n : ℕ)
    → LogsValid (λ w t. MayNotifyAll w.shape (w.known t) o u n) (λ w t. notify_all_plan e o u (n + 1)) (NotifyAll o (n + 1))
notify_all_logs e o u n w P t within may valid =
    let v : Fits w P = fits_running w P t may.wakes.runs valid in
    calls_it w P t e o u n within may.wakes may.room v (waits_at P o) []
    (NotifyAll o (n + 1)) (all_called w P t o u n within may.wakes v may.last) may.own_entry
