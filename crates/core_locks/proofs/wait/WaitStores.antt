-- A running thread that waits nowhere stores another word in its own waiting word.
use Rattle.core_locks.proofs.Prelude.{◌≡◌, ◌≢◌, ◌⊎◌, ℕ, ◌<◌, ◌==◌, eq-eqb, Bool, true, false, cond, List, Some, refl, sym, ap, ◌∙◌}
use Rattle.core_locks.proofs.Prelude.{inl, inr, wait_of, read_wait, Notified, is_listed, PlainObject, Waiting, StepPlan, Resumes}
use Rattle.core_locks.proofs.Prelude.{monitor_in, waits_on, says_notified, stamp_in, enters_on, says_ended, notification_in, ThreadView}
use Rattle.core_locks.proofs.Prelude.{World, marks, owner_at, waits_at, notified_at, Stays, CallContext, with_stage, store, world_after}
use Rattle.core_locks.proofs.Prelude.{known_hit, Fits, last_entry, StandByStamps, ends, IsUnfinished, IsWait, GoesOn}
use Rattle.plain_monitor.specs.declared.entry.Entry.TheVariants as entry
use Rattle.core_world.specs.declared.heap_call.Operation.TheVariants as op
use Rattle.core_locks.proofs.wait.LeavesLists.{stand_where, told_same}
use Rattle.core_locks.proofs.Clauses.{kept_parts, parts_stand, seen, forms, waits, AllHold}
use Rattle.core_locks.proofs.OwnSeen.{own_seen}
use Rattle.core_locks.proofs.Steps.{saying, IsStep, next, each_written, step_fits, seen_next, quiet_step, waits_go_on}
use Rattle.core_locks.proofs.WaitOut.{fails}

-- the thread waits nowhere and the word says neither that it does nor that it was notified; and what else the word says is so
pub record MaySay (w : World) (P : List PlainObject) (t : ℕ) (e : CallContext) (word : ℕ) : Type 0 where
  pub runs : (w.known t).running ≡ true
  pub goes_on : GoesOn (w.known t) e
  pub unlisted : (o : ℕ) → is_listed (waits_at P o) t ≡ false
  pub called : (o : ℕ) → is_listed (notified_at P o) t ≡ true → (word ≡ 0) × ((w.known t).stage ≡ Resumes o)
  pub form : IsWait w.shape (read_wait word)
  pub unwaiting : (o : ℕ) → waits_on word o ≡ false
  pub untold : (o : ℕ) → says_notified word o ≡ false
  pub entering : (o : ℕ) → enters_on word o ≡ true → IsUnfinished e.unfinished op.Enter o × ((m : ℕ) × (monitor_in (marks w o) ≡ Some m))
  pub ended : says_ended word ≡ true → ends (w.known t).log ≡ true

-- those who wait stand by their stamps where every word that says so afterwards said it before
pub sorted_stays : (f g : ℕ → ℕ) (o : ℕ) → ((u : ℕ) → waits_on (g u) o ≡ true → f u ≡ g u) → (ps : List (ℕ × ℕ)) → StandByStamps f o ps → StandByStamps g o ps
sorted_stays f g o same ps = stand_where f g o ps (λ u k. same u)

module _ (w : World) (P : List PlainObject) (t : ℕ) (e : CallContext) (word : ℕ) (within : t < w.shape.threads) (may : MaySay w P t e word) (v : Fits w P) where
  -- the step, at the stage at which the thread stands
  abbrev p : StepPlan
  p = with_stage (w.known t).stage (store e (Waiting t) word)

  abbrev l : ThreadView
  l = known_hit w.shape w.start p (w.words (Waiting t)) (w.known t)

  abbrev x : World
  x = world_after p t w

  -- a thread knows its number, so the word is its own
  said : l.wait ≡ word
  said = ap (λ u. cond (t == u) word (w.known t).wait) (v.numbered t) ∙ ap (λ (b : Bool). cond b word (w.known t).wait) (eq-eqb t t refl)

  step : IsStep w t l saying
  step = record { within = within; mine = refl; others = λ k. refl }

  abbrev z : World
  z = next w t l saying x.words

  -- a fact of each waiting word and what its thread knows
  at : (Q : ℕ → ℕ → ThreadView → Type 0) (u : ℕ) → Q t word l → (u ≢ t → Q u (w.words (Waiting u)) (w.known u)) → Q u (x.words (Waiting u)) (x.known u)
  at Q u here other = each_written Q t word l (λ i. w.words (Waiting i)) w.known u here other

  -- the old word says nowhere that the thread waits
  no_waiter : (o : ℕ) → waits_on (w.words (Waiting t)) o ≡ false
  no_waiter o = fails _ (λ h. let listed = v.waits.waiter t o h in absurd (cc (listed, may.unlisted o)))

  -- another thread counts on the word only where the thread waits
  uncounted : (u s : ℕ) → u ≢ t → Stays w (w.known u) (owner_at P) u (Waiting t) s → w.words (Waiting t) ≡ s → ⊥
  uncounted u s d (inl a) is = elim a.1 [
    | inl b ↦ let says = ap (λ n. waits_on n b.0) is ∙ b.2 in absurd (cc (no_waiter b.0, says))
    | inr b ↦ absurd (d (sym b.0))
  ]
  uncounted u s d (inr a) is = a.2

  unwaited : (u o : ℕ) → waits_on (w.words (Waiting u)) o ≡ false → waits_on (x.words (Waiting u)) o ≡ false
  unwaited u o h = at (λ u y _. waits_on y o ≡ false) u (may.unwaiting o) (λ d. h)

  all_after : AllHold (kept_parts w z P)
  all_after seen = seen_next step x.words P (own_seen w P t p (search (may.runs, uncounted, unwaited)) v)
  all_after forms = let waits : (u : ℕ) → IsWait w.shape (read_wait (x.words (Waiting u))) =
      λ u. at (λ u y _. IsWait w.shape (read_wait y)) u may.form (λ d. v.forms.waits u) in search (waits, v.forms)
  all_after waits = record {
    waiting = λ u o. at (λ u y _. is_listed (waits_at P o) u ≡ true
        → (waits_on y o ≡ true) ⊎ ((says_notified y o ≡ true) × ((z : ℕ) × (notification_in (w.known z).stage ≡ Some o)))) u
        (λ h. absurd (cc (h, may.unlisted o))) (λ d. v.waits.waiting u o);
    waiter = λ u o. at (λ u y _. waits_on y o ≡ true → is_listed (waits_at P o) u ≡ true) u (λ h. absurd (cc (h, may.unwaiting o))) (λ d. v.waits.waiter u o);
    notified = λ u o. at (λ u y _. is_listed (notified_at P o) u ≡ true → (says_notified y o ≡ true) ⊎ ((y ≡ 0) × ((w.known u).stage ≡ Resumes o))) u
        (λ h. inr (may.called o h)) (λ d. v.waits.notified u o);
    told = λ u o. at (λ u y _. says_notified y o ≡ true → (is_listed (notified_at P o) u ≡ true)
        ⊎ ((is_listed (waits_at P o) u ≡ true) × ((z : ℕ) × (notification_in (w.known z).stage ≡ Some o)))) u
        (λ h. absurd (cc (h, may.untold o))) (λ d. v.waits.told u o);
    telling = λ u o n e. told_same (λ z. w.words (Waiting z)) (λ z. x.words (Waiting z)) o n (waits_at P o)
        (λ z. at (λ i y _. is_listed (waits_at P o) i ≡ true → y ≡ w.words (Waiting i)) z (λ h. absurd (cc (h, may.unlisted o))) (λ d h. refl))
        (v.waits.telling u o n e);
    resuming = v.waits.resuming;
    leaving = v.waits.leaving;
    unfinished = (waits_go_on step P may.goes_on v).unfinished;
    stored = λ u. at (λ u y k. (y ≡ k.wait) ⊎ ((o : ℕ) × (waits_on k.wait o ≡ true) × (y ≡ wait_of (Notified o)))) u (inl (sym said)) (λ d. v.waits.stored u);
    entering = λ u o. at (λ u y k. enters_on y o ≡ true → IsUnfinished k.unfinished op.Enter o × ((m : ℕ) × (monitor_in (marks w o) ≡ Some m))) u
        (may.entering o) (λ d. v.waits.entering u o);
    done = λ u. at (λ u y _. says_ended y ≡ true → ends (w.known u).log ≡ true) u may.ended (λ d. v.waits.done u);
    stopped = λ u. at (λ u y _. ends (w.known u).log ≡ true → (w.known u).running ≡ false → says_ended y ≡ true) u
        (λ h r. absurd (cc (r, may.runs))) (λ d. v.waits.stopped u);
    stamped = λ u o. at (λ u y _. waits_on y o ≡ true → last_entry (w.known u).log ≡ Some (record { stamp = stamp_in y; entry = entry.Wait o })) u
        (λ h. absurd (cc (h, may.unwaiting o))) (λ d. v.waits.stamped u o);
    sorted = λ o. sorted_stays (λ u. w.words (Waiting u)) (λ u. x.words (Waiting u)) o
        (λ u. at (λ u y _. waits_on y o ≡ true → w.words (Waiting u) ≡ y) u
        (λ h. absurd (cc (h, may.unwaiting o))) (λ d h. refl)) (waits_at P o) (v.waits.sorted o);
    inflated = v.waits.inflated;
  }
  all_after c = quiet_step step P may.goes_on may.runs v c

  pub said_fits : Fits x P
  said_fits = step_fits step x.words P (kept_parts w z P) (parts_stand w z P refl (λ u. refl) (λ u. refl) refl refl refl (λ e. refl)) all_after
