-- An owner stores in another thread's waiting word that it was notified.
use Rattle.core_locks.proofs.Prelude.{◌≡◌, ◌≢◌, ◌⊎◌, ℕ, suc, ◌<◌, ◌==◌, ◌||◌, eq-eqb, ne_eqb, Bool, true, false, cond, List, [], ◌∷◌, Some}
use Rattle.core_locks.proofs.Prelude.{None, refl, sym, ap, ◌∙◌, subst, arith, inl, inr, read_mark, wait_of, read_wait, Notified}
use Rattle.core_locks.proofs.Prelude.{read_wait-wait_of, read_wait-spells, is_thread, is_listed, PlainObject, Logged, Hold, Waiting, Stage}
use Rattle.core_locks.proofs.Prelude.{Settled, RecordLocked, MonitorAcquired, Resumes, Exits, Waits, OwnerConverted, Notifies, is_biased}
use Rattle.core_locks.proofs.Prelude.{monitor_in, waits_on, says_notified, stamp_in, enters_on, says_ended, is_biased_form, waits_form}
use Rattle.core_locks.proofs.Prelude.{ended_form, notified_form, enters_form, inflation_in, bears, hold_words_ahead, recursions_ahead}
use Rattle.core_locks.proofs.Prelude.{recursions_lowered, notification_in, with_word, ThreadView, last_seen, World, with_known, lock, marks}
use Rattle.core_locks.proofs.Prelude.{displaced_words, who, holds_by_monitor, monitor_of, owner_at, hash_at, waits_at, notified_at}
use Rattle.core_locks.proofs.Prelude.{HoldsFitLogs, RecordsRest, RecursionsFit, GoesByMonitor, Fits, WaitsFit, last_entry, StandByStamps}
use Rattle.core_locks.proofs.Prelude.{AreNotified, ends, IsUnfinished, LocksArePlain, BiasedAreFree, is_older, by_equal, each_with_known}
use Rattle.core_locks.proofs.Prelude.{no_entering, no_ended, no_wait, thread_is, same_number, inflated_form, IsOut, MayWake}
use Rattle.mark_word.specs.declared.wait.WaitForm.TheVariants as wait
use Rattle.plain_monitor.specs.declared.entry.Entry.TheVariants as entry
use Rattle.core_world.specs.declared.heap_call.Operation.TheVariants as op
use Rattle.core_locks.proofs.wait.LeavesLists.{told_same}
use Rattle.core_locks.proofs.wait.TellLists.{waits_untold, waits_unended, waits_one, waits_form_is, head_listed, tail_listed, told_next}
use Rattle.core_locks.proofs.wait.TellNobody.{waiter_below}
use Rattle.core_locks.proofs.WaitOut.{out_word, out_waits, out_unlisted, even_holder_owns, ready_is_out}
use Rattle.core_locks.proofs.wait.WaitStores.{sorted_stays}

-- the thread is in the middle of nothing, or of telling all
abbrev pub IsCalmOrNotifies : Stage → Type 0
IsCalmOrNotifies s = (s ≡ Settled) ⊎ ((o n : ℕ) × (s ≡ Notifies o n))

pub at_still : (F : Stage → Type 0) (s : Stage) → IsCalmOrNotifies s → F Settled → ((o n : ℕ) → F (Notifies o n)) → F s
at_still F s (inl e) calm calls = subst F (sym e) calm
at_still F s (inr a) calm calls = subst F (sym a.2) (calls a.0 a.1)

-- all wait, so that none was notified
all_wait : (f : ℕ → ℕ) (o : ℕ) (ps : List (ℕ × ℕ)) → ((z : ℕ) → is_listed ps z ≡ true → waits_on (f z) o ≡ true) → AreNotified f o 0 ps
all_wait f o [] h = refl
all_wait f o (p ∷ ps) h = (h p.0 (head_listed p ps), all_wait f o ps (λ z k. h z (tail_listed p ps z k)))

-- What becomes of the plain objects P, where the waiting words are g afterwards and the owner of o stands at `now`.
pub record IsWoken (P Q : List PlainObject) (o : ℕ) (g : ℕ → ℕ) (now : Stage) : Type 0 where
  pub waits_else : (i : ℕ) → i ≢ o → waits_at Q i ≡ waits_at P i
  pub called_else : (i : ℕ) → i ≢ o → notified_at Q i ≡ notified_at P i
  pub back : (z : ℕ) → (is_listed (waits_at Q o) z ≡ true) ⊎ (is_listed (notified_at Q o) z ≡ true)
      → (is_listed (waits_at P o) z ≡ true) ⊎ (is_listed (notified_at P o) z ≡ true)
  pub waiting : (z : ℕ) → is_listed (waits_at Q o) z ≡ true → (waits_on (g z) o ≡ true) ⊎ ((says_notified (g z) o ≡ true) × (notification_in now ≡ Some o))
  pub waiter : (z : ℕ) → waits_on (g z) o ≡ true → is_listed (waits_at Q o) z ≡ true
  pub notified : (z : ℕ) → is_listed (notified_at Q o) z ≡ true → says_notified (g z) o ≡ true
  pub told : (z : ℕ) → says_notified (g z) o ≡ true
      → (is_listed (notified_at Q o) z ≡ true) ⊎ ((is_listed (waits_at Q o) z ≡ true) × (notification_in now ≡ Some o))
  pub telling : (i n : ℕ) → now ≡ Notifies i n → (i ≡ o) × AreNotified g o n (waits_at Q o)
  pub sorted : StandByStamps g o (waits_at Q o)

module _ (w : World) (P : List PlainObject) (t o u n : ℕ) (within : t < w.shape.threads) (may : MayWake w.shape (w.known t) o u n) (v : Fits w P) where
  abbrev word : ℕ
  word = wait_of (Notified o)

  abbrev f : ℕ → ℕ
  f = λ z. w.words (Waiting z)

  abbrev g : ℕ → ℕ
  g = λ z. with_word (Waiting u) (wait_of (Notified o)) w.words (Waiting z)

  pub still : IsCalmOrNotifies (w.known t).stage
  still = elim may.told [ inl a ↦ inl a.0 | inr a ↦ inr (o, n, a) ]

  out : IsOut (w.known t)
  out = ready_is_out (w.known t) may.ready

  not_resumes : (i : ℕ) → (w.known t).stage ≡ Resumes i → ⊥
  not_resumes i = at_still (λ s. s ≡ Resumes i → ⊥) (w.known t).stage still (λ c. cc c) (λ a b c. cc c)

  pub owned : owner_at P o t ≡ true
  owned = (even_holder_owns w P t v out o (not_resumes o) (at_still (λ s. hold_words_ahead s o ≡ 0) (w.known t).stage still refl (λ a b. refl)) may.holds).0

  who_is : who w o ≡ Some t
  who_is = thread_is (who w o) t (v.owners.same o t ∙ ap (λ b. b || bears (w.known t).stage o) owned)

  -- no other thread owns o or is taking it
  pub others_out : (z : ℕ) → z ≢ t → (owner_at P o z ≡ false) × (bears (w.known z).stage o ≡ false)
  others_out z d = neither (owner_at P o z) (bears (w.known z).stage o) (sym (v.owners.same o z) ∙ ap (λ a. is_thread a z) who_is ∙ ne_eqb t z (λ e. d (sym e)))
    where
      neither : (a b : Bool) → (a || b) ≡ false → (a ≡ false) × (b ≡ false)
      neither true b h = absurd (cc h)
      neither false b h = (refl, h)

  -- u waits on o
  pub was_waiting : waits_on (w.words (Waiting u)) o ≡ true
  was_waiting = ap (λ y. waits_on y o)
      (v.seen.stays t (Waiting u) may.oldest.word may.oldest.saw (inl (may.runs, inl (o, owned, may.oldest.waits)))) ∙ may.oldest.waits

  word_was : w.words (Waiting u) ≡ may.oldest.word
  word_was = v.seen.stays t (Waiting u) may.oldest.word may.oldest.saw (inl (may.runs, inl (o, owned, may.oldest.waits)))

  pub listed : is_listed (waits_at P o) u ≡ true
  listed = v.waits.waiter u o was_waiting

  pub other : u ≢ t
  other e = let none = out_waits w P t v out o in absurd (cc (none, ap (λ z. waits_on (w.words (Waiting z)) o) (sym e) ∙ was_waiting))

  -- THE WORD
  pub reads : read_wait (wait_of (Notified o)) ≡ Some (Notified o)
  reads = read_wait-wait_of (Notified o) (let a = v.limits.objects in omega (arith, a, may.object.within))

  pub word_told : (i : ℕ) → says_notified (wait_of (Notified o)) i ≡ (o == i)
  word_told i = ap (λ z. notified_form z i) reads

  pub word_unwaiting : (i : ℕ) → waits_on (wait_of (Notified o)) i ≡ false
  word_unwaiting i = ap (λ z. waits_form z i) reads

  word_unentering : (i : ℕ) → enters_on (wait_of (Notified o)) i ≡ false
  word_unentering i = ap (λ z. enters_form z i) reads

  word_unended : says_ended (wait_of (Notified o)) ≡ false
  word_unended = ap ended_form reads

  pub here : g u ≡ word
  here = ap (λ (b : Bool). cond b word (w.words (Waiting u))) (eq-eqb u u refl)

  pub else : (z : ℕ) → z ≢ u → g z ≡ f z
  else z d = ap (λ (b : Bool). cond b word (w.words (Waiting z))) (ne_eqb z u d)

  -- a fact of the new word, and of each other one
  pub at : (F : ℕ → ℕ → Type 0) (z : ℕ) → F u word → (z ≢ u → F z (w.words (Waiting z))) → F z (g z)
  at F z mine others = by_equal z u
      (λ e. subst (λ y. F y (g y)) (sym e) (subst (F u) (sym here) mine))
      (λ d. subst (F z) (sym (else z d)) (others d))

  -- who stands at another object's lists isn't u
  same_else : (z i : ℕ) → i ≢ o → (is_listed (waits_at P i) z ≡ true) → g z ≡ f z
  same_else z i d h = else z (λ e. elim (v.waits.waiting z i h) [
    | inl a ↦ d (waits_one _ o i was_waiting (ap (λ y. waits_on (f y) i) (sym e) ∙ a))
    | inr a ↦ let no = waits_untold _ o i was_waiting in cc (no, ap (λ y. says_notified (f y) i) (sym e) ∙ a.0)
  ])

  -- only this thread tells all who wait on o
  calls_none : (z : ℕ) → z ≢ t → notification_in (w.known z).stage ≡ Some o → ⊥
  calls_none z d h = let none = (others_out z d).0 in absurd (cc (none, v.owners.calls o z h))

  -- u is the oldest of those who wait
  oldest_is : (z : ℕ) → is_listed (waits_at P o) z ≡ true → waits_on (f z) o ≡ true → (z ≡ u) ⊎ (is_older (u, stamp_in (f u)) (z, stamp_in (f z)) ≡ true)
  oldest_is z h now = by_word (may.oldest.oldest z (waiter_below w P o z v h)) _ refl
    where
      by_word : (saw : (y : ℕ) × (last_seen (Waiting z) (w.known t).seen ≡ Some y)
          × (waits_on y o ≡ true → (z ≡ u) ⊎ (is_older (u, stamp_in may.oldest.word) (z, stamp_in y) ≡ true))) (b : Bool)
          → waits_on saw.0 o ≡ b → (z ≡ u) ⊎ (is_older (u, stamp_in (f u)) (z, stamp_in (f z)) ≡ true)
      by_word saw true e =
          let same : f z ≡ saw.0 = v.seen.stays t (Waiting z) saw.0 saw.1 (inl (may.runs, inl (o, owned, e))) in
          elim (saw.2 e) [ inl a ↦ inl a | inr a ↦ inr ((λ i. is_older (u, stamp_in (word_was i)) (z, stamp_in (same i))) ∙ a) ]
      by_word saw false e = let no = v.seen.unwaiting t z o saw.0 saw.1 may.runs owned e in absurd (cc (no, now))

  pub before : AreNotified f o n (waits_at P o)
  before = elim may.told [
    | inl a ↦ subst (λ m. AreNotified f o m (waits_at P o)) (sym a.1) (all_wait f o (waits_at P o) (λ z h. elim (v.waits.waiting z o h) [
      | inl b ↦ b
      | inr b ↦ absurd (by_equal b.1.0 t (λ e. let none = ap notification_in a.0 in
          cc (none, ap (λ y. notification_in (w.known y).stage) (sym e) ∙ b.1.1)) (λ d. calls_none b.1.0 d b.1.1))
    ]))
    | inr a ↦ v.waits.telling t o n a
  ]

  -- so one more of the first is told
  pub told_more : AreNotified g o (suc n) (waits_at P o)
  told_more = told_next f g o u n (waits_at P o)
      else (ap (λ y. says_notified y o) here ∙ word_told o ∙ same_number o) was_waiting listed oldest_is (v.waits.sorted o) before

  -- those who wait afterwards waited before
  pub waited : (z i : ℕ) → waits_on (g z) i ≡ true → f z ≡ g z
  waited z i = at (λ z y. waits_on y i ≡ true → f z ≡ y) z (λ h. let no = word_unwaiting i in absurd (cc (no, h))) (λ d h. refl)

  -- who was notified on o was notified; and who is told on o is u, or was notified before
  pub called_told : (z : ℕ) → is_listed (notified_at P o) z ≡ true → says_notified (g z) o ≡ true
  called_told z h = at (λ z y. (says_notified (f z) o ≡ true) → says_notified y o ≡ true) z
      (λ k. word_told o ∙ same_number o) (λ d k. k) (elim (v.waits.notified z o h) [
        | inl a ↦ a
        | inr a ↦ absurd (by_equal z t
            (λ e. not_resumes o (ap (λ y. (w.known y).stage) (sym e) ∙ a.1))
            (λ d. let none = (others_out z d).1 in cc (none, ap (λ s. bears s o) a.1 ∙ same_number o)))
      ])

  pub told_was : (z : ℕ) → says_notified (g z) o ≡ true → (is_listed (notified_at P o) z ≡ true) ⊎ (is_listed (waits_at P o) z ≡ true)
  told_was z = at (λ z y. says_notified y o ≡ true → (is_listed (notified_at P o) z ≡ true) ⊎ (is_listed (waits_at P o) z ≡ true)) z
      (λ h. inr listed) (λ d h. elim (v.waits.told z o h) [ inl a ↦ inl a | inr a ↦ inr a.0 ])

  -- WHAT THE CLAUSES SAY, where the plain objects become Q and the thread knows l
  module _ (Q : List PlainObject) (l : ThreadView) (now : IsCalmOrNotifies l.stage) (a : IsWoken P Q o g l.stage) where
    abbrev stages : ℕ → Stage
    stages = λ z. (with_known t l w.known z).stage

    -- what the stages say of another matter is as it was
    stage_same : {A : Type 0} (part : Stage → A) (c : A) → part Settled ≡ c
        → ((i m : ℕ) → part (Notifies i m) ≡ c) → (z : ℕ) → part (stages z) ≡ part (w.known z).stage
    stage_same part c calm calls z = each_with_known (λ z y. part y.stage ≡ part (w.known z).stage) t l w.known z
        (at_still (λ s. part s ≡ c) l.stage now calm calls ∙ sym (at_still (λ s. part s ≡ c) (w.known t).stage still calm calls)) (λ d. refl)

    stage_back : (s : Stage) (z : ℕ) → (Settled ≡ s → ⊥) → ((i m : ℕ) → Notifies i m ≡ s → ⊥) → stages z ≡ s → (z ≢ t) × ((w.known z).stage ≡ s)
    stage_back s z calm calls h = each_with_known (λ z y. y.stage ≡ s → (z ≢ t) × ((w.known z).stage ≡ s)) t l w.known z
        (λ e. absurd (at_still (λ r. r ≡ s → ⊥) l.stage now calm calls e)) (λ d e. (d, e)) h

    pub inflates_same : (z : ℕ) → inflation_in (stages z) ≡ inflation_in (w.known z).stage
    inflates_same = stage_same inflation_in None refl (λ i m. refl)

    waits_back : (i z : ℕ) → (is_listed (waits_at Q i) z ≡ true) ⊎ (is_listed (notified_at Q i) z ≡ true)
        → (is_listed (waits_at P i) z ≡ true) ⊎ (is_listed (notified_at P i) z ≡ true)
    waits_back i z h = by_equal i o
        (λ e. subst (λ j. (is_listed (waits_at P j) z ≡ true) ⊎ (is_listed (notified_at P j) z ≡ true)) (sym e)
        (a.back z (subst (λ j. (is_listed (waits_at Q j) z ≡ true) ⊎ (is_listed (notified_at Q j) z ≡ true)) e h)))
        (λ d. elim h [
          | inl b ↦ inl (ap (λ ps. is_listed ps z) (sym (a.waits_else i d)) ∙ b)
          | inr b ↦ inr (ap (λ ps. is_listed ps z) (sym (a.called_else i d)) ∙ b)
        ])

    pub no_more : (i : ℕ) → waits_at P i ≡ [] → waits_at Q i ≡ []
    no_more i h = by_equal i o
        (λ e. let none = ap (λ ps. is_listed ps u) (ap (waits_at P) (sym e) ∙ h) in absurd (cc (none, listed)))
        (λ d. a.waits_else i d ∙ h)

    pub holds_law : HoldsFitLogs (λ z q. w.words (Hold z q)) (λ z. (w.known z).holds)
        (λ z i. hold_words_ahead (stages z) i) (λ i z. holds_by_monitor (monitor_of P i) z)
    holds_law = record {
      stored = v.holds.stored;
      places = v.holds.places;
      number = λ z i. omega (arith, v.holds.number z i, stage_same (λ s. hold_words_ahead s i) 0 refl (λ j m. refl) z);
      each = v.holds.each;
    }

    pub owners_law : LocksArePlain (who w) stages (owner_at P)
    owners_law = record {
      same = λ i z. v.owners.same i z ∙ ap (λ b. owner_at P i z || b) (sym (stage_same (λ s. bears s i) false refl (λ j m. refl) z));
      let_go = λ i z h. v.owners.let_go i z (stage_back (Waits i) z (λ c. cc c) (λ j m c. cc c) h).1;
      left = λ i z q h. v.owners.left i z q (stage_back (Exits i q) z (λ c. cc c) (λ j m c. cc c) h).1;
      calls = λ i z h. each_with_known (λ z y. notification_in y.stage ≡ Some i → owner_at P i z ≡ true) t l w.known z
          (λ k. ap (λ j. owner_at P j t) (calls_o i k) ∙ owned) (λ d k. v.owners.calls i z k) h;
    }
      where
        calls_o : (i : ℕ) → notification_in l.stage ≡ Some i → i ≡ o
        calls_o i k = elim now [
          | inl e ↦ absurd (cc (ap notification_in e, k))
          | inr e ↦ let same : e.0 ≡ i = cc (sym (ap notification_in e.2) ∙ k) in sym same ∙ (a.telling e.0 e.1 e.2).0
        ]

    pub records_law : RecordsRest (lock w) (λ z. (w.known z).holds) stages (displaced_words w)
    records_law = record {
      first = λ i z q h. elim (v.records.first i z q h) [
        | inl b ↦ inl b
        | inr b ↦ inr (each_with_known (λ z y. (w.known z).stage ≡ RecordLocked i q → y.stage ≡ RecordLocked i q) t l w.known z
            (λ c. absurd (at_still (λ s. s ≡ RecordLocked i q → ⊥) (w.known t).stage still (λ k. cc k) (λ j m k. cc k) c)) (λ d c. c) b)
      ];
      header = v.records.header;
      others = v.records.others;
      seized = λ i z q h. v.records.seized i z q (stage_back (RecordLocked i q) z (λ c. cc c) (λ j m c. cc c) h).1;
      grabbed = λ i z h. v.records.grabbed i z (stage_back (MonitorAcquired i) z (λ c. cc c) (λ j m c. cc c) h).1;
    }

    goes_back : (i z : ℕ) → GoesByMonitor (lock w i) (waits_at Q i) (notified_at Q i) z → GoesByMonitor (lock w i) (waits_at P i) (notified_at P i) z
    goes_back i z (inl h) = inl h
    goes_back i z (inr h) = inr (waits_back i z h)

    forth : (s : Stage) (z : ℕ) → (Settled ≡ s → ⊥) → ((i m : ℕ) → Notifies i m ≡ s → ⊥) → (w.known z).stage ≡ s → stages z ≡ s
    forth s z calm calls = each_with_known (λ z y. (w.known z).stage ≡ s → y.stage ≡ s) t l w.known z
        (λ c. absurd (at_still (λ r. r ≡ s → ⊥) (w.known t).stage still calm calls c)) (λ d c. c)

    pub recursions_law : (recursions : ℕ → ℕ) → RecursionsFit (marks w) recursions (lock w) (λ z. (w.known z).holds)
        (λ z. (w.known z).stage) (λ z. (w.known z).saved) (displaced_words w) (waits_at P) (notified_at P)
        → RecursionsFit (marks w) recursions (lock w) (λ z. (w.known z).holds) stages (λ z. (w.known z).saved) (displaced_words w) (waits_at Q) (notified_at Q)
    recursions_law recursions h = record {
      first = λ i z q k. h.first i z q (goes_back i z k);
      others = λ i z q d k. h.others i z q d (goes_back i z k);
      owned = λ i m z k b c d.
          let was = h.owned i m z k b (λ e. c (forth (Waits i) z (λ q. cc q) (λ x y q. cc q) e)) (λ e. d (forth (Resumes i) z (λ q. cc q) (λ x y q. cc q) e)) in
          omega (arith, was, stage_same (λ s. recursions_lowered s i) 0 refl (λ j m. refl) z, stage_same (λ s. recursions_ahead s i) 0 refl (λ j m. refl) z);
      waiting = λ i z k. h.waiting i z (waits_back i z k);
      on_record = h.on_record;
      free = h.free;
      thread_owns = λ i z k. h.thread_owns i z (stage_back (OwnerConverted i) z (λ c. cc c) (λ j m c. cc c) k).1;
    }

    pub biases_law : BiasedAreFree (marks w) (lock w) (λ z. (w.known z).holds) (hash_at P) (waits_at Q) (notified_at Q)
    biases_law = record {
      hashless = v.biases.hashless;
      nobody = λ i h. by_equal i o
          (λ e.
          let m = v.waits.inflated o u (inl listed) in
          let not = ap is_biased_form (inflated_form (read_mark (marks w o)) m.0 m.1) in
          absurd (cc (not, ap (λ j. is_biased (marks w j)) (sym e) ∙ h)))
          (λ d. let b = v.biases.nobody i h in (a.waits_else i d ∙ b.0, a.called_else i d ∙ b.1));
      unheld = v.biases.unheld;
    }

    calls_on : (i : ℕ) → i ≢ o → ((z : ℕ) × (notification_in (w.known z).stage ≡ Some i)) → (z : ℕ) × (notification_in (stages z) ≡ Some i)
    calls_on i d b = (
      b.0,
      each_with_known (λ z y. notification_in (w.known z).stage ≡ Some i → notification_in y.stage ≡ Some i) t l w.known b.0
          (λ c. absurd (elim may.told [
            | inl e ↦ cc (ap notification_in e.0, c)
            | inr e ↦ let same : o ≡ i = cc (sym (ap notification_in e) ∙ c) in d (sym same)
          ])) (λ q c. c) b.1,
    )

    calls_now : notification_in l.stage ≡ Some o → (z : ℕ) × (notification_in (stages z) ≡ Some o)
    calls_now h = (t, each_with_known (λ z y. z ≡ t → notification_in y.stage ≡ Some o) t l w.known t (λ e. h) (λ d e. absurd (d e)) refl)

    -- `at_object`: what is so of o and of every other object is so of all
    at_object : (F : ℕ → Type 0) (i : ℕ) → F o → (i ≢ o → F i) → F i
    at_object F i mine others = by_equal i o (λ e. subst F (sym e) mine) others

    pub waits_law : (log : ℕ → List Logged) → ((z : ℕ) → z ≢ t → log z ≡ (w.known z).log)
        → WaitsFit (λ i. monitor_in (marks w i)) g (λ z. (w.known z).wait) log stages
        (λ z. (with_known t l w.known z).unfinished) (λ z. (w.known z).running) (waits_at Q) (notified_at Q)
    waits_law log logs = record {
      waiting = λ z i. at_object (λ i. is_listed (waits_at Q i) z ≡ true
          → (waits_on (g z) i ≡ true) ⊎ ((says_notified (g z) i ≡ true) × ((y : ℕ) × (notification_in (stages y) ≡ Some i)))) i
          (λ h. elim (a.waiting z h) [ inl b ↦ inl b | inr b ↦ inr (b.0, calls_now b.1) ])
          (λ d h.
          let was = ap (λ ps. is_listed ps z) (sym (a.waits_else i d)) ∙ h in
          let same = same_else z i d was in
          elim (v.waits.waiting z i was) [
            | inl b ↦ inl (ap (λ y. waits_on y i) same ∙ b)
            | inr b ↦ inr (ap (λ y. says_notified y i) same ∙ b.0, calls_on i d b.1)
          ]);
      waiter = λ z i. at_object (λ i. waits_on (g z) i ≡ true → is_listed (waits_at Q i) z ≡ true) i
          (a.waiter z) (λ d h. ap (λ ps. is_listed ps z) (a.waits_else i d) ∙ v.waits.waiter z i (ap (λ y. waits_on y i) (waited z i h) ∙ h));
      notified = λ z i. at_object (λ i. is_listed (notified_at Q i) z ≡ true → (says_notified (g z) i ≡ true) ⊎ ((g z ≡ 0) × (stages z ≡ Resumes i))) i
          (λ h. inl (a.notified z h))
          (λ d h.
          let b = v.waits.notified z i (ap (λ ps. is_listed ps z) (sym (a.called_else i d)) ∙ h) in
          let same : g z ≡ f z = else z (λ e. elim b [
            | inl c ↦ let no = waits_untold _ o i was_waiting in cc (no, ap (λ y. says_notified (f y) i) (sym e) ∙ c)
            | inr c ↦ let no = no_wait o in cc (no, ap (λ y. waits_on y o) (sym c.0) ∙ ap (λ y. waits_on (f y) o) e ∙ was_waiting)
          ]) in
          elim b [ inl c ↦ inl (ap (λ y. says_notified y i) same ∙ c) | inr c ↦ inr (same ∙ c.0, forth (Resumes i) z (λ q. cc q) (λ x y q. cc q) c.1) ]);
      told = λ z i. at_object (λ i. says_notified (g z) i ≡ true
          → (is_listed (notified_at Q i) z ≡ true) ⊎ ((is_listed (waits_at Q i) z ≡ true) × ((y : ℕ) × (notification_in (stages y) ≡ Some i)))) i
          (λ h. elim (a.told z h) [ inl b ↦ inl b | inr b ↦ inr (b.0, calls_now b.1) ])
          (λ d. at (λ z y. says_notified y i ≡ true → (is_listed (notified_at Q i) z ≡ true)
          ⊎ ((is_listed (waits_at Q i) z ≡ true) × ((y : ℕ) × (notification_in (stages y) ≡ Some i)))) z
          (λ h. let no = word_told i ∙ ne_eqb o i (λ e. d (sym e)) in absurd (cc (no, h)))
          (λ q h. elim (v.waits.told z i h) [
            | inl b ↦ inl (ap (λ ps. is_listed ps z) (a.called_else i d) ∙ b)
            | inr b ↦ inr (ap (λ ps. is_listed ps z) (a.waits_else i d) ∙ b.0, calls_on i d b.1)
          ]));
      telling = λ z i m h. each_with_known (λ z y. y.stage ≡ Notifies i m → AreNotified g i m (waits_at Q i)) t l w.known z
          (λ k. let b = a.telling i m k in subst (λ j. AreNotified g j m (waits_at Q j)) (sym b.0) b.1)
          (λ q k.
          let d : i ≢ o = λ e. calls_none z q (ap notification_in k ∙ ap Some e) in
          subst (AreNotified g i m) (sym (a.waits_else i d)) (told_same f g i m (waits_at P i) (λ y r. same_else y i d r) (v.waits.telling z i m k))) h;
      resuming = λ z i h.
          let b = stage_back (Resumes i) z (λ c. cc c) (λ j m c. cc c) h in
          let d : i ≢ o = λ e. let none = (others_out z b.0).1 in cc (none, ap (λ s. bears s o) b.1 ∙ eq-eqb i o e) in
          ap (λ ps. is_listed ps z) (a.called_else i d) ∙ v.waits.resuming z i b.1;
      leaving = λ z i h.
          let b = stage_back (Waits i) z (λ c. cc c) (λ j m c. cc c) h in
          let d : i ≢ o = λ e. let none = (others_out z b.0).1 in cc (none, ap (λ s. bears s o) b.1 ∙ eq-eqb i o e) in
          ap (λ ps. is_listed ps z) (a.waits_else i d) ∙ v.waits.leaving z i b.1;
      unfinished = λ z i h. each_with_known (λ z y. (is_listed (waits_at P i) z ≡ true) ⊎ (is_listed (notified_at P i) z ≡ true)
          → IsUnfinished y.unfinished op.Wait i) t l w.known z
          (λ k. absurd (unlisted i k)) (λ d k. v.waits.unfinished z i k) (waits_back i z h);
      stored = λ z. at (λ z y. (y ≡ (w.known z).wait) ⊎ ((i : ℕ) × (waits_on (w.known z).wait i ≡ true) × (y ≡ wait_of (Notified i)))) z
          (elim (v.waits.stored u) [
            | inl b ↦ inr (o, ap (λ y. waits_on y o) (sym b) ∙ was_waiting, refl)
            | inr b ↦ absurd (self b)
          ]) (λ d. v.waits.stored z);
      entering = λ z i. at (λ z y. enters_on y i ≡ true
          → IsUnfinished (with_known t l w.known z).unfinished op.Enter i × ((m : ℕ) × (monitor_in (marks w i) ≡ Some m))) z
          (λ h. let no = word_unentering i in absurd (cc (no, h)))
          (λ d h. each_with_known (λ z y. enters_on (f z) i ≡ true
          → IsUnfinished y.unfinished op.Enter i × ((m : ℕ) × (monitor_in (marks w i) ≡ Some m))) t l w.known z
          (λ k. absurd (cc (ap (λ y. enters_on y i) (sym word_ready) ∙ k, no_entering i))) (λ q k. v.waits.entering z i k) h);
      done = λ z. at (λ z y. says_ended y ≡ true → ends (log z) ≡ true) z
          (λ h. let no = word_unended in absurd (cc (no, h)))
          (λ d h. by_equal z t
          (λ e. absurd (cc (ap says_ended (sym word_ready) ∙ ap (λ y. says_ended (f y)) (sym e) ∙ h, no_ended)))
          (λ q. ap ends (logs z q) ∙ v.waits.done z h));
      stopped = λ z h r. by_equal z t
          (λ e. absurd (cc (ap (λ y. (w.known y).running) (sym e) ∙ r, may.runs)))
          (λ q.
          let was = v.waits.stopped z (ap ends (sym (logs z q)) ∙ h) r in
          at (λ z y. says_ended (f z) ≡ true → says_ended y ≡ true) z (λ k. let no = waits_unended _ o was_waiting in absurd (cc (no, k))) (λ d k. k) was);
      stamped = λ z i h.
          let same = waited z i h in
          let was = ap (λ y. waits_on y i) same ∙ h in
          by_equal z t
          (λ e. let no = out_waits w P t v out i in absurd (cc (no, e, was)))
          (λ q. ap last_entry (logs z q) ∙ v.waits.stamped z i was ∙ (λ j. Some (record { stamp = stamp_in (same j); entry = entry.Wait i })));
      sorted = λ i. at_object (λ i. StandByStamps g i (waits_at Q i)) i a.sorted
          (λ d. subst (StandByStamps g i) (sym (a.waits_else i d)) (sorted_stays f g i (λ z h. waited z i h) (waits_at P i) (v.waits.sorted i)));
      inflated = λ i z h. v.waits.inflated i z (waits_back i z h);
    }
      where
        word_ready : w.words (Waiting t) ≡ 0
        word_ready = out_word w P t v out ∙ may.ready

        unlisted : (i : ℕ) → (is_listed (waits_at P i) t ≡ true) ⊎ (is_listed (notified_at P i) t ≡ true) → ⊥
        unlisted i k = let b = out_unlisted w P t v out not_resumes i in elim k [ inl c ↦ cc (b.0, c) | inr c ↦ cc (b.1, c) ]

        -- a word that says Waiting isn't one that says Notified
        self : ((i : ℕ) × (waits_on (w.known u).wait i ≡ true) × (f u ≡ wait_of (Notified i))) → ⊥
        self b =
            let says = waits_form_is _ o was_waiting in
            let spelt = read_wait-spells (f u) (wait.Waiting says.0 says.1) says.2 in
            omega (arith, spelt.1, b.2)
