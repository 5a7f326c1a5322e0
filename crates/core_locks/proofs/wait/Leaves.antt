-- A thread that holds an object may log its Wait there: the world stays valid, and the plain objects take the entry.
use Rattle.core_locks.proofs.Prelude.{◌≡◌, ◌≢◌, ◌⊎◌, ℕ, ◌+◌, ◌<◌, ◌^◌, ◌==◌, ◌||◌, ne_eqb, true, false, cond, List, [], Some, refl, sym}
use Rattle.core_locks.proofs.Prelude.{ap, ◌∙◌, subst, arith, inl, inr, eqb-true, same_Some, read_mark, wait_of, read_wait, read_wait-wait_of}
use Rattle.core_locks.proofs.Prelude.{is_thread, is_listed, PlainObject, Logged, last_stamp, Mark, Stamp, Waiting, StepPlan, Stage, Settled}
use Rattle.core_locks.proofs.Prelude.{RecordLocked, MonitorAcquired, Resumes, Exits, Waits, OwnerConverted, Notifies, is_biased, monitor_in}
use Rattle.core_locks.proofs.Prelude.{waits_on, says_notified, stamp_in, enters_on, says_ended, is_biased_form, waits_form, ended_form}
use Rattle.core_locks.proofs.Prelude.{notified_form, enters_form, stamp_form, inflation_in, bears, hold_words_ahead, recursions_ahead}
use Rattle.core_locks.proofs.Prelude.{recursions_lowered, notification_in, ThreadView, local_of, World, with_word_and_known, logs, lock}
use Rattle.core_locks.proofs.Prelude.{marks, displaced_words, who, recursion_count, object_of, monitor_of, owner_at, hash_at, waits_at}
use Rattle.core_locks.proofs.Prelude.{notified_at, Stays, GoesByMonitor, CallContext, next_stamp, known_hit, seen_before, Fits, SeenFit}
use Rattle.core_locks.proofs.Prelude.{last_entry, StandByStamps, AreNotified, ends, IsUnfinished, bound_stamp, IsWait, by_equal, each_with_known}
use Rattle.core_locks.proofs.Prelude.{header_stays, same_number, fits_running, inflated_form, seen_is_part, stays_back, Back, Spares}
use Rattle.core_locks.proofs.Prelude.{seen_moves, Counts, MayWait, LogsValid, log_wait_plan, owns}
use Rattle.mark_word.specs.declared.wait.WaitForm.TheVariants as wait
use Rattle.plain_monitor.specs.declared.entry.Entry.TheVariants as entry
use Rattle.core_world.specs.declared.heap_call.Operation.TheVariants as op
use Rattle.core_locks.proofs.Clauses.{Parts, parts_of, kept_locks, locks_stand, seen, forms, quiet, holds}
use Rattle.core_locks.proofs.Clauses.{owners, biases, records, recursions, waits, stamps, AllHold}
use Rattle.core_locks.proofs.hash.Drawing.{draws_still}
use Rattle.core_locks.proofs.wait.LeavesLists.{stand_same, stand_last, told_same}
use Rattle.core_locks.proofs.wait.LeavesPlain.{left_objects, left_object, wait_entry, taken, at_object, each_waiter, owner_back, owner_fails}
use Rattle.core_locks.proofs.wait.LeavesPlain.{owner_before, unlisted, waits_still, waits_here, holder_is, others_out, stands_same, is_logging}
use Rattle.core_locks.proofs.wait.LeavesStamps.{next_fits, waiter_bounded}
use Rattle.core_locks.proofs.wait.LeavesStates.{IsLeaving, leaving, waiting_word}
use Rattle.core_locks.proofs.LoggedSteps.{logged_step}
use Rattle.core_locks.proofs.Logging.{Covers, IsLogging, last_entry_more, bound_grows, stamps_next}
use Rattle.core_locks.proofs.OwnSeen.{back_by, other_back}
use Rattle.core_locks.proofs.Steps.{stage_part, departing, IsStep, next, stepped, none_reached, each_written, step_fits}
use Rattle.core_locks.proofs.Steps.{holds_next, quiet_next, logs_next, stage_back, stage_forth, inflates_stay}
use Rattle.core_world.proofs.Updates.{hashes_stay, slots_stay, called_stay}
use Rattle.core_locks.proofs.WaitOut.{out_waits}

-- the step

same_object : (a b : ℕ) → Waits a ≡ Waits b → a ≡ b
same_object a b e = cc e

-- a thread that waits leaves its operation unfinished
module _ (w : World) (P : List PlainObject) (t o m : ℕ) (e : CallContext)
    (goes_on : e.unfinished ≡ (w.known t).unfinished) (v : Fits w P) (s : IsLeaving w P o m t) where
  abbrev word : ℕ
  word = waiting_word (w.known t) o

  abbrev plan : StepPlan
  plan = log_wait_plan e t o (next_stamp (local_of (w.known t)))

  abbrev l : ThreadView
  l = known_hit w.shape w.start plan (w.words (Waiting t)) (w.known t)

  abbrev x : World
  x = with_word_and_known (Waiting t) word t l w

  abbrev Q : List PlainObject
  Q = left_objects P o t

  step : IsStep w t l departing
  step = record { within = s.within; mine = refl; others = λ k. refl }

  logs_it : IsLogging w P Q t (wait_entry (w.known t) o) l
  logs_it = is_logging v s l refl

  said : l.wait ≡ word
  said = ap (λ u. cond (t == u) word (w.known t).wait) (v.numbered t) ∙ ap (λ b. cond b word (w.known t).wait) (same_number t)

  unfinished_is : (u : ℕ) → (x.known u).unfinished ≡ (w.known u).unfinished
  unfinished_is u = each_with_known (λ u k. k.unfinished ≡ (w.known u).unfinished) t l w.known u goes_on (λ d. refl)

  -- what the stage says of another matter is as it was, where Settled and Waits say the same of it
  same_part : {A : Type 0} (part : Stage → A) → part (Waits o) ≡ part Settled → (u : ℕ) → part (x.known u).stage ≡ part (w.known u).stage
  same_part part same = stage_part step part (same ∙ sym (ap part s.calm))

  -- a fact of each waiting word, and of what its thread knows
  at : (F : ℕ → ℕ → ThreadView → Type 0) (u : ℕ) → F t word l → (u ≢ t → F u (w.words (Waiting u)) (w.known u)) → F u (x.words (Waiting u)) (x.known u)
  at F u here other = each_written F t word l (λ i. w.words (Waiting i)) w.known u here other

  -- WHAT THE WORD SAYS
  word_read : read_wait word ≡ Some (wait.Waiting o (last_stamp (w.known t).log + 1))
  word_read =
      let small : o < 2 ^ 15 = let a = v.limits.objects in omega (arith, a, s.object, v.sized) in
      read_wait-wait_of (wait.Waiting o (last_stamp (w.known t).log + 1)) (small, next_fits w P t v)

  word_waits : (i : ℕ) → waits_on word i ≡ (o == i)
  word_waits i = ap (λ f. waits_form f i) word_read

  word_stamp : stamp_in word ≡ last_stamp (w.known t).log + 1
  word_stamp = ap stamp_form word_read

  word_here : (i : ℕ) → waits_on word i ≡ true → i ≡ o
  word_here i e = sym (eqb-true o i (sym (word_waits i) ∙ e))

  said_here : x.words (Waiting t) ≡ word
  said_here = ap (λ b. cond b word (w.words (Waiting t))) (same_number t)

  -- WHAT WAS SEEN. Another object's waiters are as they were.
  waiters_else : (i : ℕ) → i ≢ o → waits_at P i ≡ [] → waits_at Q i ≡ []
  waiters_else = at_object v s (λ i y. i ≢ o → waits_at P i ≡ [] → y.monitor.waits ≡ []) (λ d. absurd (d refl)) (λ i n d e. e)

  -- no word came to say that its thread waits on another object
  unwaiting_else : (u i : ℕ) → i ≢ o → waits_on (w.words (Waiting u)) i ≡ false → waits_on (x.words (Waiting u)) i ≡ false
  unwaiting_else u i d e = at (λ u y _. waits_on y i ≡ false) u (word_waits i ∙ ne_eqb o i (λ q. d (sym q))) (λ q. e)

  -- another thread that owns an object owns another one than o
  owns_else : (u i : ℕ) → u ≢ t → owner_at P i u ≡ true → i ≢ o
  owns_else u i d e same = let none = (others_out v s u d).0 in absurd (cc (none, ap (λ j. owner_at P j u) (sym same) ∙ e))

  -- the thread itself bears o now, which it owned before
  back_own : Back w x (w.known t) l (owner_at P) (owner_at Q) t
  back_own = back_by w x (w.known t) l (owner_at P) (owner_at Q) t refl refl (λ h. h) refl
      (sym (ap inflation_in s.calm)) (λ h. v.quiet.none_revokes t) refl (λ i h. (owner_back v s i t h).1)
      (λ i a g h. by_equal i o
      (λ q. ap (λ j. owner_at P j t || bears (w.known t).stage j) q ∙ ap (λ b. b || bears (w.known t).stage o) s.owner)
      (λ d. ap (λ f. owner_at P i t || bears f i) s.calm ∙ sym (ap (λ b. owner_at P i t || b) (ne_eqb o i (λ q. d (sym q)))) ∙ h))

  -- what the other threads count on is spared: the only waiting word that one of them may count on says that its thread waits, and
  -- the thread's own word didn't
  spares : Spares (Waiting t) word t l w (owner_at P) (owner_at Q) (waits_at P) (waits_at Q)
  spares =
      record {
        before = λ u n y d e g. other_back w x (w.known u) (owner_at P) (owner_at Q) u refl refl (λ i h. (owner_back v s i u h).1) n y g;
        owned = λ u i d e. (owner_back v s i u e).1;
        word = word_spared;
        bias = λ u i s e r h. h;
        there = λ i h. h;
        classed = v.seen.classed;
        waits = λ u y i d e g. unwaiting_else y i (owns_else u i d e) g;
        unwaited = λ u i d e g. waiters_else i (owns_else u i d e) g;
        unreached = none_reached w P t l v s.runs refl;
        names = λ i a e. e;
      }
    where
      word_spared : (u y : ℕ) → u ≢ t → Stays w (w.known u) (owner_at P) u (Waiting t) y → w.words (Waiting t) ≡ y → word ≡ y
      word_spared u y d (inl (r, inl a)) e = absurd (cc (out_waits w P t v s.out a.0, ap (λ n. waits_on n a.0) e ∙ a.2))
      word_spared u y d (inl (r, inr a)) e = absurd (d (sym a.0))
      word_spared u y d (inr a) e = absurd a.2

  -- the thread goes on in its call, and counts on what it saw of objects that it still owns
  counts : Counts (Waiting t) word t l w (owner_at Q) (waits_at Q) (seen_before w.shape (w.known t))
  counts =
      let part = seen_is_part w.shape (w.known t) in
      record {
        others = λ n y e a g. v.seen.stays t n y (part n y e) (stays_back w x (w.known t) l (owner_at P) (owner_at Q) t back_own n y g);
        unbiased = λ i y e g r. v.seen.unbiased t i y (part (Mark i) y e) r g;
        classed = λ i y e g r. v.seen.saw_classed t i y (part (Mark i) y e) r g;
        unwaiting = λ u i y e a g r. let b = owner_back v s i t a in unwaiting_else u i b.0 (v.seen.unwaiting t u i y (part (Waiting u) y e) s.runs b.1 g);
        unwaited = λ i y e r a g. let b = owner_back v s i t a in waiters_else i b.0 (v.seen.unwaited t i y (part (Mark i) y e) s.runs b.1 g);
        idle = λ i e. absurd (cc e);
        monitors = λ a y r e. v.seen.monitors t a y s.runs (e.0, e.1, part e.0 y e.2);
        fresh = λ a r e. absurd (cc e);
      }

  seen_law : SeenFit x Q
  seen_law = seen_moves plan (w.words (Waiting t)) t l w (owner_at P) (owner_at Q)
      (waits_at P) (waits_at Q) (seen_before w.shape (w.known t)) refl counts spares v.seen

  -- THE WAITS. Who stood on a list before is another thread.
  waiter_other : (u i : ℕ) → is_listed (waits_at P i) u ≡ true → u ≢ t
  waiter_other u i e same = let none = (unlisted v s i).0 in absurd (cc (none, ap (is_listed (waits_at P i)) (sym same) ∙ e))

  called_other : (u i : ℕ) → is_listed (notified_at P i) u ≡ true → u ≢ t
  called_other u i e same = let none = (unlisted v s i).1 in absurd (cc (none, ap (is_listed (notified_at P i)) (sym same) ∙ e))

  -- so its word is as it was
  same_word : (u : ℕ) → u ≢ t → x.words (Waiting u) ≡ w.words (Waiting u)
  same_word u d = ap (λ b. cond b word (w.words (Waiting u))) (ne_eqb u t d)

  says_here : waits_on (x.words (Waiting t)) o ≡ true
  says_here = ap (λ n. waits_on n o) said_here ∙ word_waits o ∙ same_number o

  -- an owner who is telling all is another thread, and goes on to
  calls_on : (i : ℕ) → ((u : ℕ) × (notification_in (w.known u).stage ≡ Some i)) → (u : ℕ) × (notification_in (x.known u).stage ≡ Some i)
  calls_on i a = (
    a.0,
    each_with_known (λ u k. notification_in (w.known u).stage ≡ Some i → notification_in k.stage ≡ Some i) t l w.known a.0
        (λ b. absurd (cc (sym (ap notification_in s.calm) ∙ b))) (λ d b. b) a.1,
  )

  -- the stamps of those who wait on o already are below the new one
  older : (u : ℕ) → waits_on (w.words (Waiting u)) o ≡ true → stamp_in (w.words (Waiting u)) < stamp_in (x.words (Waiting t))
  older u e =
      let old = waiter_bounded w P u o v e in
      let bound = ap (bound_stamp (λ z. (w.known z).log) (w.words (Stamp o))) (owner_before v s) in
      omega (arith, old, bound, ap stamp_in said_here ∙ word_stamp)

  waits_sorted : (i : ℕ) → StandByStamps (λ u. x.words (Waiting u)) i (waits_at Q i)
  waits_sorted i =
      let f : ℕ → ℕ = λ u. w.words (Waiting u) in
      let g : ℕ → ℕ = λ u. x.words (Waiting u) in
      at_object v s (λ i y. StandByStamps g i y.monitor.waits)
      (stand_last f g o t (monitor_of P o).count (waits_at P o) (λ u e. same_word u (waiter_other u o e)) (λ u e. older u) (v.waits.sorted o))
      (λ i d. stand_same f g i (waits_at P i) (λ u e. same_word u (waiter_other u i e)) (v.waits.sorted i)) i

  -- THE LOCKS. The thread bears o now, and of every other object as much as before.
  bears_else : (i u : ℕ) → i ≢ o → bears (x.known u).stage i ≡ bears (w.known u).stage i
  bears_else i u d = same_part (λ f. bears f i) (ne_eqb o i (λ e. d (sym e))) u

  -- who has the lock is now told by what the thread bears
  shown_same : (i u : ℕ) → is_thread (who w i) u ≡ (owner_at Q i u || bears (x.known u).stage i)
  shown_same i u = at_object v s (λ i y. is_thread (who w i) u ≡ (owns y.monitor u || bears (x.known u).stage i))
      (ap (λ f. is_thread f u) (holder_is v s) ∙ sym here)
      (λ i d. v.owners.same i u ∙ ap (λ b. owner_at P i u || b) (sym (bears_else i u d))) i
    where
      here : bears (x.known u).stage o ≡ (t == u)
      here = each_with_known (λ u k. bears k.stage o ≡ (t == u)) t l w.known u
          (same_number o ∙ sym (same_number t)) (λ d. (others_out v s u d).1 ∙ sym (ne_eqb t u (λ e. d (sym e))))

  -- an object with a monitor isn't biased
  inflated_bias : is_biased (marks w o) ≡ false
  inflated_bias = ap is_biased_form (inflated_form (read_mark (marks w o)) m s.inflated)

  -- the records of the thread go by the monitor before and after
  goes_back : (i u : ℕ) → GoesByMonitor (lock w i) (waits_at Q i) (notified_at P i) u → GoesByMonitor (lock w i) (waits_at P i) (notified_at P i) u
  goes_back i u (inl e) = inl e
  goes_back i u (inr (inl e)) = each_waiter v s (λ i u. GoesByMonitor (lock w i) (waits_at P i) (notified_at P i) u) (inl s.thread_owns)
      (λ i u a. inr (inl a)) i u e
  goes_back i u (inr (inr e)) = inr (inr e)

  -- THE STAMPS. No bound falls, and that of o, which is its raised stamp word now, covers the entry.
  bounds_law : (i : ℕ) → Covers w P t (wait_entry (w.known t) o) l i (monitor_of Q i).owner
  bounds_law = at_object v s (λ i y. Covers w P t (wait_entry (w.known t) o) l i y.monitor.owner)
      (let was = ap (bound_stamp (λ u. (w.known u).log) (w.words (Stamp o))) (owner_before v s) in (omega (arith, was, s.raised), λ e. s.raised))
      (λ i d. (bound_grows w P Q t (wait_entry (w.known t) o) l v logs_it (w.words (Stamp i)) (monitor_of P i).owner, λ e. absurd (d (sym (same_Some o i e)))))

  abbrev n : World
  n = next w t l departing x.words

  abbrev waiting_parts : Parts → Parts
  waiting_parts p = record p { logs = logs (stepped w t l x.words); hash = hash_at P; called = notified_at P; slots = λ i. (object_of P i).slots }

  parts : parts_of n Q ≡ waiting_parts (kept_locks w (parts_of n Q))
  parts =
      let z = left_object (object_of P o) t in
      locks_stand w n Q refl (inflates_stay step (sym (ap inflation_in s.calm))) refl refl refl (λ q. header_stays n w refl refl refl q)
      ∙ (λ i. record (kept_locks w (parts_of n Q)) {
        logs = logs_next step x.words i;
        hash = sym (hashes_stay P o z s.object refl) i;
        called = sym (called_stay P o z s.object refl) i;
        slots = sym (slots_stay P o z s.object refl) i;
      })

  all_after : AllHold (waiting_parts (kept_locks w (parts_of n Q)))
  all_after seen = holds_next step (λ y. SeenFit y Q) x.words seen_law
  -- the waiting word spells that the thread waits on an object of the heap
  all_after forms =
      let waits : (u : ℕ) → IsWait w.shape (read_wait (x.words (Waiting u))) =
      λ u. at (λ u y k. IsWait w.shape (read_wait y)) u (subst (IsWait w.shape) (sym word_read) (omega (arith, s.object, v.sized))) (λ d. v.forms.waits u) in
      search (waits, v.forms)
  all_after quiet = quiet_next step P refl s.runs v
  -- the hold words stay, and so does what the log tells of them
  all_after holds = record {
    stored = v.holds.stored;
    places = v.holds.places;
    number = λ u i. omega (arith, v.holds.number u i, same_part (λ f. hold_words_ahead f i) refl u, stands_same v s i u);
    each = v.holds.each;
  }
  all_after owners = record {
    same = shown_same;
    let_go = λ i u e. owner_fails v s i u (λ d. v.owners.let_go i u (stage_back step (Waits i) u (λ c. d (sym (same_object o i c))) e).1);
    left = λ i u p e. owner_fails v s i u (λ d. v.owners.left i u p (stage_back step (Exits i p) u (λ c. cc c) e).1);
    calls = λ i u e.
        let was : notification_in (w.known u).stage ≡ Some i = sym (same_part notification_in refl u) ∙ e in
        at_object v s (λ i y. owner_at P i u ≡ true → notification_in (w.known u).stage ≡ Some i → owns y.monitor u ≡ true)
        (λ owner was. absurd (by_equal u t
        (λ q. cc (was, ap (λ z. notification_in (w.known z).stage) q ∙ ap notification_in s.calm))
        (λ d. cc ((others_out v s u d).0, owner))))
        (λ i d owner was. owner) i (v.owners.calls i u was) was;
  }
  all_after biases = record {
    hashless = v.biases.hashless;
    nobody = λ i e.
        let b = v.biases.nobody i e in (
          at_object v s (λ i y. is_biased (marks w i) ≡ true → waits_at P i ≡ [] → y.monitor.waits ≡ []) (λ e. absurd (cc (inflated_bias, e)))
              (λ i d e f. f) i e b.0,
          b.1,
        );
    unheld = v.biases.unheld;
  }
  all_after records = record {
    first = λ i u p e. elim (v.records.first i u p e) [
      | inl a ↦ inl a
      | inr a ↦ inr (stage_forth step (RecordLocked i p) u (λ c. cc (sym s.calm ∙ c)) a)
    ];
    header = v.records.header;
    others = v.records.others;
    seized = λ i u p e. v.records.seized i u p (stage_back step (RecordLocked i p) u (λ c. cc c) e).1;
    grabbed = λ i u e. v.records.grabbed i u (stage_back step (MonitorAcquired i) u (λ c. cc c) e).1;
  }
  -- the recursions may be anything from now on, and the thread keeps what they were
  all_after recursions = record {
    first = λ i u p e. v.recursions.first i u p (goes_back i u e);
    others = λ i u p d e. v.recursions.others i u p d (goes_back i u e);
    owned = λ i a u e g c d.
        let was = v.recursions.owned i a u e g (λ f. c (stage_forth step (Waits i) u (λ g. cc (sym s.calm ∙ g)) f))
        (λ f. d (stage_forth step (Resumes i) u (λ c. cc (sym s.calm ∙ c)) f)) in
        omega (arith, same_part (λ f. recursions_lowered f i) refl u, same_part (λ f. recursions_ahead f i) refl u, was);
    waiting = λ i u e. elim e [
      | inl a ↦ each_waiter v s (λ j z. (w.known z).saved ≡ recursion_count j (displaced_words w z) (w.known z).holds) s.saved
          (λ j z b. v.recursions.waiting j z (inl b)) i u a
      | inr a ↦ v.recursions.waiting i u (inr a)
    ];
    on_record = v.recursions.on_record;
    free = v.recursions.free;
    thread_owns = λ i u f. v.recursions.thread_owns i u (stage_back step (OwnerConverted i) u (λ g. cc g) f).1;
  }
  all_after waits = record {
    waiting = λ u i. each_waiter v s
        (λ i u. (waits_on (x.words (Waiting u)) i ≡ true) ⊎
        ((says_notified (x.words (Waiting u)) i ≡ true) × ((z : ℕ) × (notification_in (x.known z).stage ≡ Some i)))) (inl says_here)
        (λ i u a.
        let same = same_word u (waiter_other u i a) in
        elim (v.waits.waiting u i a) [
          | inl b ↦ inl (ap (λ n. waits_on n i) same ∙ b)
          | inr b ↦ inr (ap (λ n. says_notified n i) same ∙ b.0, calls_on i b.1)
        ]) i u;
    waiter = λ u i. at (λ u n k. waits_on n i ≡ true → is_listed (waits_at Q i) u ≡ true) u
        (λ e. ap (λ j. is_listed (waits_at Q j) t) (word_here i e) ∙ waits_here v s)
        (λ d e. waits_still v s i u (v.waits.waiter u i e));
    notified = λ u i e.
        let same = same_word u (called_other u i e) in
        elim (v.waits.notified u i e) [
          | inl a ↦ inl (ap (λ n. says_notified n i) same ∙ a)
          | inr a ↦ inr (same ∙ a.0, stage_forth step (Resumes i) u (λ c. cc (sym s.calm ∙ c)) a.1)
        ];
    told = λ u i. at
        (λ u n k. says_notified n i ≡ true → (is_listed (notified_at P i) u ≡ true)
        ⊎ ((is_listed (waits_at Q i) u ≡ true) × ((z : ℕ) × (notification_in (x.known z).stage ≡ Some i)))) u
        (λ e. absurd (cc (ap (λ f. notified_form f i) word_read, e)))
        (λ d e. elim (v.waits.told u i e) [
          | inl a ↦ inl a
          | inr a ↦ inr (waits_still v s i u a.0, calls_on i a.1)
        ]);
    telling = λ u i n e.
        let was = stage_back step (Notifies i n) u (λ c. cc c) e in
        let f : ℕ → ℕ = λ y. w.words (Waiting y) in
        let g : ℕ → ℕ = λ y. x.words (Waiting y) in
        at_object v s (λ i y. AreNotified f i n (waits_at P i) → notification_in (w.known u).stage ≡ Some i → AreNotified g i n y.monitor.waits)
        (λ told calls. let none = (others_out v s u was.0).0 in absurd (cc (none, v.owners.calls o u calls)))
        (λ i d told calls. told_same f g i n (waits_at P i) (λ y k. same_word y (waiter_other y i k)) told) i (v.waits.telling u i n was.1)
        (ap notification_in was.1);
    resuming = λ u i e. v.waits.resuming u i (stage_back step (Resumes i) u (λ c. cc c) e).1;
    leaving = λ u i. each_with_known (λ u k. k.stage ≡ Waits i → is_listed (waits_at Q i) u ≡ true) t l w.known u
        (λ e. ap (λ j. is_listed (waits_at Q j) t) (sym (same_object o i e)) ∙ waits_here v s) (λ d e. waits_still v s i u (v.waits.leaving u i e));
    unfinished = λ u i e. unfinished_is u ∙ elim e [
      | inl a ↦ each_waiter v s (λ i z. IsUnfinished (w.known z).unfinished op.Wait i) s.waits (λ i z b. v.waits.unfinished z i (inl b)) i u a
      | inr a ↦ v.waits.unfinished u i (inr a)
    ];
    stored = λ u. at (λ u n k. (n ≡ k.wait) ⊎ ((i : ℕ) × (waits_on k.wait i ≡ true) × (n ≡ wait_of (wait.Notified i)))) u
        (inl (sym said)) (λ d. v.waits.stored u);
    entering = λ u i. at (λ u n k. enters_on n i ≡ true → IsUnfinished k.unfinished op.Enter i × ((a : ℕ) × (monitor_in (marks w i) ≡ Some a))) u
        (λ e. absurd (cc (ap (λ f. enters_form f i) word_read, e)))
        (λ d e. v.waits.entering u i e);
    done = λ u. at (λ u n k. says_ended n ≡ true → ends k.log ≡ true) u
        (λ e. absurd (cc (ap ended_form word_read, e)))
        (λ d e. v.waits.done u e);
    stopped = λ u. at (λ u n k. ends k.log ≡ true → (w.known u).running ≡ false → says_ended n ≡ true) u
        (λ e r. absurd (cc (r, s.runs))) (λ d e r. v.waits.stopped u e r);
    stamped = λ u i. at (λ u n k. waits_on n i ≡ true → last_entry k.log ≡ Some (record { stamp = stamp_in n; entry = entry.Wait i })) u
        (λ e.
        let at : i ≡ o = word_here i e in
        let made : wait_entry (w.known t) o ≡ record { stamp = stamp_in word; entry = entry.Wait i } =
        λ j. record { stamp = sym (word_stamp) j; entry = entry.Wait (sym at j) } in
        last_entry_more (w.known t).log (wait_entry (w.known t) o) ∙ ap (λ (z : Logged). Some z) made)
        (λ d e. v.waits.stamped u i e);
    sorted = waits_sorted;
    inflated = λ i u e. elim e [
      | inl a ↦ each_waiter v s (λ i u. (k : ℕ) × (monitor_in (marks w i) ≡ Some k)) (m, s.inflated) (λ i u b. v.waits.inflated i u (inl b)) i u a
      | inr a ↦ v.waits.inflated i u (inr a)
    ];
  }
  all_after stamps = stamps_next w P Q t (wait_entry (w.known t) o) l v logs_it (omega (arith, v.stamps.logged t)) bounds_law
  all_after c = logged_step step logs_it s.runs s.room (draws_still w P Q t (wait_entry (w.known t) o) l v logs_it (omega arith) refl) v c

  left_fits : Fits x Q
  left_fits = step_fits step x.words Q (waiting_parts (kept_locks w (parts_of n Q))) parts all_after

-- the law
pub leaves_to_wait : (e : CallContext) (o m stamp : ℕ)
    → LogsValid (λ w t. MayWait w.shape (w.known t) e o m stamp) (λ w t. log_wait_plan e t o (next_stamp (local_of (w.known t)))) (entry.Wait o)
leaves_to_wait e o m stamp w P t within may valid =
    let v : Fits w P = fits_running w P t may.runs valid in
    let s : IsLeaving w P o m t = leaving w P t e o m stamp within may v in
    record { now = left_objects P o t; taken = taken v s; valid = inl (left_fits w P t o m e may.goes_on v s) }
