-- A running thread that is taking an object logs its Enter or its Resume: every clause holds afterwards.
use Rattle.core_locks.proofs.Prelude.{◌≡◌, ◌⊎◌, ℕ, ◌+◌, ◌<◌, ◌≤◌, max, true, false, cond, List, length, slice_set, Some, refl, sym, ap, ◌∙◌, subst}
use Rattle.core_locks.proofs.Prelude.{arith, inl, inr, same_Some, PlainMonitor, is_listed, PlainObject, take_entry, Logged, last_stamp, Entry, Wait}
use Rattle.core_locks.proofs.Prelude.{bound_is_named, Stamp, Waiting, Recursions, RecordLocked, Resumes, Waits, Notifies, monitor_in, waits_on}
use Rattle.core_locks.proofs.Prelude.{says_notified, stamp_in, enters_on, says_ended, recursions_ahead, recursions_lowered, notification_in}
use Rattle.core_locks.proofs.Prelude.{ThreadView, World, logs, OwnedBy, lock, marks, displaced_words, recursion_count, object_of, monitor_of}
use Rattle.core_locks.proofs.Prelude.{owner_at, waits_at, notified_at, or_zero, SeenStays, GoesByMonitor, CallContext, logging_plan, world_after}
use Rattle.core_locks.proofs.Prelude.{known_after, stamp_by, Fits, SeenFit, last_entry, ends, IsUnfinished, bound_stamp, lets_go, entries, Load}
use Rattle.core_locks.proofs.Prelude.{by_equal, each_with_known, with_known_here, with_known_else, header_stays, no_entering, no_ended}
use Rattle.core_locks.proofs.Prelude.{with_word_same, IsOut, StepMade, ◌≢◌, ◌||◌, ne_eqb, Bool, [], ◌∷◌, Option, None, or-false, is_thread, count_of}
use Rattle.core_locks.proofs.Prelude.{owns, Settled, Exits, OwnerConverted, inflation_in, bears, hold_words_ahead, who, hold_count, holds_by_monitor}
use Rattle.core_locks.proofs.Prelude.{seen_before, same_number, outside_standing, who_bears, taken_alone, seen_moves, counts_anew, Logs, one_if}
use Rattle.core_world.specs.declared.heap_call.Operation.TheVariants as op
use Rattle.core_locks.proofs.Clauses.{parts_of, kept_locks, kept_objects, locks_stand, seen, quiet, holds}
use Rattle.core_locks.proofs.Clauses.{owners, biases, records, recursions, waits, stamps, AllHold}
use Rattle.core_locks.proofs.Steps.{noting, IsStep, next, stepped, step_fits, quiet_next, logs_next}
use Rattle.core_locks.proofs.Steps.{seen_next, none_reached, stage_back, stage_part, inflates_stay}
use Rattle.core_locks.proofs.hash.Drawing.{draws_still, draws_counted, bound_undrawn}
use Rattle.core_locks.proofs.ByThread.{RecordsOf, records_by, records_at}
use Rattle.core_locks.proofs.Logging.{Covers, IsLogging, last_next, bound_grows, stamps_next}
use Rattle.core_locks.proofs.LoggedSteps.{logged_step}
use Rattle.core_world.proofs.Updates.{takes, hashes_stay, slots_stay, waits_stay, part_stays, each_object}
use Rattle.core_locks.proofs.WaitOut.{fails, out_word, ready_is_out}
use Rattle.core_locks.proofs.OwnSeen.{other_back}
use Rattle.core_locks.proofs.enter_exit.EnterTakes.{IsTaking, at_taking, ready_unwaiting, owner_or_taker}

module _ (w : World) (P : List PlainObject) (t o : ℕ) (e : Entry) (r : CallContext) (m : PlainMonitor) (a : IsTaking w P t o e m) (v : Fits w P) where
  abbrev l : ThreadView
  l = known_after w.shape w.start (logging_plan e r (Stamp o) Load) (w.words (Stamp o)) (w.known t)

  abbrev x : World
  x = world_after (logging_plan e r (Stamp o) Load) t w

  abbrev z : PlainObject
  z = record (object_of P o) { monitor = m }

  abbrev Q : List PlainObject
  Q = slice_set P o (record (object_of P o) { monitor = m })

  abbrev y : Logged
  y = record { stamp = stamp_by e (w.words (Stamp o)) (last_stamp (w.known t).log); entry = e }

  inside : o < length P
  inside = let s = v.sized in omega (arith, s, a.object)

  borne : bears (w.known t).stage o ≡ true
  borne = at_taking (λ s. bears s o ≡ true) (w.known t).stage o a.stage (λ p path. same_number o) (same_number o)

  unborne : (i : ℕ) → i ≢ o → bears (w.known t).stage i ≡ false
  unborne i d = let q = ne_eqb o i (λ s. d (sym s)) in at_taking (λ s. bears s i ≡ false) (w.known t).stage o a.stage (λ p path. q) q

  -- no other thread owns o, or is taking it
  alone : (u : ℕ) → u ≢ t → (bears (w.known u).stage o ≡ false) × (owner_at P o u ≡ false)
  alone u d = taken_alone w P o t u v borne d

  -- its owner is none, or the thread
  owner_is : (b : Option ℕ) → (monitor_of P o).owner ≡ b → (b ≡ None) ⊎ (b ≡ Some t)
  owner_is = owner_or_taker w P t o v borne

  step : IsStep w t l noting
  step = record { within = a.within; mine = refl; others = λ k. refl }

  -- a fact of each object afterwards
  at : (F : ℕ → PlainObject → Type 0) → F o z → ((i : ℕ) → i ≢ o → F i (object_of P i)) → (i : ℕ) → F i (object_of Q i)
  at F = each_object F P o z inside

  -- the owners afterwards
  owner_other : (i u : ℕ) → u ≢ t → owner_at Q i u ≡ owner_at P i u
  owner_other i u d = at (λ i y. owns y.monitor u ≡ owner_at P i u) (ap (λ b. is_thread b u) a.owner ∙ ne_eqb t u (λ q. d (sym q)) ∙ sym (alone u d).1)
      (λ i n. refl) i

  -- those who wait and were notified afterwards
  unwaiting : (i : ℕ) → is_listed (waits_at P i) t ≡ false
  unwaiting = ready_unwaiting w P t v a.ready

  waits_same : (i : ℕ) → waits_at P i ≡ waits_at Q i
  waits_same = part_stays (λ y. y.monitor.waits) P o z inside a.waits

  called_other : (i u : ℕ) → u ≢ t → is_listed (notified_at Q i) u ≡ is_listed (notified_at P i) u
  called_other i u d = at (λ i y. is_listed y.monitor.called u ≡ is_listed (notified_at P i) u) (a.others u d).0 (λ i n. refl) i

  uncalled_before : (i : ℕ) → i ≢ o → is_listed (notified_at P i) t ≡ false
  uncalled_before i d =
      let out = ready_is_out (w.known t) a.ready in
      let word = out_word w P t v out in
      fails _ (λ h. elim (v.waits.notified t i h) [
        | inl b ↦ absurd (cc ((out i).1, ap (λ n. says_notified n i) (sym word) ∙ b))
        | inr b ↦ at_taking (λ s. s ≡ Resumes i → ⊥) (w.known t).stage o a.stage (λ p path c. absurd (cc c)) (λ c. let same : o ≡ i = cc c in d (sym same)) b.1
      ])

  -- the thread itself is called nowhere any more
  uncalled : (i : ℕ) → is_listed (notified_at Q i) t ≡ false
  uncalled = at (λ i y. is_listed y.monitor.called t ≡ false) a.uncalled uncalled_before

  called_back : (i u : ℕ) → is_listed (notified_at Q i) u ≡ true → (u ≢ t) × (is_listed (notified_at P i) u ≡ true)
  called_back i u h = by_equal u t
      (λ s. absurd (cc (ap (is_listed (notified_at Q i)) (sym s) ∙ h, uncalled i)))
      (λ d. (d, sym (called_other i u d) ∙ h))

  called_none : (i : ℕ) → notified_at P i ≡ [] → notified_at Q i ≡ []
  called_none = at (λ i y. notified_at P i ≡ [] → y.monitor.called ≡ []) a.nobody (λ i d h. h)

  -- the locks are as before, and who has each
  inflates : inflation_in Settled ≡ inflation_in (w.known t).stage
  inflates = sym (at_taking (λ s. inflation_in s ≡ None) (w.known t).stage o a.stage (λ p path. refl) refl)

  calls : notification_in Settled ≡ notification_in (w.known t).stage
  calls = sym (at_taking (λ s. notification_in s ≡ None) (w.known t).stage o a.stage (λ p path. refl) refl)

  who_at : (i u : ℕ) → is_thread (who w i) u ≡ (owner_at Q i u || bears (x.known u).stage i)
  who_at i u = each_with_known (λ u y. is_thread (who w i) u ≡ (owner_at Q i u || bears y.stage i)) t l w.known u (mine i ∙ sym (or-false (owner_at Q i t)))
      (λ d. v.owners.same i u ∙ ap (λ c. c || bears (w.known u).stage i) (sym (owner_other i u d)))
    where
      mine : (i : ℕ) → is_thread (who w i) t ≡ owner_at Q i t
      mine = at (λ i y. is_thread (who w i) t ≡ owns y.monitor t) (ap (λ q. is_thread q t) (who_bears w P o t v borne ∙ sym a.owner))
          (λ i n. v.owners.same i t ∙ ap (λ b. owner_at P i t || b) (unborne i n) ∙ or-false (owner_at P i t))

  -- how often each holds
  standing_other : (i u : ℕ) → u ≢ t → holds_by_monitor (monitor_of Q i) u ≡ holds_by_monitor (monitor_of P i) u
  standing_other i u d = at (λ i y. holds_by_monitor y.monitor u ≡ holds_by_monitor (monitor_of P i) u) here (λ i n. refl) i
    where
      here : holds_by_monitor m u ≡ holds_by_monitor (monitor_of P o) u
      here =
          let now = outside_standing m u (ap (λ b. is_thread b u) a.owner ∙ ne_eqb t u (λ q. d (sym q))) in
          let before = outside_standing (monitor_of P o) u (alone u d).1 in
          omega (arith, now, before, ap (λ ps. or_zero (count_of ps u)) a.waits, ap or_zero (a.others u d).1)

  number_mine : (i : ℕ) → holds_by_monitor (monitor_of Q i) t ≡ holds_by_monitor (monitor_of P i) t + hold_words_ahead (w.known t).stage i
  number_mine = at (λ i y. holds_by_monitor y.monitor t ≡ holds_by_monitor (monitor_of P i) t + hold_words_ahead (w.known t).stage i) a.number (λ i n.
      let none = at_taking (λ s. hold_words_ahead s i ≡ 0) (w.known t).stage o a.stage (λ p path. ap one_if (ne_eqb o i (λ s. n (sym s)))) refl in
      omega (arith, none))

  -- what the others have seen stays, and the thread begins anew
  seen_law : SeenFit x Q
  seen_law =
      seen_moves (logging_plan e r (Stamp o) Load) (w.words (Stamp o)) t l w (owner_at P) (owner_at Q) (waits_at P) (waits_at Q) []
      (ap (λ (b : Bool). let step : StepMade = record { plan = logging_plan e r (Stamp o) Load; found = w.words (Stamp o) } in
      step ∷ cond b [] (seen_before w.shape (w.known t))) a.taking)
      (counts_anew (Stamp o) (w.words (Stamp o)) t l w (owner_at Q) (waits_at Q) (λ i h. absurd (cc h)) (λ b g h. absurd (cc h)))
      (record {
        before = λ u n s d h g. other_back w x (w.known u) (owner_at P) (owner_at Q) u refl refl (λ i h. sym (owner_other i u d) ∙ h) n s g;
        owned = λ u i d h. sym (owner_other i u d) ∙ h;
        word = λ u s d h g. g;
        bias = λ u i s e r h. h;
        there = λ i h. h;
        classed = v.seen.classed;
        waits = λ u q i d c h. h;
        unwaited = λ u i d c h. sym (waits_same i) ∙ h;
        unreached = none_reached w P t l v a.runs refl;
        names = λ i b h. h;
      })
      v.seen

  word_ready : w.words (Waiting t) ≡ 0
  word_ready = out_word w P t v (ready_is_out (w.known t) a.ready) ∙ a.ready

  -- THE LOG. The entry's stamp is above the one that was loaded, and above the thread's last.
  stamp_is : stamp_by e (w.words (Stamp o)) (last_stamp (w.known t).log) ≡ max (w.words (Stamp o)) (last_stamp (w.known t).log) + 1
  stamp_is = ap (λ b. cond b (max (w.words (Stamp o)) (last_stamp (w.known t).log) + 1) (last_stamp (w.known t).log + 1)) a.taking

  above_bound : bound_stamp (λ u. (w.known u).log) (w.words (Stamp o)) (monitor_of P o).owner < y.stamp
  above_bound = elim (owner_is (monitor_of P o).owner refl) [
    | inl h ↦ let b = ap (bound_stamp (λ u. (w.known u).log) (w.words (Stamp o))) h in omega (arith, b, stamp_is)
    | inr h ↦ let b = ap (bound_stamp (λ u. (w.known u).log) (w.words (Stamp o))) h in omega (arith, b, stamp_is)
  ]

  pub taken : take_entry P t e ≡ Some Q
  taken = takes P o t e z inside (bound_is_named e o a.tied) a.takes

  pub logs_it : IsLogging w P Q t y l
  logs_it = record {
    within = a.within;
    grows = refl;
    taken = taken;
    own = a.own_entry;
    up = omega (arith, stamp_is);
    above = λ i h.
        let same : i ≡ o = same_Some _ _ (sym h ∙ a.tied) in
        subst (λ j. bound_stamp (λ u. (w.known u).log) (w.words (Stamp j)) (monitor_of P j).owner < y.stamp) (sym same) above_bound;
    follows = λ k. absurd (cc (k, a.taking));
  }

  -- the stamp that was loaded is no larger than the number of entries: the owner lets go of nothing
  stamp_small : y.stamp ≤ entries (logs w) + 1
  stamp_small =
      let few : w.words (Stamp o) ≤ entries (logs w) = v.stamps.even o (λ u h. elim (owner_is (Some u) h) [
        | inl b ↦ absurd (cc b)
        | inr b ↦ let same : u ≡ t = same_Some _ _ b in ap (λ j. lets_go (w.known j).unfinished o) same ∙ a.even (h ∙ b)
      ]) in
      omega (arith, few, stamp_is, v.stamps.logged t)

  -- the bound of each object is no smaller than it was, and that of o is the new stamp
  bounds : (i : ℕ) → Covers w P t y l i (monitor_of Q i).owner
  bounds = at (λ i b. Covers w P t y l i b.monitor.owner)
      (let own = ap (λ (k : ThreadView). last_stamp k.log) (with_known_here t l w.known) ∙ last_next w P Q t y l v logs_it in
      let now = ap (bound_stamp (λ u. (x.known u).log) (w.words (Stamp o))) a.owner ∙ own in
      (omega (arith, now, above_bound), λ h. omega (arith, now)))
      (λ i d. (bound_grows w P Q t y l v logs_it (w.words (Stamp i)) (monitor_of P i).owner, λ h. absurd (d (same_Some _ _ (sym h ∙ a.tied)))))

  goes_back : (i u : ℕ) → GoesByMonitor (lock w i) (waits_at P i) (notified_at Q i) u → GoesByMonitor (lock w i) (waits_at P i) (notified_at P i) u
  goes_back i u (inl h) = inl h
  goes_back i u (inr (inl h)) = inr (inl h)
  goes_back i u (inr (inr h)) = inr (inr (called_back i u h).1)

  -- the recursions of each monitor of which the thread is the owner count its records: those of o, and those that it had before
  recursions_mine : (i b : ℕ) → monitor_in (marks w i) ≡ Some b → lock w i ≡ OwnedBy t
      → w.words (Recursions b) ≡ recursion_count i (displaced_words w t) (w.known t).holds
  recursions_mine i b h g = by_equal i o
      (λ s. a.recursions b (ap (λ j. monitor_in (marks w j)) (sym s) ∙ h) (ap (lock w) (sym s) ∙ g)
      ∙ ap (λ j. recursion_count j (displaced_words w t) (w.known t).holds) (sym s))
      (λ d.
      let before = v.recursions.owned i b t h g
      (λ c. at_taking (λ s. s ≡ Waits i → ⊥) (w.known t).stage o a.stage (λ p path f. absurd (cc f)) (λ f. absurd (cc f)) c)
      (λ c. at_taking (λ s. s ≡ Resumes i → ⊥) (w.known t).stage o a.stage (λ p path f. absurd (cc f)) (λ f. let same : o ≡ i = cc f in d (sym same)) c) in
      let back = at_taking (λ s. recursions_lowered s i ≡ 0) (w.known t).stage o a.stage (λ p path. refl) refl in
      let forth = at_taking (λ s. recursions_ahead s i ≡ 0) (w.known t).stage o a.stage (λ p path. refl) refl in
      omega (arith, before, back, forth))

  abbrev n : World
  n = next w t l noting w.words

  -- the stamp is loaded, and the plain object changes in its owner and in who was notified
  parts : parts_of n Q ≡ kept_objects (stepped w t l w.words) P (kept_locks w (parts_of n Q))
  parts =
      locks_stand w n Q refl (inflates_stay step inflates) refl refl refl (λ e. header_stays n w refl refl refl e)
      ∙ (λ i. record (kept_locks w (parts_of n Q)) {
        logs = logs_next step w.words i;
        hash = sym (hashes_stay P o z inside refl) i;
        waits = sym (waits_stay P o z inside a.waits) i;
        slots = sym (slots_stay P o z inside refl) i;
      })

  all_after : AllHold (kept_objects (stepped w t l w.words) P (kept_locks w (parts_of n Q)))
  all_after seen = subst (SeenStays n (owner_at Q)) (sym (waits_stay P o z inside a.waits))
      (seen_next step w.words Q (subst (λ f. SeenFit (stepped w t l f) Q) (with_word_same (Stamp o) (w.words (Stamp o)) w.words refl) seen_law))
  all_after quiet = quiet_next step P refl a.runs v
  all_after holds = record {
    stored = v.holds.stored;
    places = v.holds.places;
    number = λ u i. each_with_known (λ u y. hold_count i (w.known u).holds ≡ holds_by_monitor (monitor_of Q i) u + hold_words_ahead y.stage i)
        t l w.known u (omega (arith, v.holds.number t i, number_mine i))
        (λ d. omega (arith, v.holds.number u i, standing_other i u d));
    each = v.holds.each;
  }
  all_after owners = record {
    same = who_at;
    let_go = λ i u h. let b = stage_back step (Waits i) u (λ c. cc c) h in owner_other i u b.0 ∙ v.owners.let_go i u b.1;
    left = λ i u p h. let b = stage_back step (Exits i p) u (λ c. cc c) h in owner_other i u b.0 ∙ v.owners.left i u p b.1;
    calls = λ i u. each_with_known (λ u y. notification_in y.stage ≡ Some i → owner_at Q i u ≡ true) t l w.known u
        (λ c. absurd (cc c)) (λ d c. owner_other i u d ∙ v.owners.calls i u c);
  }
  -- THE LOCK RECORDS AND THE MONITORS
  all_after biases = record {
    hashless = v.biases.hashless;
    nobody = λ i h. let b = v.biases.nobody i h in (b.0, called_none i b.1);
    unheld = v.biases.unheld;
  }
  all_after records = records_by (λ u. each_with_known (λ u y. RecordsOf (lock w) u (w.known u).holds y.stage (displaced_words w u)) t l w.known u (record {
    first = λ i p h. elim (v.records.first i t p h) [
      | inl b ↦ inl b
      | inr b ↦ absurd (at_taking (λ s. s ≡ RecordLocked i p → ⊥) (w.known t).stage o a.stage (λ q path c. cc c) (λ c. cc c) b)
    ];
    header = λ i. v.records.header i t;
    others = λ i. v.records.others i t;
    seized = λ i p h. absurd (cc h);
    grabbed = λ i h. absurd (cc h);
  }) (λ d. records_at v.records u))
  all_after recursions = record {
    first = λ i u p h. v.recursions.first i u p (goes_back i u h);
    others = λ i u p d h. v.recursions.others i u p d (goes_back i u h);
    owned = λ i b u h. each_with_known (λ u y. lock w i ≡ OwnedBy u → (y.stage ≡ Waits i → ⊥) → (y.stage ≡ Resumes i → ⊥)
        → w.words (Recursions b) + recursions_lowered y.stage i
        ≡ recursion_count i (displaced_words w u) (w.known u).holds + recursions_ahead y.stage i) t l w.known u
        (λ g c d. omega (arith, recursions_mine i b h g)) (λ d. v.recursions.owned i b u h);
    waiting = λ i u h. v.recursions.waiting i u (listed_back i u h);
    on_record = v.recursions.on_record;
    free = v.recursions.free;
    thread_owns = λ i u h. v.recursions.thread_owns i u (stage_back step (OwnerConverted i) u (λ c. cc c) h).1;
  }
    where
      listed_back : (i u : ℕ) → (is_listed (waits_at P i) u ≡ true) ⊎ (is_listed (notified_at Q i) u ≡ true)
          → (is_listed (waits_at P i) u ≡ true) ⊎ (is_listed (notified_at P i) u ≡ true)
      listed_back i u (inl h) = inl h
      listed_back i u (inr h) = inr (called_back i u h).1
  -- THE WAITS. The thread stands at no object's lists afterwards.
  all_after waits = record {
    waiting = λ u i h. elim (v.waits.waiting u i h) [ inl b ↦ inl b | inr b ↦ inr (b.0, (b.1.0, stage_part step notification_in calls b.1.0 ∙ b.1.1)) ];
    waiter = v.waits.waiter;
    notified = λ u i h. let b = called_back i u h in elim (v.waits.notified u i b.1) [
      | inl c ↦ inl c
      | inr c ↦ inr (c.0, ap (λ (k : ThreadView). k.stage) (with_known_else t l w.known u b.0) ∙ c.1)
    ];
    told = λ u i h. by_equal u t
        (λ s. absurd (cc (ap (λ j. says_notified (w.words (Waiting j)) i) (sym s) ∙ h, ap (λ n. says_notified n i) (out_word w P t v out) ∙ (out i).1)))
        (λ d. elim (v.waits.told u i h) [
          | inl b ↦ inl (called_other i u d ∙ b)
          | inr b ↦ inr (b.0, (b.1.0, stage_part step notification_in calls b.1.0 ∙ b.1.1))
        ]);
    telling = λ u i n h. v.waits.telling u i n (stage_back step (Notifies i n) u (λ c. cc c) h).1;
    resuming = λ u i h.
        let b = stage_back step (Resumes i) u (λ c. cc c) h in
        called_other i u b.0 ∙ v.waits.resuming u i b.1;
    leaving = λ u i h. v.waits.leaving u i (stage_back step (Waits i) u (λ c. cc c) h).1;
    unfinished = λ u i h. each_with_known (λ u k. (is_listed (waits_at P i) u ≡ true) ⊎ (is_listed (notified_at Q i) u ≡ true)
        → IsUnfinished k.unfinished op.Wait i) t l w.known u
        (λ g. elim g [ inl b ↦ absurd (cc (unwaiting i, b)) | inr b ↦ absurd ((called_back i t b).0 refl) ])
        (λ d g. v.waits.unfinished u i (elim g [ inl b ↦ inl b | inr b ↦ inr (called_back i u b).1 ])) h;
    stored = v.waits.stored;
    entering = λ u i h. each_with_known (λ u k. enters_on (w.words (Waiting u)) i ≡ true
        → IsUnfinished k.unfinished op.Enter i × ((b : ℕ) × (monitor_in (marks w i) ≡ Some b))) t l w.known u
        (λ g. absurd (cc (ap (λ n. enters_on n i) (sym word_ready) ∙ g, no_entering i))) (λ d. v.waits.entering u i) h;
    done = λ u h. each_with_known (λ u k. says_ended (w.words (Waiting u)) ≡ true → ends k.log ≡ true) t l w.known u
        (λ g. absurd (cc (ap says_ended (sym word_ready) ∙ g, no_ended))) (λ d. v.waits.done u) h;
    stopped = λ u. each_with_known (λ u k. ends k.log ≡ true → (w.known u).running ≡ false → says_ended (w.words (Waiting u)) ≡ true) t l w.known u
        (λ g h. absurd (cc (h, a.runs))) (λ d. v.waits.stopped u);
    stamped = λ u i h. each_with_known (λ u k. waits_on (w.words (Waiting u)) i ≡ true
        → last_entry k.log ≡ Some (record { stamp = stamp_in (w.words (Waiting u)); entry = Wait i })) t l w.known u
        (λ g. absurd (cc (g, ap (λ n. waits_on n i) (out_word w P t v out) ∙ (out i).0))) (λ d. v.waits.stamped u i) h;
    sorted = v.waits.sorted;
    inflated = λ i u h. v.waits.inflated i u (elim h [ inl b ↦ inl b | inr b ↦ inr (called_back i u b).1 ]);
  }
    where
      out : IsOut (w.known t)
      out = ready_is_out (w.known t) a.ready
  all_after stamps = stamps_next w P Q t y l v logs_it stamp_small bounds
  all_after c = logged_step step logs_it a.runs a.room (draws_still w P Q t y l v logs_it (draws_counted e (w.known t).draws) (bound_undrawn e o a.tied)) v c

  pub taking_logs : Logs w P t (logging_plan e r (Stamp o) Load) e
  taking_logs =
      let fits = step_fits step w.words Q (kept_objects (stepped w t l w.words) P (kept_locks w (parts_of n Q))) parts all_after in
      let same = with_word_same (Stamp o) (w.words (Stamp o)) w.words refl in
      record { now = Q; taken = taken; valid = inl (subst (λ f. Fits (stepped w t l f) Q) (sym same) fits) }
