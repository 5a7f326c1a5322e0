-- An owner tells the last of those whom its entry calls, and so logs its Notify or NotifyAll.
use Rattle.core_locks.proofs.Prelude.{◌≡◌, ◌⊎◌, ℕ, ◌+◌, ◌<◌, ◌≤◌, ◌==◌, ◌||◌, max, ne_eqb, Bool, true, false, cond, List, [], ◌∷◌, ◌++◌}
use Rattle.core_locks.proofs.Prelude.{length, slice_set, Some, refl, sym, ap, ◌∙◌, subst, arith, inl, inr, same_Some, wait_of, Notified}
use Rattle.core_locks.proofs.Prelude.{PlainMonitor, is_thread, is_listed, count_of, PlainObject, take_entry, take_at, Logged, last_stamp}
use Rattle.core_locks.proofs.Prelude.{Entry, bound_to, bound_is_named, times_in, Stamp, Waiting, StepPlan, Settled, waits_on, says_notified}
use Rattle.core_locks.proofs.Prelude.{inflation_in, with_word, ThreadView, World, with_known, logs, holds_by_monitor, object_of, monitor_of}
use Rattle.core_locks.proofs.Prelude.{owner_at, hash_at, waits_at, notified_at, or_zero, SeenStays, CallContext, logging_plan, known_hit}
use Rattle.core_locks.proofs.Prelude.{seen_before, stamp_by, is_taking, Fits, StandByStamps, bound_stamp, Store, log_limit, with_known_else}
use Rattle.core_locks.proofs.Prelude.{header_stays, thread_is, sound, Logs, MayWake, IsOwnEntry}
use Rattle.core_locks.proofs.Clauses.{Parts, parts_of, kept_locks, locks_stand, seen, forms, quiet, holds}
use Rattle.core_locks.proofs.Clauses.{owners, biases, records, recursions, waits, stamps, AllHold}
use Rattle.core_locks.proofs.Steps.{noting, IsStep, next, stepped, step_fits, quiet_next, logs_next, holds_next}
use Rattle.core_locks.proofs.OwnSeen.{seen_as}
use Rattle.core_locks.proofs.Logging.{IsLogging, stamps_owned}
use Rattle.core_locks.proofs.LoggedSteps.{logged_step}
use Rattle.core_world.proofs.Updates.{takes, part_stays, hashes_stay, slots_stay, monitor_here, monitor_else}
use Rattle.core_locks.proofs.wait.TellLists.{waits_untold, listed_join, counts_move}
use Rattle.core_locks.proofs.hash.Drawing.{draws_still, draws_counted, bound_undrawn}
use Rattle.core_locks.proofs.wait.WakeForms.{wait_forms, uncounted, held}
use Rattle.core_locks.proofs.wait.Wakes.{IsCalmOrNotifies, at_still, IsWoken, still, owned, other, word_unwaiting, at, waited, called_told, told_was}
use Rattle.core_locks.proofs.wait.Wakes.{no_more, inflates_same, holds_law, owners_law, biases_law, records_law, recursions_law, waits_law}

-- of a test that one of two holds
one_of : (a b : Bool) → (a || b) ≡ true → (a ≡ true) ⊎ (b ≡ true)
one_of true b h = inl refl
one_of false b h = inr h

or_left : (a b : Bool) → a ≡ true → (a || b) ≡ true
or_left true b h = refl
or_left false b h = absurd (cc h)

or_right : (a b : Bool) → b ≡ true → (a || b) ≡ true
or_right true b h = refl
or_right false b h = h

-- Those of M are called: they were notified. Those of W wait on.
pub record IsCall (w : World) (P : List PlainObject) (t o u : ℕ) (M W : List (ℕ × ℕ)) (e : Entry) : Type 0 where
  pub split : waits_at P o ≡ M ++ W
  pub told : (z : ℕ) → is_listed M z ≡ true → says_notified (with_word (Waiting u) (wait_of (Notified o)) w.words (Waiting z)) o ≡ true
  pub wait : (z : ℕ) → is_listed W z ≡ true → waits_on (with_word (Waiting u) (wait_of (Notified o)) w.words (Waiting z)) o ≡ true
  pub sorted : StandByStamps (λ z. with_word (Waiting u) (wait_of (Notified o)) w.words (Waiting z)) o W
  pub quiet : is_taking e ≡ false
  pub tied : bound_to e ≡ Some o
  pub takes : take_at (object_of P o) t e ≡ Some (record (object_of P o) { monitor = record (monitor_of P o) { waits = W; called = notified_at P o ++ M } })

module _ (w : World) (P : List PlainObject) (t : ℕ) (r : CallContext) (o u n : ℕ) (within : t < w.shape.threads)
    (may : MayWake w.shape (w.known t) o u n) (room : length (w.known t).log < log_limit)
    (v : Fits w P) (M W : List (ℕ × ℕ)) (e : Entry) (a : IsCall w P t o u M W e) (own : IsOwnEntry (w.known t) e) where
  abbrev plan : StepPlan
  plan = logging_plan e r (Waiting u) (Store (wait_of (Notified o)))

  abbrev l : ThreadView
  l = known_hit w.shape w.start plan (w.words (Waiting u)) (w.known t)

  abbrev g : ℕ → ℕ
  g = λ z. with_word (Waiting u) (wait_of (Notified o)) w.words (Waiting z)

  abbrev z : PlainObject
  z = record (object_of P o) { monitor = record (monitor_of P o) { waits = W; called = notified_at P o ++ M } }

  abbrev Q : List PlainObject
  Q = slice_set P o z

  abbrev y : Logged
  y = record { stamp = stamp_by e (w.words (Waiting u)) (last_stamp (w.known t).log); entry = e }

  inside : o < length P
  inside = omega (arith, v.sized, may.object.within)

  now : IsCalmOrNotifies l.stage
  now = inl refl

  -- THE PLAIN OBJECTS
  waits_is : waits_at Q o ≡ W
  waits_is = ap (λ (k : PlainMonitor). k.waits) (monitor_here P o z inside)

  called_is : notified_at Q o ≡ notified_at P o ++ M
  called_is = ap (λ (k : PlainMonitor). k.called) (monitor_here P o z inside)

  waits_split : (i : ℕ) → is_listed (waits_at P o) i ≡ true → (is_listed M i ≡ true) ⊎ (is_listed W i ≡ true)
  waits_split i h = one_of _ _ (sym (ap (λ ps. is_listed ps i) a.split ∙ listed_join M W i) ∙ h)

  waits_join : (i : ℕ) → (is_listed M i || is_listed W i) ≡ true → is_listed (waits_at P o) i ≡ true
  waits_join i h = ap (λ ps. is_listed ps i) a.split ∙ listed_join M W i ∙ h

  called_split : (i : ℕ) → is_listed (notified_at Q o) i ≡ true → (is_listed (notified_at P o) i ≡ true) ⊎ (is_listed M i ≡ true)
  called_split i h = one_of _ _ (sym (ap (λ ps. is_listed ps i) called_is ∙ listed_join (notified_at P o) M i) ∙ h)

  called_join : (i : ℕ) → (is_listed (notified_at P o) i || is_listed M i) ≡ true → is_listed (notified_at Q o) i ≡ true
  called_join i h = ap (λ ps. is_listed ps i) called_is ∙ listed_join (notified_at P o) M i ∙ h

  rest_waits : (i : ℕ) → is_listed (waits_at Q o) i ≡ true → is_listed W i ≡ true
  rest_waits i h = ap (λ ps. is_listed ps i) (sym waits_is) ∙ h

  woken : IsWoken P Q o g Settled
  woken = record {
    waits_else = λ i d. ap (λ (k : PlainMonitor). k.waits) (monitor_else P o i z d);
    called_else = λ i d. ap (λ (k : PlainMonitor). k.called) (monitor_else P o i z d);
    back = λ i h. elim h [
      | inl b ↦ inl (waits_join i (or_right _ _ (rest_waits i b)))
      | inr b ↦ elim (called_split i b) [ inl c ↦ inr c | inr c ↦ inl (waits_join i (or_left _ _ c)) ]
    ];
    waiting = λ i h. inl (a.wait i (rest_waits i h));
    waiter = λ i h. elim (waits_split i (v.waits.waiter i o (ap (λ k. waits_on k o) (waited w P t o u n within may v i o h) ∙ h))) [
      | inl b ↦ absurd (cc (waits_untold _ o o h, a.told i b))
      | inr b ↦ ap (λ ps. is_listed ps i) waits_is ∙ b
    ];
    notified = λ i h. elim (called_split i h) [ inl b ↦ called_told w P t o u n within may v i b | inr b ↦ a.told i b ];
    told = λ i h. elim (told_was w P t o u n within may v i h) [
      | inl b ↦ inl (called_join i (or_left _ _ b))
      | inr b ↦ elim (waits_split i b) [
        | inl c ↦ inl (called_join i (or_right _ _ c))
        | inr c ↦ absurd (cc (waits_untold _ o o (a.wait i c), h))
      ]
    ];
    telling = λ i m h. absurd (cc h);
    sorted = subst (StandByStamps g o) (sym waits_is) a.sorted;
  }

  -- each thread keeps its count
  stands_same : (i : ℕ) → holds_by_monitor z.monitor i ≡ holds_by_monitor (monitor_of P o) i
  stands_same i =
      let once = (sound w P v o).once i in
      let few : times_in (M ++ W) i + times_in (notified_at P o) i ≤ 1 = let b = ap (λ ps. times_in ps i) a.split in omega (arith, once, b) in
      let moves = counts_move M W (notified_at P o) i few in
      let c = ap (λ ps. or_zero (count_of ps i)) a.split in
      omega (arith, moves, c)

  owners_same : owner_at P ≡ owner_at Q
  owners_same = λ j. λ i k. is_thread (part_stays (λ (q : PlainObject). q.monitor.owner) P o z inside refl i j) k

  -- THE LOG
  stamp_is : stamp_by e (w.words (Waiting u)) (last_stamp (w.known t).log) ≡ last_stamp (w.known t).log + 1
  stamp_is = ap (λ b. cond b (max (w.words (Waiting u)) (last_stamp (w.known t).log) + 1) (last_stamp (w.known t).log + 1)) a.quiet

  owner_is : (monitor_of P o).owner ≡ Some t
  owner_is = thread_is (monitor_of P o).owner t (owned w P t o u n within may v)

  taken : take_entry P t e ≡ Some Q
  taken = takes P o t e z inside (bound_is_named e o a.tied) a.takes

  logs_it : IsLogging w P Q t y l
  logs_it = record {
    within = within;
    grows = refl;
    taken = taken;
    own = own;
    up = omega (arith, stamp_is);
    above = λ i h.
        let same : i ≡ o = same_Some _ _ (sym h ∙ a.tied) in
        let bound : bound_stamp (λ k. (w.known k).log) (w.words (Stamp i)) (monitor_of P i).owner ≡ last_stamp (w.known t).log =
        ap (λ j. bound_stamp (λ k. (w.known k).log) (w.words (Stamp j)) (monitor_of P j).owner) same
        ∙ ap (bound_stamp (λ k. (w.known k).log) (w.words (Stamp o))) owner_is in
        omega (arith, bound, stamp_is);
    follows = λ k. stamp_is;
  }

  -- THE WORLD
  wait_same : l.wait ≡ (w.known t).wait
  wait_same = ap (λ (b : Bool). cond b (wait_of (Notified o)) (w.known t).wait) (ap (λ k. u == k) (v.numbered t) ∙ ne_eqb u t (other w P t o u n within may v))

  step : IsStep w t l noting
  step = record { within = within; mine = λ i. record l { wait = wait_same i }; others = λ k. refl }

  abbrev x : World
  x = next w t l noting (with_word (Waiting u) (wait_of (Notified o)) w.words)

  -- each object hashes, has slots, an owner and counts as in P
  abbrev called_parts : World → Parts → Parts
  called_parts s p = record p {
    logs = logs s;
    hash = hash_at P;
    slots = λ i. (object_of P i).slots;
    owner = owner_at P;
    stands = λ i k. holds_by_monitor (monitor_of P i) k;
  }

  parts : parts_of x Q ≡ called_parts (stepped w t l x.words) (kept_locks w (parts_of x Q))
  parts =
      locks_stand w x Q refl (inflates_same w P t o u n within may v Q l now woken) refl refl refl (λ q. header_stays x w refl refl refl q)
      ∙ (λ i. record (kept_locks w (parts_of x Q)) {
        logs = logs_next step x.words i;
        hash = sym (hashes_stay P o z inside refl) i;
        slots = sym (slots_stay P o z inside refl) i;
        owner = sym owners_same i;
        stands = λ j k. sym (part_stays (λ (q : PlainObject). holds_by_monitor q.monitor k) P o z inside (stands_same k) j) i;
      })

  all_after : AllHold (called_parts (stepped w t l x.words) (kept_locks w (parts_of x Q)))
  all_after seen = holds_next step (λ s. SeenStays s (owner_at P) (waits_at Q)) x.words
      (seen_as w P t plan (search (
        may.runs,
        seen_more,
        now_inflates,
        held w P t o u n within may v l now,
        spared,
        uncounted w P t o u n within may v,
      )) (owner_at P) (λ i k h. h) (waits_at Q) (no_more w P t o u n within may v Q l now woken) v)
    where
      seen_more : l.seen ≡ record { plan = plan; found = w.words (Waiting u) } ∷ seen_before w.shape (w.known t)
      seen_more = ap (λ b. record { plan = plan; found = w.words (Waiting u) } ∷ cond b [] (seen_before w.shape (w.known t))) a.quiet

      now_inflates : inflation_in l.stage ≡ inflation_in (w.known t).stage
      now_inflates = sym (at_still (λ s. inflation_in s ≡ inflation_in l.stage) (w.known t).stage (still w P t o u n within may v) refl (λ i m. refl))

      spared : (k i : ℕ) → waits_on (w.words (Waiting k)) i ≡ false → waits_on (g k) i ≡ false
      spared k i h = at w P t o u n within may v (λ k y. waits_on (w.words (Waiting k)) i ≡ false → waits_on y i ≡ false) k
          (λ b. word_unwaiting w P t o u n within may v i) (λ d b. b) h
  all_after forms = wait_forms w P t o u n within may v
  all_after quiet = quiet_next step P refl may.runs v
  all_after holds = holds_law w P t o u n within may v Q l now woken
  all_after owners = owners_law w P t o u n within may v Q l now woken
  all_after biases = biases_law w P t o u n within may v Q l now woken
  all_after records = records_law w P t o u n within may v Q l now woken
  all_after recursions = recursions_law w P t o u n within may v Q l now woken _ v.recursions
  all_after waits = waits_law w P t o u n within may v Q l now woken (λ k. (with_known t l w.known k).log)
      (λ k d. ap (λ (b : ThreadView). b.log) (with_known_else t l w.known k d))
  all_after stamps = stamps_owned w P Q t y l v logs_it stamp_is (λ i. sym (part_stays (λ (q : PlainObject). q.monitor.owner) P o z inside refl i))
      (λ i h. ap (λ j. (monitor_of P j).owner) (same_Some _ _ (sym h ∙ a.tied)) ∙ owner_is)
  all_after c = logged_step step logs_it may.runs room (draws_still w P Q t y l v logs_it (draws_counted e (w.known t).draws) (bound_undrawn e o a.tied)) v c

  pub calls_it : Logs w P t plan e
  calls_it = record {
    now = Q;
    taken = taken;
    valid = inl (step_fits step x.words Q (called_parts (stepped w t l x.words) (kept_locks w (parts_of x Q))) parts all_after);
  }
