-- A thread clears the deepest of its hold words of an object, and so logs Exit.
use Rattle.core_locks.proofs.Prelude.{◌≡◌, ◌≢◌, ℕ, ◌+◌, ◌<◌, ◌≤◌, ◌||◌, eq-eqb, ne_eqb, Bool, true, false, cond, List, length, slice_set}
use Rattle.core_locks.proofs.Prelude.{Some, None, refl, sym, ap, ◌∙◌, subst, arith, inl, inr, ◌-◌, nat_le, nat_tests, same_Some, PlainMonitor}
use Rattle.core_locks.proofs.Prelude.{is_thread, exit, PlainObject, take_entry, Logged, Exit, Hold, StepPlan, Settled, Exits, Waits, inflation_in}
use Rattle.core_locks.proofs.Prelude.{bears, hold_words_ahead, one_if, ThreadView, World, with_word_and_known, BiasedTo, OnRecord, lock}
use Rattle.core_locks.proofs.Prelude.{inflations, who, holder, hold_count, holds_by_monitor, monitor_of, owner_at, waits_at, SeenStays}
use Rattle.core_locks.proofs.Prelude.{CallContext, logging_plan, known_hit, Fits, Store, by_equal, each_with_known, with_known_here, header_stays}
use Rattle.core_locks.proofs.Prelude.{inflations_stay, lock_stays, thread_is, fits_running, Logs, MayLeave, or-false, StampsFit, logs_from}
use Rattle.core_locks.proofs.Prelude.{Stamp, notification_in, with_known, LogsValid, leave_plan, IsHold, hold_zero}
use Rattle.core_locks.specs.LockLaws.{HasRaised}
use Rattle.core_locks.proofs.hash.Drawing.{draws_still}
use Rattle.std.proofs.lemmas.List.{length-set}
use Rattle.core_locks.proofs.ByThread.{biases_told, hashes_told, holds_told, records_told, records_at, recursions_told, recursions_at}
use Rattle.core_locks.proofs.enter_exit.HoldClears as clears
use Rattle.core_locks.proofs.enter_exit.HoldClears.{IsFull, cleared_back, named_less, times_less, records_less, recursions_less}
use Rattle.core_locks.proofs.enter_exit.HoldSets.{holder_more, word_own, word_else, word_held, holder_told}
use Rattle.core_locks.proofs.WaitOut.{no_other}
use Rattle.core_locks.proofs.Logging.{IsLogging, stamps_owned}
use Rattle.core_world.proofs.Updates.{each_object, part_stays}
use Rattle.core_locks.proofs.enter_exit.ExitEntries.{exit_entry, object_with, objects_where, exit_taken, exit_logging}
use Rattle.core_locks.proofs.enter_exit.ExitEntries.{exit_parts, exit_are, owner_here, owner_else, owner_before, owner_fails}
use Rattle.core_locks.proofs.Clauses.{parts_of, seen, forms, quiet, holds, owners, biases, records, recursions, hashes, waits, stamps, AllHold}
use Rattle.core_locks.proofs.EvenSteps.{IsEven, even_by, bears_stay, held_even}
use Rattle.core_locks.proofs.LoggedSteps.{logged_step}
use Rattle.core_locks.proofs.enter_exit.LastExit.{freed, freed_stamps}
use Rattle.core_locks.proofs.OwnSeen.{hold_uncounted, seen_as}
use Rattle.core_locks.proofs.Steps.{leaving, IsStep, next, stepped, step_fits, holds_next, quiet_next, stage_back, inflates_stay, waits_move}
use Rattle.core_locks.proofs.telling.Tells.{unlisted, waits_logged}
use Rattle.core_locks.proofs.enter_exit.ExitLeaves.{leaves_even, leaves_inflates, leaves_ahead, leaves_few}
use Rattle.core_locks.proofs.enter_exit.ExitLeaves.{leaves_some, leaves_owned, leaves_deep, leaves_counted}

-- THE PLAIN MONITOR takes the Exit and becomes `less`: its owner has one hold less, or it has no owner.
pub record Lessens (w : World) (P : List PlainObject) (t o d : ℕ) (less : PlainMonitor) : Type 0 where
  pub exits : exit (monitor_of P o) t ≡ Some less
  pub waits : less.waits ≡ (monitor_of P o).waits
  pub called : less.called ≡ (monitor_of P o).called
  pub here : holds_by_monitor less t + 1 ≡ holds_by_monitor (monitor_of P o) t
  pub else : (u : ℕ) → u ≢ t → holds_by_monitor less u ≡ holds_by_monitor (monitor_of P o) u
  pub fewer : (u : ℕ) → is_thread less.owner u ≡ true → owner_at P o u ≡ true
  -- who has the lock, where the thread has a hold word less, is its owner
  pub owner : (f : ℕ → ℕ) → f t + 1 ≡ hold_count o (w.known t).holds → holder (lock w o) f ≡ less.owner
  -- a lock that rests on a record has several
  pub rests : (u q : ℕ) → lock w o ≡ OnRecord u q → d ≡ 1 → ⊥

module _ (w : World) (P : List PlainObject) (t o d p : ℕ) (within : t < w.shape.threads) (may : MayLeave w.shape (w.known t) o d p) (v : Fits w P) where
  abbrev m : PlainMonitor
  m = monitor_of P o

  owned : (owner_at P o t ≡ true) × (hold_count o (w.known t).holds ≡ m.count)
  owned = leaves_owned w P t o d p within may v

  pub owner_is : m.owner ≡ Some t
  owner_is = thread_is m.owner t owned.0

  unowned : (u : ℕ) → u ≢ t → owner_at P o u ≡ false
  unowned u n = ap (λ a. is_thread a u) owner_is ∙ ne_eqb t u (λ q. n (sym q))

  count_is : m.count ≡ d
  count_is = sym owned.1 ∙ may.deepest

  pub holder_is : who w o ≡ Some t
  holder_is = thread_is (who w o) t (v.owners.same o t ∙ ap (λ b. b || bears (w.known t).stage o) owned.0)

  -- of several holds one is left
  abbrev pub less_held : PlainMonitor
  less_held = record { owner = (monitor_of P o).owner; count = (monitor_of P o).count - 1; waits = (monitor_of P o).waits; called = (monitor_of P o).called }

  pub lessens_held : 2 ≤ d → Lessens w P t o d less_held
  lessens_held deep = record {
    exits =
        let a = owned.0 in
        let b : nat_le m.count 1 ≡ false = (let c = count_is in let f = deep in grind (arith, nat_tests, c, f)) in
        rw (a, b) refl;
    waits = refl;
    called = refl;
    here =
        omega (arith, ap (λ b. cond b (m.count - 1) 0) owned.0, ap (λ b. cond b m.count 0) owned.0, count_is, deep);
    else = λ u n. omega (arith, ap (λ b. cond b (m.count - 1) 0) (unowned u n), ap (λ b. cond b m.count 0) (unowned u n));
    fewer = λ u h. h;
    owner = λ f h. holder_more (lock w o) _ f t holder_is (λ z. omega (arith, h, z, may.deepest, deep)) ∙ sym owner_is;
    rests = λ u q h s. omega (arith, s, deep);
  }

  -- the last hold goes, of an object that leans on the thread
  pub lessens_last : d ≡ 1 → lock w o ≡ BiasedTo t → Lessens w P t o d (freed P o)
  lessens_last last leans = record {
    exits =
        let a = owned.0 in
        let b : nat_le m.count 1 ≡ true = (let c = count_is in let f = last in grind (arith, nat_tests, c, f)) in
        rw (a, b) refl;
    waits = refl;
    called = refl;
    here = let b = ap (λ b. cond b m.count 0) owned.0 in omega (arith, b, count_is, last);
    else = λ u n. omega (arith, ap (λ b. cond b m.count 0) (unowned u n));
    fewer = λ u h. absurd (cc h);
    owner = λ f h. ap (λ z. holder z f) leans ∙ ap (λ (b : Bool). cond b None (Some t)) (eq-eqb (f t) 0 (omega (arith, h, may.deepest, last)));
    rests = λ u q h s. absurd (cc (leans, h));
  }

module _ (w : World) (P : List PlainObject) (t : ℕ) (e : CallContext) (o d p : ℕ)
    (within : t < w.shape.threads) (may : MayLeave w.shape (w.known t) o d p) (v : Fits w P)
    (less : PlainMonitor) (is : Lessens w P t o d less) where
  abbrev plan : StepPlan
  plan = logging_plan (Exit o) e (Hold t p) (Store 0)

  abbrev l : ThreadView
  l = known_hit w.shape w.start plan (w.words (Hold t p)) (w.known t)

  abbrev x : World
  x = with_word_and_known (Hold t p) 0 t l w

  abbrev y : Logged
  y = exit_entry (w.known t) o

  abbrev z : PlainObject
  z = object_with P o less

  abbrev Q : List PlainObject
  Q = objects_where P o less

  abbrev old : List ℕ
  old = (w.known t).holds

  -- the hold word that it clears is that of o at depth d
  full : IsFull old o d p
  full = record { few = leaves_few w P t o d p within may v; some = leaves_some w P t o d p within may v; small = may.small; full = may.hold }

  -- its stage is even before and afterwards
  before : IsEven (w.known t).stage
  before = leaves_even w P t o d p within may v

  now : IsEven l.stage
  now = even_by Settled refl

  step : IsStep w t l leaving
  step = record { within = within; mine = refl; others = λ k. refl }

  pub inside : o < length P
  inside = omega (arith, v.sized, may.object.within)

  owns : (monitor_of P o).owner ≡ Some t
  owns = owner_is w P t o d p within may v

  had : who w o ≡ Some t
  had = holder_is w P t o d p within may v

  leaving_taken : take_entry P t (Exit o) ≡ Some Q
  leaving_taken = exit_taken P o t less inside is.exits

  pub logging_it : IsLogging w P Q t y l
  logging_it = exit_logging w P Q t o l within owns leaving_taken refl may.own_entry

  -- nobody else owned o or bore it
  none_else : (u : ℕ) → u ≢ t → (owner_at P o u ≡ false) × (bears (w.known u).stage o ≡ false)
  none_else u n = no_other w P o u v (ap (λ a. is_thread a u) had ∙ ne_eqb t u (λ q. n (sym q)))

  -- WHO HAS THE LOCK of another object has it still
  who_else : (i : ℕ) → i ≢ o → holder (lock w i) (λ u. hold_count i (x.known u).holds) ≡ who w i
  who_else i n = holder_told (lock w i) i t l w.known
      (inl (let other = ap one_if (ne_eqb o i (λ q. n (sym q))) in omega (arith, named_less old o d p full i, other)))

  who_here : holder (lock w o) (λ u. hold_count o (x.known u).holds) ≡ less.owner
  who_here = is.owner (λ u. hold_count o (x.known u).holds)
      (omega (arith, named_less old o d p full o, ap (λ (k : ThreadView). hold_count o k.holds) (with_known_here t l w.known), ap one_if (eq-eqb o o refl)))

  owners_same : (i u : ℕ) → is_thread (holder (lock w i) (λ u. hold_count i (x.known u).holds)) u ≡ (owner_at Q i u || bears (x.known u).stage i)
  owners_same i u =
      by_equal i o
      (λ s. subst (λ j. is_thread (holder (lock w j) (λ u. hold_count j (x.known u).holds)) u ≡ (owner_at Q j u || bears (x.known u).stage j)) (sym s)
      (ap (λ a. is_thread a u) who_here ∙ sym (owner_here P o less inside is.fewer u) ∙ sym (or-false (owner_at Q o u))
      ∙ ap (λ (b : Bool). owner_at Q o u || b) (sym (unborne u))))
      (λ n. ap (λ a. is_thread a u) (who_else i n) ∙ v.owners.same i u
      ∙ (λ j. sym (owner_else P o less inside is.fewer i u n) j || sym (bears_stay step before now u i) j))
    where
      unborne : (u : ℕ) → bears (x.known u).stage o ≡ false
      unborne u = each_with_known (λ u k. bears k.stage o ≡ false) t l w.known u refl (λ n. (none_else u n).1)

  number_now : (i : ℕ) → hold_count i (slice_set old p 0) ≡ holds_by_monitor (monitor_of Q i) t + 0
  number_now = each_object (λ i y. hold_count i (slice_set old p 0) ≡ holds_by_monitor y.monitor t + 0) P o z inside
      (omega (arith, v.holds.number t o, before.alone o, named_less old o d p full o, ap one_if (eq-eqb o o refl), is.here))
      (λ i n. omega (arith, v.holds.number t i, before.alone i, named_less old o d p full i, ap one_if (ne_eqb o i (λ q. n (sym q)))))

  seen_law : SeenStays x (owner_at Q) (waits_at P)
  seen_law =
      let inflates : inflation_in l.stage ≡ inflation_in (w.known t).stage = sym (leaves_inflates w P t o d p within may v) in
      let held : (i : ℕ) → (owner_at P i t || bears l.stage i) ≡ true
      → (owner_at P i t || bears (w.known t).stage i) ≡ true = λ i. held_even step before now (owner_at P) i 0 in
      seen_as w P t plan (search (may.runs, inflates, held, hold_uncounted w P t p)) (owner_at Q) (owner_before P o less inside is.fewer)
      (waits_at P) (λ i a. a) v

  -- THE CLAUSES, where those stamps fit
  module _ (stamped : StampsFit (logs_from 0 w.shape.threads (with_known t l w.known)) (λ u. (with_known t l w.known u).log)
      (λ i. w.words (Stamp i)) (λ i. (monitor_of (objects_where P o less) i).owner) (λ u. (with_known t l w.known u).unfinished)) where
    abbrev n : World
    n = next w t l leaving x.words

    all_after : AllHold (exit_parts w (stepped w t l x.words) P (lock w) (parts_of n Q))
    all_after seen = holds_next step (λ y. SeenStays y (owner_at Q) (waits_at P)) x.words seen_law
    all_after forms = search (word_held w.words t p 0 w.shape (subst (IsHold w.shape) (sym hold_zero) tt) v.forms.holds, v.forms)
    all_after quiet = quiet_next step P refl may.runs v
    all_after holds = holds_told t l w.known hold_words_ahead (word_else w.words t p 0)
        (λ u i d. sym (part_stays (λ y. holds_by_monitor y.monitor u) P o z inside (is.else u d) i)) (record {
          stored = word_own w.words t p 0 old (clears.inside old o d p full) (v.holds.stored t);
          places = length-set old p 0 ∙ v.holds.places t;
          number = number_now;
          each = times_less old o d p full may.deepest (v.holds.each t);
        }) v.holds
    all_after owners = record {
      same = owners_same;
      let_go = λ i u f. owner_fails P o less inside is.fewer i u (v.owners.let_go i u (stage_back step (Waits i) u (λ g. cc g) f).1);
      left = λ i u q f. owner_fails P o less inside is.fewer i u (v.owners.left i u q (stage_back step (Exits i q) u (λ g. cc g) f).1);
      calls = λ i u. each_with_known (λ u k. notification_in k.stage ≡ Some i → owner_at Q i u ≡ true) t l w.known u
          (λ f. absurd (cc f))
          (λ n f.
          let yes = v.owners.calls i u f in
          by_equal i o (λ s. absurd (cc (yes, ap (λ j. owner_at P j u) s ∙ (none_else u n).0))) (λ g. owner_else P o less inside is.fewer i u g ∙ yes));
    }
    all_after biases = biases_told t l w.known (λ i b n. omega (arith, named_less old o d p full i, v.biases.unheld i t b n)) v.biases
    all_after records = records_told t l w.known
        (records_less old o d p full before.seizes (λ one rests. is.rests t p rests one) (records_at v.records t)) v.records
    all_after recursions = recursions_told t l w.known
        (recursions_less old o d p full before.plain (leaves_ahead w P t o d p within may v) (leaves_counted w P t o d p within may v)
        (λ i h. absurd (unlisted w P t l v may.runs may.ready before.plain.resumes i h)) (recursions_at v.recursions t)) v.recursions
    all_after hashes = hashes_told t l w.known (λ i q h. v.hashes.records i t q (cleared_back old o d p full q i 1 h)) v.hashes
    all_after waits = waits_move step before.plain now.plain (waits_logged w P t l v may.runs may.ready before.plain.resumes)
    all_after stamps = stamped
    all_after c = logged_step step logging_it may.runs may.room (draws_still w P Q t y l v logging_it (omega arith) refl) v c

    leaving_fits : Fits x Q
    leaving_fits =
        let inflates = inflates_stay step (sym (leaves_inflates w P t o d p within may v)) in
        let inflation : inflations n ≡ inflations w = inflations_stay w.shape.threads _ _ (λ j. λ u. inflates u j) in
        step_fits step x.words Q (exit_parts w (stepped w t l x.words) P (lock w) (parts_of n Q))
        (exit_are step x.words P o less inside is.waits is.called (lock w) inflates refl
        (lock_stays n w refl refl refl inflation) (header_stays n w refl refl refl inflation)) all_after

    pub leaving_logs : Logs w P t plan (Exit o)
    leaving_logs = record { now = Q; taken = leaving_taken; valid = inl leaving_fits }

-- THE LAW
module _ (w : World) (P : List PlainObject) (t : ℕ) (e : CallContext) (o d p : ℕ)
    (within : t < w.shape.threads) (may : MayLeave w.shape (w.known t) o d p) (v : Fits w P) where
  -- of several holds
  leaves_held : 2 ≤ d → Logs w P t (leave_plan e t o p) (Exit o)
  leaves_held deep =
      let less = less_held w P t o d p within may v in
      let is = lessens_held w P t o d p within may v deep in
      let same : (i : ℕ) → (monitor_of (objects_where P o less) i).owner ≡ (monitor_of P i).owner =
      λ i. sym (part_stays (λ y. y.monitor.owner) P o (object_with P o less) (inside w P t e o d p within may v less is) refl i) in
      leaving_logs w P t e o d p within may v less is
      (stamps_owned w P _ t (exit_entry (w.known t) o) _ v (logging_it w P t e o d p within may v less is) refl same
      (λ i b. ap (λ j. (monitor_of P j).owner) (sym (same_Some o i b)) ∙ owner_is w P t o d p within may v))

  -- the last hold, under a bias
  leaves_last : d ≡ 1 → lock w o ≡ BiasedTo t → HasRaised (w.known t) o → Logs w P t (leave_plan e t o p) (Exit o)
  leaves_last last leans raised =
      let is = lessens_last w P t o d p within may v last leans in
      let owned = owner_is w P t o d p within may v in
      let word : w.words (Stamp o) ≡ raised.0 = v.seen.stays t (Stamp o) raised.0 raised.1 (inl (may.runs, ap (λ a. is_thread a t) owned ∙ eq-eqb t t refl)) in
      leaving_logs w P t e o d p within may v (freed P o) is
      (freed_stamps w P t o _ v (inside w P t e o d p within may v (freed P o) is) owned (logging_it w P t e o d p within may v (freed P o) is)
      (omega (arith, word, raised.2)))

pub exits_by_a_hold_word : (e : CallContext) (o d p : ℕ) → LogsValid (λ w t. MayLeave w.shape (w.known t) o d p) (λ w t. leave_plan e t o p) (Exit o)
exits_by_a_hold_word e o d p w P t within may valid =
    let v = fits_running w P t may.runs valid in
    elim (leaves_deep w P t o d p within may v) [
      | inl deep ↦ leaves_held w P t e o d p within may v deep
      | inr c ↦ by_equal d 1 (λ last. leaves_last w P t e o d p within may v last c.0 (c.1 last))
          (λ more. leaves_held w P t e o d p within may v (omega (arith, leaves_some w P t o d p within may v, more)))
    ]
