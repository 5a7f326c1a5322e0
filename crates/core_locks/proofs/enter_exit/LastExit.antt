-- A thread logs its last Exit from an object: nobody owns that object afterwards. How it lets go of the lock is left open.
use Rattle.core_locks.proofs.Prelude.{◌≡◌, ◌≢◌, ◌⊎◌, ℕ, ◌+◌, ◌<◌, ◌≤◌, ◌||◌, eq-eqb, ne_eqb, true, false, cond, List, [], ◌∷◌, ◌++◌, length, Some}
use Rattle.core_locks.proofs.Prelude.{None, refl, sym, ap, ◌∙◌, subst, arith, inl, inr, nat_le, nat_tests, same_Some, PlainMonitor, is_thread}
use Rattle.core_locks.proofs.Prelude.{exit, PlainObject, take_entry, Logged, Exit, Stamp, Hold, Waiting, Recursions, Settled, Resumes, Exits}
use Rattle.core_locks.proofs.Prelude.{Waits, OwnerConverted, monitor_in, bears, hold_words_ahead, recursions_ahead, recursions_lowered}
use Rattle.core_locks.proofs.Prelude.{notification_in, revocation_in, one_if, ThreadView, last_seen, local_of, World, with_known, logs_from, Lock}
use Rattle.core_locks.proofs.Prelude.{Open, OnRecord, OwnedBy, lock, marks, displaced_words, who, holder, hold_count, recursion_count}
use Rattle.core_locks.proofs.Prelude.{holds_by_monitor, monitor_of, owner_at, hash_at, waits_at, notified_at, HoldsFitLogs, RecordsRest}
use Rattle.core_locks.proofs.Prelude.{RecursionsFit, GoesByMonitor, next_stamp, Fits, WaitsFit, StoppedAreQuiet, bound_stamp, StampsFit}
use Rattle.core_locks.proofs.Prelude.{LocksArePlain, log_limit, DrawsFit, Shape, by_equal, each_with_known, thread_is, unlisted_count, IsOwnEntry}
use Rattle.core_locks.proofs.Logging.{Covers, IsLogging, bound_grows, stamps_next}
use Rattle.core_world.proofs.Updates.{each_object, part_stays}
use Rattle.core_locks.proofs.WaitOut.{no_other, holder_owns, out_unlisted, ready_is_out}
use Rattle.core_locks.proofs.enter_exit.ExitEntries.{exit_entry, object_with, objects_where, exit_taken, exit_logging, owner_here, owner_else, owner_fails}
use Rattle.core_locks.proofs.Clauses.{Clause, quiet, holds, owners, records, waits, stamps}
use Rattle.core_locks.proofs.hash.Drawing.{draws_still}
use Rattle.core_locks.proofs.LockTurns.{records_turn}
use Rattle.core_locks.proofs.LoggedSteps.{Grown, logged_step}
use Rattle.core_locks.proofs.Steps.{stage_part, Fields, IsStep, IsPlain, plain_by, quiet_next, stage_back, waits_move}
use Rattle.core_locks.proofs.telling.Tells.{waits_logged}

-- the plain monitor has no owner
abbrev pub freed : List PlainObject → ℕ → PlainMonitor
freed P o = record { owner = None; count = 0; waits = (monitor_of P o).waits; called = (monitor_of P o).called }

-- the bound of the stamps on the object is its stamp word then, which the thread has raised
pub freed_stamps : (w : World) (P : List PlainObject) (t o : ℕ) (l : ThreadView) (v : Fits w P) → o < length P → (monitor_of P o).owner ≡ Some t
    → IsLogging w P (objects_where P o (freed P o)) t (exit_entry (w.known t) o) l → next_stamp (local_of (w.known t)) ≤ w.words (Stamp o)
    → StampsFit (logs_from 0 w.shape.threads (with_known t l w.known)) (λ u. (with_known t l w.known u).log) (λ i. w.words (Stamp i))
    (λ i. (monitor_of (objects_where P o (freed P o)) i).owner) (λ u. (with_known t l w.known u).unfinished)
freed_stamps w P t o l v inside owner logging high =
    let Q = objects_where P o (freed P o) in
    let z = object_with P o (freed P o) in
    let y = exit_entry (w.known t) o in
    stamps_next w P Q t y l v logging (omega (arith, v.stamps.logged t))
    (each_object (λ i b. Covers w P t y l i b.monitor.owner) P o z inside
    (let before = ap (bound_stamp (λ u. (w.known u).log) (w.words (Stamp o))) owner in (omega (arith, before, high), λ b. high))
    (λ i d. (bound_grows w P Q t y l v logging (w.words (Stamp i)) (monitor_of P i).owner, λ b. absurd (d (sym (same_Some o i b))))))

-- the thread's last hold goes, after the stamp was raised
pub record MayExit (s : Shape) (k : ThreadView) (o stamp : ℕ) : Type 0 where
  pub runs : k.running ≡ true
  pub calm : k.stage ≡ Settled
  pub ready : k.wait ≡ 0
  pub object : o < length s.objects
  pub last : hold_count o k.holds ≡ 1
  pub stamped : last_seen (Stamp o) k.seen ≡ Some stamp
  pub high : next_stamp (local_of k) ≤ stamp
  pub room : length k.log < log_limit
  pub own_entry : IsOwnEntry k (Exit o)

-- its step logs the Exit, and leads to Exits
pub record IsExit (k l : ThreadView) (o p : ℕ) : Type 0 where
  pub grows : l.log ≡ k.log ++ exit_entry k o ∷ []
  pub stage : l.stage ≡ Exits o p
  pub draws : l.draws ≡ k.draws

pub record IsLastExit (w : World) (P : List PlainObject) (t : ℕ) (l : ThreadView) (fields : Fields) (o p s : ℕ) : Type 0 where
  pub step : IsStep w t l fields
  pub may : MayExit w.shape (w.known t) o s
  pub exits : IsExit (w.known t) l o p
  pub fits : Fits w P

module _ {w : World} {P : List PlainObject} {t : ℕ} {l : ThreadView} {fields : Fields} {o p s : ℕ} (last_exit : IsLastExit w P t l fields o p s) where
  open last_exit use {step, may, exits as a, fits as v}

  abbrev y : Logged
  y = exit_entry (w.known t) o

  abbrev m : PlainMonitor
  m = monitor_of P o

  abbrev z : PlainObject
  z = object_with P o (freed P o)

  abbrev Q : List PlainObject
  Q = objects_where P o (freed P o)

  pub inside : o < length P
  inside = omega (arith, v.sized, may.object)

  -- the plain monitor
  pub owned : (owner_at P o t ≡ true) × (hold_count o (w.known t).holds ≡ m.count)
  owned = holder_owns w P t v (ready_is_out (w.known t) may.ready) o may.calm (omega (arith, may.last))

  owner_is : m.owner ≡ Some t
  owner_is = thread_is m.owner t owned.0

  exits : exit m t ≡ Some (freed P o)
  exits =
      let a = owned.0 in
      let b : nat_le m.count 1 ≡ true = (let c = owned.1 in let d = may.last in grind (arith, nat_tests, c, d)) in
      rw (a, b) refl

  pub letting_go_taken : take_entry P t (Exit o) ≡ Some Q
  letting_go_taken = exit_taken P o t (freed P o) inside exits

  pub logging_it : IsLogging w P Q t y l
  logging_it = exit_logging w P Q t o l step.within owner_is letting_go_taken a.grows may.own_entry

  unresumed : (i : ℕ) → (w.known t).stage ≡ Resumes i → ⊥
  unresumed i e = cc (sym may.calm ∙ e)

  -- its owner goes, and each other object has the owner that it had
  none_owns : (u : ℕ) → is_thread (freed P o).owner u ≡ true → owner_at P o u ≡ true
  none_owns u f = absurd (cc f)

  owner_gone : (u : ℕ) → owner_at Q o u ≡ false
  owner_gone = owner_here P o (freed P o) inside none_owns

  owner_stays : (i u : ℕ) → i ≢ o → owner_at Q i u ≡ owner_at P i u
  owner_stays = owner_else P o (freed P o) inside none_owns

  pub owner_back : (i u : ℕ) → owner_at Q i u ≡ true → (i ≢ o) × (owner_at P i u ≡ true)
  owner_back i u f = by_equal i o (λ q. absurd (cc (owner_gone u, ap (λ j. owner_at Q j u) (sym q) ∙ f))) (λ d. (d, sym (owner_stays i u d) ∙ f))

  pub stamp_word : w.words (Stamp o) ≡ s
  stamp_word = v.seen.stays t (Stamp o) s may.stamped (inl (may.runs, owned.0))

  -- THE LOCK was the thread's, so nobody else owns the object or bears it
  module _ (holder_is : who w o ≡ Some t) where
    none_else : (u : ℕ) → u ≢ t → (owner_at P o u ≡ false) × (bears (w.known u).stage o ≡ false)
    none_else u d = no_other w P o u v (ap (λ a. is_thread a u) holder_is ∙ ne_eqb t u (λ q. d (sym q)))

    -- the thread stands at the object no more, and has one hold word besides those of its log
    stands_here : holds_by_monitor (freed P o) t ≡ 0
    stands_here =
        let n = out_unlisted w P t v (ready_is_out (w.known t) may.ready) unresumed o in
        omega (arith, unlisted_count (waits_at P o) t n.0, unlisted_count (notified_at P o) t n.1)

    stands_else : (u : ℕ) → u ≢ t → holds_by_monitor (freed P o) u ≡ holds_by_monitor m u
    stands_else u d = let b = ap (λ b. cond b m.count 0) (none_else u d).0 in omega (arith, b)

    pub number_now : (u i : ℕ) → hold_count i (w.known u).holds ≡ holds_by_monitor (monitor_of Q i) u + hold_words_ahead (with_known t l w.known u).stage i
    number_now u i = each_with_known (λ u k. hold_count i (w.known u).holds ≡ holds_by_monitor (monitor_of Q i) u + hold_words_ahead k.stage i) t l w.known u
        (each_object (λ i y. hold_count i (w.known t).holds ≡ holds_by_monitor y.monitor t + hold_words_ahead l.stage i) P o z inside
        (let one = ap (λ f. hold_words_ahead f o) a.stage ∙ ap one_if (eq-eqb o o refl) in omega (arith, one, may.last, stands_here))
        (λ i d.
        let none = ap (λ f. hold_words_ahead f i) a.stage ∙ ap one_if (ne_eqb o i (λ q. d (sym q))) in
        omega (arith, v.holds.number t i, none, ap (λ f. hold_words_ahead f i) may.calm)) i)
        (λ n. v.holds.number u i ∙ ap (λ k. k + hold_words_ahead (w.known u).stage i)
        (part_stays (λ y. holds_by_monitor y.monitor u) P o z inside (stands_else u n) i))

    -- THE CLAUSES, where the lock is open afterwards, and the other locks stay
    module _ (locks : ℕ → Lock) (now : (i : ℕ) → ((i ≡ o) × (locks i ≡ Open)) ⊎ ((i ≢ o) × (locks i ≡ lock w i))) where
      pub was_locked : (i : ℕ) (f : Lock) → locks i ≡ f → (f ≡ Open → ⊥) → (i ≢ o) × (lock w i ≡ f)
      was_locked i f g d = elim (now i) [ inl b ↦ absurd (d (sym g ∙ b.1)) | inr b ↦ (b.0, sym b.1 ∙ g) ]

      bears_none : (u : ℕ) → bears (with_known t l w.known u).stage o ≡ false
      bears_none u = each_with_known (λ u k. bears k.stage o ≡ false) t l w.known u (ap (λ f. bears f o) a.stage) (λ d. (none_else u d).1)

      goes : (i u : ℕ) → GoesByMonitor (locks i) (waits_at P i) (notified_at P i) u → GoesByMonitor (lock w i) (waits_at P i) (notified_at P i) u
      goes i u (inl g) = inl (was_locked i (OwnedBy u) g (λ f. cc f)).1
      goes i u (inr g) = inr g

      -- where the mark of o names a monitor afterwards, its recursions are 0
      pub recursions_law : (mark : ℕ → ℕ) → ((i m : ℕ) → monitor_in (mark i) ≡ Some m → monitor_in (marks w i) ≡ Some m)
          → ((m : ℕ) → monitor_in (mark o) ≡ Some m → w.words (Recursions m) ≡ 0)
          → RecursionsFit mark (λ m. w.words (Recursions m)) locks (λ u. (w.known u).holds)
          (λ u. (with_known t l w.known u).stage) (λ u. (w.known u).saved) (displaced_words w) (waits_at P) (notified_at P)
      recursions_law mark names zero = record {
        first = λ i u q g. v.recursions.first i u q (goes i u g);
        others = λ i u q d g. v.recursions.others i u q d (goes i u g);
        owned = λ i m u n g. each_with_known (λ u k. lock w i ≡ OwnedBy u → (k.stage ≡ Waits i → ⊥) → (k.stage ≡ Resumes i → ⊥)
            → w.words (Recursions m) + recursions_lowered k.stage i
            ≡ recursion_count i (displaced_words w u) (w.known u).holds + recursions_ahead k.stage i) t l w.known u
            (λ g b d.
            let was = v.recursions.owned i m t (names i m n) g (λ e. cc (sym may.calm ∙ e)) (unresumed i) in
            omega (
              arith,
              was,
              ap (λ f. recursions_lowered f i) may.calm,
              ap (λ f. recursions_ahead f i) may.calm,
              ap (λ f. recursions_lowered f i) a.stage,
              ap (λ f. recursions_ahead f i) a.stage,
            ))
            (λ d g. v.recursions.owned i m u (names i m n) g) (was_locked i (OwnedBy u) g (λ f. cc f)).1;
        waiting = v.recursions.waiting;
        on_record = λ i m u q n g. v.recursions.on_record i m u q (names i m n) (was_locked i (OnRecord u q) g (λ f. cc f)).1;
        free = λ i m n g. elim (now i) [
          | inl b ↦ zero m (ap (λ j. monitor_in (mark j)) (sym b.0) ∙ n)
          | inr b ↦ v.recursions.free i m (names i m n) (sym b.1 ∙ g)
        ];
        thread_owns = λ i u f. v.recursions.thread_owns i u (stage_back step (OwnerConverted i) u (λ g. cc (sym a.stage ∙ g)) f).1;
      }

      pub drawn : DrawsFit w.start (logs_from 0 w.shape.threads (with_known t l w.known))
          (λ u. (with_known t l w.known u).log) (λ u. (with_known t l w.known u).draws) (hash_at P)
      drawn = draws_still w P Q t y l v logging_it (omega (arith, a.draws)) refl

      abbrev pub Last : Clause → Type 0
      Last quiet = StoppedAreQuiet (λ u. (w.known u).running) (λ u. (w.known u).reached) (λ u. (with_known t l w.known u).stage)
      Last holds = HoldsFitLogs (λ u q. w.words (Hold u q)) (λ u. (w.known u).holds)
          (λ u i. hold_words_ahead (with_known t l w.known u).stage i) (λ i u. holds_by_monitor (monitor_of Q i) u)
      Last owners = LocksArePlain (λ i. holder (locks i) (λ u. hold_count i (w.known u).holds)) (λ u. (with_known t l w.known u).stage) (owner_at Q)
      Last records = RecordsRest locks (λ u. (w.known u).holds) (λ u. (with_known t l w.known u).stage) (displaced_words w)
      Last waits =
          WaitsFit (λ i. monitor_in (marks w i)) (λ u. w.words (Waiting u)) (λ u. (w.known u).wait)
          (λ u. (with_known t l w.known u).log) (λ u. (with_known t l w.known u).stage) (λ u. (with_known t l w.known u).unfinished)
          (λ u. (w.known u).running) (waits_at P) (notified_at P)
      Last stamps = StampsFit (logs_from 0 w.shape.threads (with_known t l w.known)) (λ u. (with_known t l w.known u).log)
          (λ i. w.words (Stamp i)) (λ i. (monitor_of Q i).owner) (λ u. (with_known t l w.known u).unfinished)
      Last c = Grown step logging_it may.runs may.room drawn v c

      pub last_step : (c : Clause) → Last c
      last_step quiet = quiet_next step P (ap revocation_in a.stage) may.runs v
      last_step holds = record { stored = v.holds.stored; places = v.holds.places; number = number_now; each = v.holds.each }
      last_step owners = record {
        same = λ i u. elim (now i) [
          | inl b ↦
              let none : (owner_at Q i u || bears (with_known t l w.known u).stage i) ≡ false =
              ap (λ j. owner_at Q j u || bears (with_known t l w.known u).stage j) b.0 ∙ (λ j. owner_gone u j || bears_none u j) in
              ap (λ f. is_thread (holder f (λ k. hold_count i (w.known k).holds)) u) b.1 ∙ sym none
          | inr b ↦
              let same = stage_part step (λ f. bears f i) (ap (λ f. bears f i) a.stage ∙ sym (ap (λ f. bears f i) may.calm)) u in
              ap (λ f. is_thread (holder f (λ k. hold_count i (w.known k).holds)) u) b.1 ∙ v.owners.same i u ∙ (λ j. sym (owner_stays i u b.0) j || sym same j)
        ];
        let_go = λ i u f. owner_fails P o (freed P o) inside none_owns i u (v.owners.let_go i u (stage_back step (Waits i) u (λ g. cc (sym a.stage ∙ g)) f).1);
        left = λ i u q f. each_with_known (λ u k. k.stage ≡ Exits i q → owner_at Q i u ≡ false) t l w.known u
            (λ g. let here : o ≡ i = cc (sym a.stage ∙ g) in ap (λ j. owner_at Q j t) (sym here) ∙ owner_gone t)
            (λ n g. owner_fails P o (freed P o) inside none_owns i u (v.owners.left i u q g)) f;
        calls = λ i u. each_with_known (λ u k. notification_in k.stage ≡ Some i → owner_at Q i u ≡ true) t l w.known u
            (λ g. let none = ap notification_in a.stage in absurd (cc (none, g)))
            (λ n g.
            let b = v.owners.calls i u g in
            by_equal i o (λ q. let other = none_else u n in absurd (cc (other.0, ap (λ j. owner_at P j u) (sym q) ∙ b))) (λ d. owner_stays i u d ∙ b));
      }
      last_step records = records_turn step v locks o Open now (λ u q c. cc c) (λ u h. same_Some _ _ (sym h ∙ holder_is))
          (λ i q c. cc (sym may.calm ∙ c)) (λ i q c. cc (sym a.stage ∙ c)) (λ i c. absurd (cc (sym a.stage ∙ c)))
      last_step waits = waits_move step (subst IsPlain (sym may.calm) (plain_by Settled refl))
          (subst IsPlain (sym a.stage) (plain_by (Exits o p) refl)) (waits_logged w P t l v may.runs may.ready unresumed)
      last_step stamps = freed_stamps w P t o l v inside owner_is logging_it (omega (arith, stamp_word, may.high))
      last_step c = logged_step step logging_it may.runs may.room drawn v c
