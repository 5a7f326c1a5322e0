-- A calm thread whose waiting word is Ready logs an entry and stands where it stood: the clauses that this touches, whatever the step's word is.
use Rattle.core_locks.proofs.Prelude.{◌≡◌, ◌⊎◌, ℕ, ◌+◌, ◌<◌, true, false, List, [], ◌∷◌, ◌++◌, Some, sym, ap, ◌∙◌, inl, inr, is_listed, owns}
use Rattle.core_locks.proofs.Prelude.{PlainObject, Logged, last_stamp, bound_to, WordId, Stamp, Waiting, Resumes, monitor_in, waits_on, stamp_in}
use Rattle.core_locks.proofs.Prelude.{enters_on, says_ended, ThreadView, World, with_known, logs_from, marks, holds_by_monitor, object_of}
use Rattle.core_locks.proofs.Prelude.{monitor_of, owner_at, hash_at, waits_at, notified_at, Fits, WaitsFit, last_entry, ends, IsUnfinished}
use Rattle.core_locks.proofs.Prelude.{StampsFit, DrawsFit, SlotsFit, each_with_known, no_entering, no_ended, thread_is, IsOwnEntry}
use Rattle.plain_monitor.specs.declared.entry.Entry.TheVariants as entry
use Rattle.core_world.specs.declared.heap_call.Operation.TheVariants as op
use Rattle.core_locks.proofs.Clauses.{Parts, parts_of, Clause, waits, stamps, slots}
use Rattle.core_locks.proofs.Logging.{IsLogging, next_logging, stamps_owned}
use Rattle.core_locks.proofs.LoggedSteps.{Grown, logged_step}
use Rattle.core_locks.proofs.Steps.{Fields, IsStep, next, logs_next}
use Rattle.core_locks.proofs.telling.TellTaken.{IsFreeToTell, IsTaken}
use Rattle.core_locks.proofs.WaitOut.{out_word, out_waits, out_unlisted, ready_is_out}

-- the waits, where the thread runs, its waiting word is Ready, and it doesn't resume
module _ (w : World) (P : List PlainObject) (t : ℕ) (l : ThreadView) (v : Fits w P) (runs : (w.known t).running ≡ true)
    (ready : (w.known t).wait ≡ 0) (unresumed : (o : ℕ) → (w.known t).stage ≡ Resumes o → ⊥) where
  word_ready : w.words (Waiting t) ≡ 0
  word_ready = out_word w P t v (ready_is_out (w.known t) ready) ∙ ready

  -- it stands at no object's lists
  pub unlisted : (o : ℕ) → (is_listed (waits_at P o) t ≡ true) ⊎ (is_listed (notified_at P o) t ≡ true) → ⊥
  unlisted o h =
      let b = out_unlisted w P t v (ready_is_out (w.known t) ready) unresumed o in
      elim h [ inl e ↦ absurd (cc (e, b.0)) | inr e ↦ absurd (cc (e, b.1)) ]

  pub waits_logged : WaitsFit (λ i. monitor_in (marks w i)) (λ u. w.words (Waiting u)) (λ u. (w.known u).wait) (λ u. (with_known t l w.known u).log)
      (λ u. (w.known u).stage) (λ u. (with_known t l w.known u).unfinished) (λ u. (w.known u).running) (waits_at P) (notified_at P)
  waits_logged = record {
    waiting = v.waits.waiting;
    waiter = v.waits.waiter;
    notified = v.waits.notified;
    told = v.waits.told;
    telling = v.waits.telling;
    resuming = v.waits.resuming;
    leaving = v.waits.leaving;
    unfinished = λ u i. each_with_known (λ u k. (is_listed (waits_at P i) u ≡ true) ⊎ (is_listed (notified_at P i) u ≡ true)
        → IsUnfinished k.unfinished op.Wait i) t l w.known u
        (λ h. absurd (unlisted i h)) (λ d. v.waits.unfinished u i);
    stored = v.waits.stored;
    entering = λ u i. each_with_known (λ u k. enters_on (w.words (Waiting u)) i ≡ true
        → IsUnfinished k.unfinished op.Enter i × ((m : ℕ) × (monitor_in (marks w i) ≡ Some m))) t l w.known u
        (λ h. let no = ap (λ n. enters_on n i) (word_ready) ∙ no_entering i in absurd (cc (h, no))) (λ d. v.waits.entering u i);
    done = λ u. each_with_known (λ u k. says_ended (w.words (Waiting u)) ≡ true → ends k.log ≡ true) t l w.known u
        (λ h. let no = ap says_ended (word_ready) ∙ no_ended in absurd (cc (h, no))) (λ d. v.waits.done u);
    stopped = λ u. each_with_known (λ u k. ends k.log ≡ true → (w.known u).running ≡ false → says_ended (w.words (Waiting u)) ≡ true) t l w.known u
        (λ g r. absurd (cc (r, runs))) (λ d. v.waits.stopped u);
    stamped = λ u i. each_with_known (λ u k. waits_on (w.words (Waiting u)) i ≡ true
        → last_entry k.log ≡ Some (record { stamp = stamp_in (w.words (Waiting u)); entry = entry.Wait i })) t l w.known u
        (λ h. let no = out_waits w P t v (ready_is_out (w.known t) ready) i in absurd (cc (h, no))) (λ d. v.waits.stamped u i);
    sorted = v.waits.sorted;
    inflated = v.waits.inflated;
  }

-- Thread t logs y, and then knows l. The plain objects P become Q, which have the same monitors. If the entry is bound to an object, the thread
-- is the owner of that.
pub record IsTelling (w : World) (P Q : List PlainObject) (t : ℕ) (y : Logged) (l : ThreadView) : Type 0 where
  pub free : IsFreeToTell (w.known t)
  pub logs : IsLogging w P Q t y l
  pub owned : (o : ℕ) → bound_to y.entry ≡ Some o → owner_at P o t ≡ true
  pub stamp : y.stamp ≡ last_stamp (w.known t).log + 1
  pub monitors : monitor_of P ≡ monitor_of Q

-- so does one that is free to log the entry, with the next stamp
pub tells_so : {w : World} {P Q : List PlainObject} {t : ℕ} {y : Logged} {l : ThreadView}
    → Fits w P → t < w.shape.threads → IsFreeToTell (w.known t) → l.log ≡ (w.known t).log ++ y ∷ []
    → y.stamp ≡ last_stamp (w.known t).log + 1 → IsTaken P Q t y.entry → IsOwnEntry (w.known t) y.entry → IsTelling w P Q t y l
tells_so {w} {P} {Q} {t} {y} {l} v within free grows stamp entry own =
    let logs : IsLogging w P Q t y l = next_logging within grows entry.taken own stamp (λ o e. thread_is (monitor_of P o).owner t (entry.owned o e)) in
    search (free, logs, entry.owned, stamp, entry)

module _ {w : World} {P Q : List PlainObject} {t : ℕ} {y : Logged} {l : ThreadView} {fields : Fields}
    (s : IsStep w t l fields) (a : IsTelling w P Q t y l) where
  -- the parts afterwards, in terms of P where they are the same
  abbrev pub told_parts : (WordId → ℕ) → Parts
  told_parts f = record (parts_of (next w t l fields f) Q) {
    logs = logs_from 0 w.shape.threads (with_known t l w.known);
    stands = λ i u. holds_by_monitor (monitor_of P i) u;
    owner = owner_at P;
    waits = waits_at P;
    called = notified_at P;
  }

  pub told_are : (f : WordId → ℕ) → parts_of (next w t l fields f) Q ≡ told_parts f
  told_are f =
      let same : monitor_of Q ≡ monitor_of P = sym a.monitors in
      λ j. record (parts_of (next w t l fields f) Q) {
        logs = logs_next s f j;
        stands = λ i u. holds_by_monitor (same j i) u;
        owner = λ i u. owns (same j i) u;
        waits = λ i. (same j i).waits;
        called = λ i. (same j i).called;
      }

  -- and where the hashes are the same too
  abbrev pub still_parts : (WordId → ℕ) → Parts
  still_parts f = record (told_parts f) { hash = hash_at P }

  pub still_are : hash_at P ≡ hash_at Q → (f : WordId → ℕ) → parts_of (next w t l fields f) Q ≡ still_parts f
  still_are same f = told_are f ∙ (λ j. record (told_parts f) { hash = sym same j })

  module _ {hash : ℕ → ℕ} {slot : ℕ → ℕ → ℕ} (v : Fits w P) (slotted : SlotsFit w.shape slot (λ i. (object_of Q i).slots)) (drawn : DrawsFit w.start
      (logs_from 0 w.shape.threads (with_known t l w.known)) (λ u. (with_known t l w.known u).log) (λ u. (with_known t l w.known u).draws) hash) where
    abbrev pub Told : Clause → Type 0
    Told waits =
        WaitsFit (λ i. monitor_in (marks w i)) (λ u. w.words (Waiting u)) (λ u. (w.known u).wait) (λ u. (with_known t l w.known u).log)
        (λ u. (w.known u).stage) (λ u. (with_known t l w.known u).unfinished) (λ u. (w.known u).running)
        (waits_at P) (notified_at P)
    Told stamps = StampsFit (logs_from 0 w.shape.threads (with_known t l w.known)) (λ u. (with_known t l w.known u).log)
        (λ i. w.words (Stamp i)) (λ i. (monitor_of Q i).owner) (λ u. (with_known t l w.known u).unfinished)
    Told slots = SlotsFit w.shape slot (λ i. (object_of Q i).slots)
    Told c = Grown s a.logs a.free.runs a.free.room drawn v c

    pub told_step : (c : Clause) → Told c
    told_step waits = waits_logged w P t l v a.free.runs a.free.ready (λ o e. let calm = a.free.calm in absurd (cc (e, calm)))
    told_step stamps = stamps_owned w P Q t y l v a.logs a.stamp
        (λ i. λ j. (sym a.monitors j i).owner) (λ i e. thread_is (monitor_of P i).owner t (a.owned i e))
    told_step slots = slotted
    told_step c = logged_step s a.logs a.free.runs a.free.room drawn v c
