-- A running thread logs an entry: the clauses that this touches, whatever else the step does.
use Rattle.core_locks.proofs.Prelude.{◌≡◌, ℕ, ◌<◌, ◌≤◌, ◌==◌, true, List, length, Some, PlainObject, Logged, objects_after}
use Rattle.core_locks.proofs.Prelude.{LegalObjects, Safepoint, Length, is_halted, ThreadView, World, with_known, logs_from, monitor_of}
use Rattle.core_locks.proofs.Prelude.{Fits, ends, SafepointIsKnown, LengthsFit, log_limit, DrawsFit, first_known, ShotsFit}
use Rattle.core_locks.proofs.Clauses.{parts_of, Clause, legal, taken, sized, absent, safe, lengths, draws, shots, Holds, clauses}
use Rattle.core_locks.proofs.Logging.{IsLogging, legal_next, taken_next, sized_next, length_next}
use Rattle.core_locks.proofs.shot.ShotLogs.{shots_logged}
use Rattle.core_locks.proofs.Steps.{Fields, IsStep, absent_next, safe_next, lengths_next}

module _ {w : World} {P Q : List PlainObject} {t : ℕ} {y : Logged} {l : ThreadView} {fields : Fields} {hash : ℕ → ℕ}
    (s : IsStep w t l fields) (a : IsLogging w P Q t y l) (runs : (w.known t).running ≡ true)
    (room : length (w.known t).log < log_limit) (drawn : DrawsFit w.start (logs_from 0 w.shape.threads (with_known t l w.known))
    (λ u. (with_known t l w.known u).log) (λ u. (with_known t l w.known u).draws) hash) (v : Fits w P) where
  abbrev pub Grown : Clause → Type 0
  Grown legal = LegalObjects w.shape.objects (logs_from 0 w.shape.threads (with_known t l w.known))
  Grown taken = objects_after w.shape.objects (logs_from 0 w.shape.threads (with_known t l w.known)) ≡ Some Q
  Grown sized = length Q ≡ length w.shape.objects
  Grown absent = (u : ℕ) → w.shape.threads ≤ u → fields (u == t) l (w.known u) ≡ first_known u
  Grown safe =
      SafepointIsKnown w.shape.threads (w.words Safepoint) (λ u. (w.known u).running) (λ u. (w.known u).requesting)
      (λ u. (w.known u).reached) (λ u. (w.known u).halted) (λ u. ends (with_known t l w.known u).log)
      (λ u. (with_known t l w.known u).unfinished) (monitor_of Q)
  Grown lengths = LengthsFit (λ u. w.words (Length u)) (λ u. (w.known u).published) (λ u. (with_known t l w.known u).log)
      (λ u. (w.known u).running) (λ u. (w.known u).requesting) (is_halted (w.words Safepoint))
  Grown draws = DrawsFit w.start (logs_from 0 w.shape.threads (with_known t l w.known))
      (λ u. (with_known t l w.known u).log) (λ u. (with_known t l w.known u).draws) hash
  Grown shots = ShotsFit w.shape.objects (logs_from 0 w.shape.threads (with_known t l w.known))
      (λ u. (with_known t l w.known u).log) (λ u. (w.known u).shots) (λ u. (with_known t l w.known u).unfinished)
  Grown c = Holds (parts_of w P) c

  pub logged_step : (c : Clause) → Grown c
  logged_step legal = legal_next w P Q t y l v a
  logged_step taken = taken_next w P Q t y l v a
  logged_step sized = sized_next w P Q t y l v a
  logged_step absent = absent_next s P v
  logged_step safe = safe_next s P Q (λ u. ends (with_known t l w.known u).log) runs v
  logged_step lengths = lengths_next s P (length_next w P Q t y l v a) room runs v
  logged_step draws = drawn
  logged_step shots = shots_logged w P Q t y l v a
  logged_step c = clauses w P v c
