-- At a reached safepoint the lengths that were seen are those of the logs: each other thread is stopped and has published its whole log.
use Rattle.core_locks.proofs.Prelude.{◌≡◌, ◌≢◌, ℕ, zero, suc, ◌+◌, ◌<◌, ◌==◌, Bool, true, false, cond, List, [], ◌∷◌}
use Rattle.core_locks.proofs.Prelude.{length, slice_index, refl, sym, ap, ◌∙◌, arith, PlainObject, Logged, Length}
use Rattle.core_locks.proofs.Prelude.{ThreadView, World, logs, Fits, by_equal, eq-eqb, ne_eqb, log_of, logs_from}
use Rattle.std.proofs.Common.{map, take_all}
use Rattle.plain_history.specs.Cuts.{cut_logs}
use Rattle.core_world.specs.RevocationRules.{words_from}
use Rattle.core_world.specs.Steps.{seen_words, cut_from}
use Rattle.core_world.proofs.NoWordChanges.{one_requester}
use Rattle.core_locks.specs.ShotLaws.{SawAll}
use Rattle.core_locks.proofs.safepoint.SafeFacts.{asking_unhalted}
use Rattle.core_locks.proofs.shot.ShotWords.{word_is}

-- the whole logs are their own fronts
pub cut_whole : (logs : List (List Logged)) → cut_logs (map (λ log. length log) logs) logs ≡ logs
cut_whole [] = refl
cut_whole (log ∷ logs) =
    ap (λ front. front ∷ cut_logs (map (λ l. length l) logs) logs) (take_all (length log) log (omega arith))
    ∙ ap (λ rest. log ∷ rest) (cut_whole logs)

-- the length of one of the logs
pub length_at : (logs : List (List Logged)) (t : ℕ) → slice_index (map (λ log. length log) logs) t ≡ length (log_of logs t)
length_at [] t = refl
length_at (log ∷ logs) zero = refl
length_at (log ∷ logs) (suc t) = length_at logs t

-- the lengths of the logs of n threads from thread u on
lengths_are : (u n : ℕ) (f : ℕ → ℕ) (g : ℕ → ThreadView) → ((i : ℕ) → i < u + n → f i ≡ length (g i).log)
    → words_from u n f ≡ map (λ log. length log) (logs_from u n g)
lengths_are u zero f g h = refl
lengths_are u (suc n) f g h =
    ap (λ y. y ∷ words_from (u + 1) n f) (h u (omega arith))
    ∙ ap (λ ys. length (g u).log ∷ ys) (lengths_are (u + 1) n f g (λ i below. h i (omega (arith, below))))

module _ (w : World) (P : List PlainObject) (t : ℕ) (reached : (w.known t).reached ≡ true) (v : Fits w P) where
  -- no other request stands
  unasking : (u : ℕ) → u ≢ t → (w.known u).requesting ≡ false
  unasking u d = by_request (w.known u).requesting refl
    where
      by_request : (b : Bool) → (w.known u).requesting ≡ b → (w.known u).requesting ≡ false
      by_request false e = e
      by_request true e = absurd (d (one_requester w P v.safe u t e (v.safe.safepoint t reached).0))

  -- so each other thread, which is stopped while nothing is halted, has published its whole log
  published : (u : ℕ) → u ≢ t → w.words (Length u) ≡ length (w.known u).log
  published u d = v.lengths.stored u
      ∙ v.lengths.all u ((v.safe.safepoint t reached).1 u) (unasking u d) (asking_unhalted w P t v.safe (v.safe.safepoint t reached).0)

  cut_at : SawAll w.shape (w.known t) → (u : ℕ) → u < w.shape.threads
      → cond (u == (w.known t).thread) (length (w.known t).log) (seen_words (w.known t) (Length u)) ≡ length (w.known u).log
  cut_at saw u below =
      ap (λ y. cond (u == y) (length (w.known t).log) (seen_words (w.known t) (Length u))) (v.numbered t)
      ∙ by_equal u t
      (λ e. ap (λ (b : Bool). cond b (length (w.known t).log) (seen_words (w.known t) (Length u))) (eq-eqb u t e) ∙ ap (λ y. length (w.known y).log) (sym e))
      (λ d. ap (λ (b : Bool). cond b (length (w.known t).log) (seen_words (w.known t) (Length u))) (ne_eqb u t d)
      ∙ word_is w P t reached v (Length u) (saw.lengths u below) ∙ published u d)

  pub cut_seen : SawAll w.shape (w.known t) → cut_from 0 w.shape.threads (w.known t) ≡ map (λ log. length log) (logs w)
  cut_seen saw = lengths_are 0 w.shape.threads _ w.known (λ u below. cut_at saw u (omega (arith, below)))
