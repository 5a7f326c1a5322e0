-- What a thread knows changes in what it has seen, in its counts and in its call alone: each clause but that of what was seen holds again.
use Rattle.core_locks.proofs.Prelude.{◌≡◌, ℕ, zero, suc, ◌+◌, ◌<◌, ◌≤◌, ◌==◌, Bool, true, false, cond, List, Option, Some, refl, sym, ◌∙◌, subst}
use Rattle.core_locks.proofs.Prelude.{arith, PlainObject, LegalObjects, objects_after, Logged, Stage, Unfinished, hold_words_ahead, inflation_in}
use Rattle.core_locks.proofs.Prelude.{ThreadView, World, logs, with_known, lock, header, inflations, first_known, SafepointIsKnown, StoppedAreQuiet}
use Rattle.core_locks.proofs.Prelude.{ends, HoldsFitLogs, LocksArePlain, BiasedAreFree, RecordsRest, InflationsAreOne, RecursionsFit, HashesFit}
use Rattle.core_locks.proofs.Prelude.{DrawsFit, WaitsFit, StampsFit, LengthsFit, MonitorsAreClaimed, ClassesFit, bulk_rebiases, bulk_revokes}
use Rattle.core_locks.proofs.Prelude.{frame2, frame3, frame4, frame5, frame6, frame8, frame9, with_knowledge, each_with_known, part_moves}
use Rattle.core_locks.proofs.Prelude.{logs_stay, lock_stays, header_stays, inflations_stay, who_stays, MovesFit}
use Rattle.core_world.specs.Threads.Counts.{CountedVerdict, counts_of}
use Rattle.core_world.specs.Shots.{ShotsFit}
use Rattle.core_locks.proofs.Clauses as clause
use Rattle.core_bias.specs.Revoking.{SameButForStores}
use Rattle.core_bias.proofs.Unseen.{FitsUnseen, Unclassed, unclassed, classed}

-- who is told last is heard
pub told_told : (t : ℕ) (k l : ThreadView) (f : ℕ → ThreadView) → with_known t k (with_known t l f) ≡ with_known t k f
told_told t k l f = λ i. λ u. each u (u == t) i
  where
    each : (u : ℕ) (b : Bool) → cond b k (cond b l (f u)) ≡ cond b k (f u)
    each u true = refl
    each u false = refl

-- the sums over threads
pub rebiases_same : (n : ℕ) (f g : ℕ → List CountedVerdict) (c : ℕ)
    → ((t : ℕ) → (counts_of (f t) c).rebias ≡ (counts_of (g t) c).rebias) → bulk_rebiases n f c ≡ bulk_rebiases n g c
rebiases_same zero f g c h = refl
rebiases_same (suc n) f g c h = (λ i. rebiases_same n f g c h i + h n i)

pub revokes_same : (n : ℕ) (f g : ℕ → List CountedVerdict) (c : ℕ)
    → ((t : ℕ) → (counts_of (f t) c).revoke ≡ (counts_of (g t) c).revoke) → bulk_revokes n f c ≡ bulk_revokes n g c
revokes_same zero f g c h = refl
revokes_same (suc n) f g c h = (λ i. revokes_same n f g c h i + h n i)

module _ (w : World) (P : List PlainObject) (t : ℕ) (l : ThreadView)
    (b : SameButForStores (w.known t) l) (within : t < w.shape.threads) (v : Unclassed w P) where
  abbrev now : World
  now = with_knowledge t l w

  holds : ◌≡◌ {A = ℕ → List ℕ} (λ u. (w.known u).holds) (λ u. (now.known u).holds)
  holds = part_moves (λ y. y.holds) t l w.known b.holds

  stage : ◌≡◌ {A = ℕ → Stage} (λ u. (w.known u).stage) (λ u. (now.known u).stage)
  stage = part_moves (λ y. y.stage) t l w.known b.stage

  running : ◌≡◌ {A = ℕ → Bool} (λ u. (w.known u).running) (λ u. (now.known u).running)
  running = part_moves (λ y. y.running) t l w.known b.running

  requesting : ◌≡◌ {A = ℕ → Bool} (λ u. (w.known u).requesting) (λ u. (now.known u).requesting)
  requesting = part_moves (λ y. y.requesting) t l w.known b.requesting

  unfinished : ◌≡◌ {A = ℕ → Option Unfinished} (λ u. (w.known u).unfinished) (λ u. (now.known u).unfinished)
  unfinished = part_moves (λ y. y.unfinished) t l w.known b.unfinished

  log : ◌≡◌ {A = ℕ → List Logged} (λ u. (w.known u).log) (λ u. (now.known u).log)
  log = part_moves (λ y. y.log) t l w.known b.log

  inflates : ◌≡◌ {A = ℕ → _} (λ u. inflation_in (w.known u).stage) (λ u. inflation_in (now.known u).stage)
  inflates = λ i. λ u. inflation_in (stage i u)

  inflation : inflations w ≡ inflations now
  inflation = inflations_stay w.shape.threads _ _ inflates

  all : logs w ≡ logs now
  all = sym (logs_stay 0 w.shape.threads t l w.known (sym b.log))

  lock_is : lock w ≡ lock now
  lock_is = lock_stays w now refl refl refl inflation

  header_is : header w ≡ header now
  header_is = header_stays w now refl refl refl inflation

  pub knows_unclassed : Unclassed (with_knowledge t l w) P
  knows_unclassed clause.legal = subst (LegalObjects w.shape.objects) all (v clause.legal)
  knows_unclassed clause.taken = subst (λ g. objects_after w.shape.objects g ≡ Some P) all (v clause.taken)
  knows_unclassed clause.numbered = λ u. each_with_known (λ u y. y.thread ≡ u) t l w.known u (sym b.thread ∙ v clause.numbered t) (λ d. v clause.numbered u)
  knows_unclassed clause.absent =
      λ u h. each_with_known (λ u y. w.shape.threads ≤ u → y ≡ first_known u) t l w.known u (λ g. absurd (omega arith)) (λ d g. v clause.absent u g) h
  knows_unclassed clause.safe =
      frame8 (SafepointIsKnown w.shape.threads) refl running requesting
      (part_moves (λ y. y.reached) t l w.known b.reached) (part_moves (λ y. y.halted) t l w.known b.halted)
      (λ i. λ u. ends (log i u)) unfinished refl (v clause.safe)
  knows_unclassed clause.quiet = frame3 StoppedAreQuiet running (part_moves (λ y. y.reached) t l w.known b.reached) stage (v clause.quiet)
  knows_unclassed clause.holds = frame4 HoldsFitLogs refl holds (λ i. λ u o. hold_words_ahead (stage i u) o) refl (v clause.holds)
  knows_unclassed clause.owners = frame3 LocksArePlain (who_stays w now lock_is holds) stage refl (v clause.owners)
  knows_unclassed clause.biases = frame6 BiasedAreFree refl lock_is holds refl refl refl (v clause.biases)
  knows_unclassed clause.records = frame4 RecordsRest lock_is holds stage refl (v clause.records)
  knows_unclassed clause.inflating = frame3 InflationsAreOne refl inflates inflation (v clause.inflating)
  knows_unclassed clause.recursions =
      frame9 RecursionsFit refl refl lock_is holds stage (part_moves (λ y. y.saved) t l w.known b.saved) refl refl refl (v clause.recursions)
  knows_unclassed clause.hashes = frame6 HashesFit refl lock_is header_is holds refl refl (v clause.hashes)
  knows_unclassed clause.draws = frame4 (DrawsFit w.start) all log (part_moves (λ y. y.draws) t l w.known b.draws) refl (v clause.draws)
  knows_unclassed clause.shots = frame4 (ShotsFit w.shape.objects) all log (part_moves (λ y. y.shots) t l w.known b.shots) unfinished (v clause.shots)
  knows_unclassed clause.waits = frame9 WaitsFit refl refl (part_moves (λ y. y.wait) t l w.known b.wait) log stage unfinished running refl refl (v clause.waits)
  knows_unclassed clause.stamps = frame5 StampsFit all log refl refl unfinished (v clause.stamps)
  knows_unclassed clause.lengths = frame6 LengthsFit refl (part_moves (λ y. y.published) t l w.known b.published) log running requesting refl (v clause.lengths)
  knows_unclassed clause.claims = frame2 (MonitorsAreClaimed w.shape.threads _ _ _ _ _ _ _)
      (part_moves (λ y. y.kept) t l w.known b.kept) (part_moves (λ y. y.moving) t l w.known b.moving) (v clause.claims)
  knows_unclassed clause.moves =
      frame3 MovesFit running (part_moves (λ y. y.reached) t l w.known b.reached) (part_moves (λ y. y.moving) t l w.known b.moving) (v clause.moves)
  knows_unclassed i = v i

module _ (w : World) (P : List PlainObject) (t : ℕ) (l : ThreadView) (b : SameButForStores (w.known t) l) (within : t < w.shape.threads)
    (rebiased : (c : ℕ) → (counts_of l.counts c).rebias ≡ (counts_of (w.known t).counts c).rebias) (revoked : (c : ℕ)
    → (counts_of l.counts c).revoke ≡ (counts_of (w.known t).counts c).revoke) (v : FitsUnseen w P) where
  abbrev z : World
  z = with_knowledge t l w

  pub knows_fits : FitsUnseen (with_knowledge t l w) P
  knows_fits =
      let rebias : bulk_rebiases w.shape.threads (λ u. (w.known u).counts) ≡ bulk_rebiases w.shape.threads (λ u. (z.known u).counts) =
      λ i. λ c. rebiases_same w.shape.threads (λ u. (w.known u).counts) (λ u. (z.known u).counts) c
      (λ u. each_with_known (λ u y. (counts_of (w.known u).counts c).rebias ≡ (counts_of y.counts c).rebias) t l w.known u (sym (rebiased c)) (λ d. refl)) i in
      let revoke : bulk_revokes w.shape.threads (λ u. (w.known u).counts) ≡ bulk_revokes w.shape.threads (λ u. (z.known u).counts) =
      λ i. λ c. revokes_same w.shape.threads (λ u. (w.known u).counts) (λ u. (z.known u).counts) c
      (λ u. each_with_known (λ u y. (counts_of (w.known u).counts c).revoke ≡ (counts_of y.counts c).revoke) t l w.known u (sym (revoked c)) (λ d. refl)) i in
      classed z P (knows_unclassed w P t l b within (unclassed w P v)) (frame6 (ClassesFit w.biasing) refl refl refl refl rebias revoke (v clause.classes))
