-- A step that changes no word, and of what its thread knows only what the thread has seen, what it has unfinished and where its safepoint
-- stands, keeps every clause that doesn't read these.
use Rattle.std.proofs.Common.{◌≡◌, ◌⊎◌, ℕ, ◌<◌, ◌≤◌, true, false, List, Option, Some, None, refl, sym, ap, ◌∙◌, subst, arith, inl, inr}
use Rattle.plain_monitor.specs.Monitor.{is_listed}
use Rattle.plain_monitor.specs.Objects.{PlainObject}
use Rattle.plain_monitor.specs.History.{LegalObjects, objects_after}
use Rattle.core_world.specs.declared.heap_call.Operation.TheVariants as op
use Rattle.core_world.specs.declared.heap_call.Unfinished.{Unfinished}
use Rattle.core_world.specs.declared.word_id.WordId.TheVariants.{Stamp, Waiting}
use Rattle.core_world.specs.Words.Forms.{enters_on, monitor_in}
use Rattle.core_world.specs.Threads.Stages.{hold_words_ahead, inflation_in}
use Rattle.core_world.specs.Threads.ThreadView.{ThreadView}
use Rattle.core_world.specs.World.{World, logs}
use Rattle.core_world.specs.Locks.{lock, header, marks, inflations, monitor_of, waits_at, notified_at}
use Rattle.core_world.specs.Opening.{first_known}
use Rattle.core_world.specs.Clauses.Safepoints.{StoppedAreQuiet, IsUnfinished}
use Rattle.core_world.specs.Clauses.Holds.{HoldsFitLogs}
use Rattle.core_world.specs.Clauses.Owners.{LocksArePlain}
use Rattle.core_world.specs.Clauses.Biases.{BiasedAreFree}
use Rattle.core_world.specs.Clauses.Records.{RecordsRest}
use Rattle.core_world.specs.Clauses.Inflations.{InflationsAreOne}
use Rattle.core_world.specs.Clauses.Recursions.{RecursionsFit}
use Rattle.core_world.specs.Clauses.Hashes.{HashesFit}
use Rattle.core_world.specs.Clauses.Draws.{DrawsFit}
use Rattle.core_world.specs.Clauses.Waits.{WaitsFit}
use Rattle.core_world.specs.Clauses.Stamps.{StampsFit, lets_go}
use Rattle.core_world.specs.Clauses.Lengths.{LengthsFit}
use Rattle.core_world.specs.Clauses.Claims.{MonitorsAreClaimed, MovesFit}
use Rattle.core_world.specs.Clauses.Classes.{ClassesFit, bulk_rebiases, bulk_revokes}
use Rattle.core_world.specs.Shots.{ShotsFit}
use Rattle.core_world.specs.Valid.{Fits, SeenFit, SafepointFits}
use Rattle.core_world.proofs.Frames.{frame2, frame3, frame4, frame5, frame6, frame9}
use Rattle.core_world.proofs.StampWords.{stamp_goes_on}
use Rattle.core_world.proofs.KnowledgeParts.{each_with_known, part_moves, logs_stay}
use Rattle.core_world.proofs.Naming.{with_knowledge}
use Rattle.core_world.proofs.enter_exit.LockFrames.{lock_stays, header_stays, inflations_stay, who_stays}

-- what the clauses read of a thread's knowledge is the same; but where the thread had nothing unfinished, it may have begun an operation
pub record SameBut (k l : ThreadView) : Type 0 where
  pub thread : k.thread ≡ l.thread
  pub log : k.log ≡ l.log
  pub running : k.running ≡ l.running
  pub requesting : k.requesting ≡ l.requesting
  pub kept : k.kept ≡ l.kept
  pub moving : k.moving ≡ l.moving
  pub saved : k.saved ≡ l.saved
  pub holds : k.holds ≡ l.holds
  pub wait : k.wait ≡ l.wait
  pub published : k.published ≡ l.published
  pub stage : k.stage ≡ l.stage
  pub counts : k.counts ≡ l.counts
  pub draws : k.draws ≡ l.draws
  pub unfinished : (k.unfinished ≡ l.unfinished) ⊎ (k.unfinished ≡ None)

-- a fact of what a thread has unfinished that doesn't hold where that is nothing
pub unfinished_forth : (P : Option Unfinished → Type 0) (k l : ThreadView)
    → (k.unfinished ≡ l.unfinished) ⊎ (k.unfinished ≡ None) → (P None → ⊥) → P k.unfinished → P l.unfinished
unfinished_forth P k l (inl e) none h = subst P e h
unfinished_forth P k l (inr e) none h = absurd (none (subst P e h))

-- an operation that lets no object go let none go before
pub lets_go_back : (o : ℕ) (k l : ThreadView) → (k.unfinished ≡ l.unfinished) ⊎ (k.unfinished ≡ None)
    → lets_go l.unfinished o ≡ false → lets_go k.unfinished o ≡ false
lets_go_back o k l (inl e) h = ap (λ u. lets_go u o) e ∙ h
lets_go_back o k l (inr e) h = ap (λ u. lets_go u o) e

module _ (w : World) (P : List PlainObject) (t : ℕ) (l : ThreadView) (within : t < w.shape.threads) (b : SameBut (w.known t) l) where
  abbrev x : World
  x = with_knowledge t l w

  waits_law : Fits w P → WaitsFit (λ o. monitor_in (marks x o)) (λ u. x.words (Waiting u)) (λ u. (w.known u).wait)
      (λ u. (w.known u).log) (λ u. (w.known u).stage) (λ u. (x.known u).unfinished) (λ u. (w.known u).running) (waits_at P) (notified_at P)
  waits_law v = record {
    waiting = v.waits.waiting;
    waiter = v.waits.waiter;
    notified = v.waits.notified;
    told = v.waits.told;
    telling = v.waits.telling;
    resuming = v.waits.resuming;
    leaving = v.waits.leaving;
    unfinished = λ u o h. each_with_known (λ u y. (is_listed (waits_at P o) u ≡ true) ⊎ (is_listed (notified_at P o) u ≡ true)
        → IsUnfinished y.unfinished op.Wait o) t l w.known u
        (λ g. unfinished_forth (λ z. IsUnfinished z op.Wait o) (w.known t) l b.unfinished
        (λ e. absurd (cc e)) (v.waits.unfinished t o g)) (λ d g. v.waits.unfinished u o g) h;
    stored = v.waits.stored;
    entering = λ u o h. each_with_known (λ u y. enters_on (w.words (Waiting u)) o ≡ true
        → IsUnfinished y.unfinished op.Enter o × ((m : ℕ) × (monitor_in (marks w o) ≡ Some m))) t l w.known u
        (λ g. let a = v.waits.entering t o g in (
          unfinished_forth (λ z. IsUnfinished z op.Enter o) (w.known t) l b.unfinished (λ e. absurd (cc e)) a.0,
          a.1,
        )) (λ d g. v.waits.entering u o g) h;
    done = v.waits.done;
    stopped = v.waits.stopped;
    stamped = v.waits.stamped;
    sorted = v.waits.sorted;
    inflated = v.waits.inflated;
  }

  stamps_law : Fits w P → StampsFit (logs w) (λ u. (w.known u).log) (λ o. x.words (Stamp o)) (λ o. (monitor_of P o).owner) (λ u. (x.known u).unfinished)
  stamps_law v = record {
    logged = v.stamps.logged;
    words = v.stamps.words;
    even = λ o h. v.stamps.even o (λ u e. each_with_known (λ u y. lets_go y.unfinished o ≡ false → lets_go (w.known u).unfinished o ≡ false) t l w.known u
        (λ g. lets_go_back o (w.known t) l b.unfinished g) (λ d g. g) (h u e));
    bound = v.stamps.bound;
    exact = λ o. stamp_goes_on (λ u. (w.known u).log) (monitor_of P o).owner t l w.known o (w.words (Stamp o)) b.unfinished (v.stamps.exact o);
  }

  pub with_knowledge_fits : SeenFit x P → SafepointFits x P → MovesFit (λ u. (x.known u).running) (λ u. (x.known u).reached) (λ u. (x.known u).moving)
      → StoppedAreQuiet (λ u. (x.known u).running) (λ u. (x.known u).reached) (λ u. (x.known u).stage)
      → ShotsFit w.shape.objects (logs w) (λ u. (w.known u).log) (λ u. (x.known u).shots) (λ u. (x.known u).unfinished) → Fits w P → Fits x P
  with_knowledge_fits seen safe moves quiet shots v =
      let holds = part_moves (λ y. y.holds) t l w.known b.holds in
      let stage = part_moves (λ y. y.stage) t l w.known b.stage in
      let running = part_moves (λ y. y.running) t l w.known b.running in
      let requesting = part_moves (λ y. y.requesting) t l w.known b.requesting in
      let log = part_moves (λ y. y.log) t l w.known b.log in
      let counts = part_moves (λ y. y.counts) t l w.known b.counts in
      let inflates : ◌≡◌ {A = ℕ → _} (λ u. inflation_in (w.known u).stage) (λ u. inflation_in (x.known u).stage) = λ i. λ u. inflation_in (stage i u) in
      let inflation : inflations w ≡ inflations x = inflations_stay w.shape.threads _ _ inflates in
      let all : logs w ≡ logs x = sym (logs_stay 0 w.shape.threads t l w.known (sym b.log)) in
      let lock_is : lock w ≡ lock x = lock_stays w x refl refl refl inflation in
      let header_is : header w ≡ header x = header_stays w x refl refl refl inflation in
      record {
        limits = v.limits;
        legal = subst (LegalObjects w.shape.objects) all v.legal;
        taken = subst (λ g. objects_after w.shape.objects g ≡ Some P) all v.taken;
        sized = v.sized;
        numbered = λ u. each_with_known (λ u y. y.thread ≡ u) t l w.known u (sym b.thread ∙ v.numbered t) (λ d. v.numbered u);
        absent = λ u h. each_with_known (λ u y. w.shape.threads ≤ u → y ≡ first_known u) t l w.known u (λ g. absurd (omega arith)) (λ d g. v.absent u g) h;
        seen = seen;
        forms = v.forms;
        safe = safe;
        quiet = quiet;
        holds = frame4 HoldsFitLogs refl holds (λ i. λ u o. hold_words_ahead (stage i u) o) refl v.holds;
        owners = frame3 LocksArePlain (who_stays w x lock_is holds) stage refl v.owners;
        biases = frame6 BiasedAreFree refl lock_is holds refl refl refl v.biases;
        records = frame4 RecordsRest lock_is holds stage refl v.records;
        inflating = frame3 InflationsAreOne refl inflates inflation v.inflating;
        monitors = v.monitors;
        recursions = frame9 RecursionsFit refl refl lock_is holds stage (part_moves (λ y. y.saved) t l w.known b.saved) refl refl refl v.recursions;
        hashes = frame6 HashesFit refl lock_is header_is holds refl refl v.hashes;
        draws = frame4 (DrawsFit w.start) all log (part_moves (λ y. y.draws) t l w.known b.draws) refl v.draws;
        slots = v.slots;
        waits = frame9 WaitsFit refl refl (part_moves (λ y. y.wait) t l w.known b.wait) log stage refl running refl refl (waits_law v);
        stamps = frame5 StampsFit all log refl refl refl (stamps_law v);
        lengths = frame6 LengthsFit refl (part_moves (λ y. y.published) t l w.known b.published) log running requesting refl v.lengths;
        claims = frame2 (MonitorsAreClaimed w.shape.threads _ _ _ _ _ _ _)
            (part_moves (λ y. y.kept) t l w.known b.kept) (part_moves (λ y. y.moving) t l w.known b.moving) v.claims;
        moves = moves;
        shots = frame4 (ShotsFit w.shape.objects) all log refl refl shots;
        classes = frame6 (ClassesFit w.biasing) refl refl refl refl
            (λ i. bulk_rebiases w.shape.threads (counts i)) (λ i. bulk_revokes w.shape.threads (counts i)) v.classes;
      }
