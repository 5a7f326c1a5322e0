-- The opening world is valid.
use Rattle.std.proofs.Common.{◌≡◌, ℕ, zero, suc, ◌+◌, ◌*◌, ◌%◌, ◌^◌, ◌<◌, ◌==◌, nat_lt, ◌&&◌, ◌||◌, Bool, true, false, if◌then◌else◌, List}
use Rattle.std.proofs.Common.{[], ◌∷◌, length, slice_get, replicate, Some, None, refl, sym, ap, ◌∙◌, arith, subst, inl, inr, pos}
use Rattle.std.specs.List.{AllByRecursion}
use Rattle.std.proofs.lemmas.List.{length-map}
use Rattle.std.proofs.lemmas.Option.{same_Some}
use Rattle.mark_word.specs.Mark.{read_mark}
use Rattle.plain_monitor.specs.Limits.{most_holds}
use Rattle.plain_monitor.specs.declared.entry.Value.{Value}
use Rattle.plain_monitor.specs.declared.entry.Value.TheVariants.{Int}
use Rattle.plain_monitor.specs.Monitor.{PlainMonitor, free_monitor, owns}
use Rattle.plain_monitor.specs.Objects.{PlainObject, new_object, new_objects}
use Rattle.plain_monitor.specs.Order.{order, ordered, with_threads}
use Rattle.plain_monitor.specs.History.{LegalObjects, RisesAbove, objects_after, take_all}
use Rattle.core_world.specs.declared.word_id.WordId.TheVariants.{Slot}
use Rattle.core_world.specs.declared.stage.Stage.{Stage}
use Rattle.core_world.specs.declared.stage.Stage.TheVariants.{Settled}
use Rattle.core_world.specs.Words.Shape.{Shape, IsInLimits, monitor_count, ring_bits}
use Rattle.core_world.specs.Words.Forms.{hash_in, is_biased, is_halted, monitor_in}
use Rattle.core_world.specs.World.{World, logs, logs_from}
use Rattle.core_world.specs.Locks.{Lock, Open, lock, lock_form, header, header_form, marks, inflations, displaced_words, headers, object_of}
use Rattle.core_world.specs.Locks.{monitor_of, hold_count, holder, who, holds_by_monitor, owner_at, hash_at, waits_at, notified_at}
use Rattle.core_world.specs.Opening.{opening, first_known, first_mark}
use Rattle.core_world.specs.Threads.ThreadView.{Still}
use Rattle.core_world.proofs.deflation.Rings.{ring_enough}
use Rattle.std.proofs.Math.Nat.{mod-eq_of_lt}
use Rattle.core_world.specs.Clauses.Holds.{HoldsFitLogs}
use Rattle.core_world.specs.Clauses.Owners.{LocksArePlain}
use Rattle.core_world.specs.Clauses.Biases.{BiasedAreFree}
use Rattle.core_world.specs.Clauses.Records.{RecordsRest}
use Rattle.core_world.specs.Clauses.Inflations.{InflationsAreOne}
use Rattle.core_world.specs.Clauses.Monitors.{MonitorsAreNamed}
use Rattle.core_world.specs.Clauses.Recursions.{RecursionsFit}
use Rattle.core_world.specs.Clauses.Hashes.{HashesFit}
use Rattle.core_world.specs.Clauses.Draws.{DrawsFit, all_draws}
use Rattle.core_world.specs.Clauses.Slots.{SlotsFit, IsHere}
use Rattle.core_world.specs.Clauses.Waits.{WaitsFit}
use Rattle.core_world.specs.Clauses.Stamps.{StampsFit}
use Rattle.core_world.specs.Clauses.Lengths.{LengthsFit}
use Rattle.core_world.specs.Clauses.Claims.{MonitorsAreClaimed, MovesFit, InRing}
use Rattle.core_world.specs.Clauses.Classes.{ClassesFit, bulk_rebiases, bulk_revokes}
use Rattle.core_world.specs.Shots.{ShotsFit}
use Rattle.core_world.specs.Valid.{Fits, Valid, SeenFit, FormsFit, SafepointFits}
use Rattle.core_world.proofs.Readings.{mark_one, mark_five, owner_zero, wait_zero, hold_zero, safe_zero, value_zero}
use Rattle.core_world.proofs.Readings.{no_wait, no_told, no_entering, no_ended, runs_none, asks_none, halts_none}
use Rattle.core_world.proofs.Readings.{first_nonzero, first_monitor, first_is_mark, first_biased, first_hash, first_slot}
use Rattle.core_world.proofs.Counting.{named_none, again_none, index_none, no_hold, each_none, with_monitor_none}

-- no log has an entry
no_entries : (u v n : ℕ) → with_threads u (logs_from v n first_known) ≡ []
no_entries u v zero = refl
no_entries u v (suc n) = no_entries (u + 1) (v + 1) n

order_none : (n : ℕ) → order (logs_from 0 n first_known) ≡ []
order_none n = ap ordered (no_entries 0 0 n)

undrawn : (o v n : ℕ) → all_draws o (logs_from v n first_known) ≡ 0
undrawn o v zero = refl
undrawn o v (suc n) = let a = undrawn o (v + 1) n in omega (arith, a)

all_rise : (v n : ℕ) → AllByRecursion (RisesAbove 0) (logs_from v n first_known)
all_rise v zero = tt
all_rise v (suc n) = (tt, all_rise (v + 1) n)

-- each plain object is new
new_at : (objects : List (ℕ × ℕ)) (o : ℕ) → (size : ℕ) × (object_of (new_objects objects) o ≡ new_object size)
new_at [] o = (0, refl)
new_at (x ∷ objects) zero = (x.1, refl)
new_at (x ∷ objects) (suc o) = new_at objects o

free_at : (objects : List (ℕ × ℕ)) → monitor_of (new_objects objects) ≡ (λ (o : ℕ). free_monitor)
free_at objects =
    let at : (o : ℕ) → monitor_of (new_objects objects) o ≡ free_monitor = λ o. ap (λ (x : PlainObject). x.monitor) (new_at objects o).1 in
    λ i. λ o. at o i

hash_none : (objects : List (ℕ × ℕ)) → hash_at (new_objects objects) ≡ (λ (o : ℕ). 0)
hash_none objects =
    let at : (o : ℕ) → hash_at (new_objects objects) o ≡ 0 = λ o. ap (λ (x : PlainObject). hash_at (x ∷ []) 0) (new_at objects o).1 in
    λ i. λ o. at o i

-- no thread has counted a verdict
no_rebias : (n c : ℕ) → bulk_rebiases n (λ t. []) c ≡ 0
no_rebias zero c = refl
no_rebias (suc n) c = let a = no_rebias n c in omega (arith, a)

no_revoke : (n c : ℕ) → bulk_revokes n (λ t. []) c ≡ 0
no_revoke zero c = refl
no_revoke (suc n) c = let a = no_revoke n c in omega (arith, a)

-- what the first mark says, for both heaps
no_monitor : (biasing : Bool) (m : ℕ) → monitor_in (first_mark biasing) ≡ Some m → ⊥
no_monitor biasing m e = let a = first_monitor biasing in absurd (cc (a, e))

first_prototype : (biasing : Bool) (n c : ℕ) → biasing ≡ true
    → first_mark biasing ≡ (if bulk_revokes n (λ t. []) c == 0 then bulk_rebiases n (λ t. []) c % 4 * 256 + 5 else 1)
first_prototype true n c e = rw (no_revoke n c, no_rebias n c) refl
first_prototype false n c e = absurd (cc e)

plain_prototype : (biasing : Bool) → biasing ≡ false → first_mark biasing ≡ 1
plain_prototype true e = absurd (cc e)
plain_prototype false e = refl

-- Each clause by itself. One that reads plain monitors, locks or hashes is shown of free monitors, open locks and the hash 0, and
-- carried over.
module _ (s : Shape) (start : ℕ) (biasing : Bool) where
  abbrev world : World
  world = opening s start biasing

  abbrev objects : List PlainObject
  objects = new_objects s.objects

  abbrev holds : ℕ → List ℕ
  holds t = replicate most_holds 0

  abbrev calm : ℕ → Stage
  calm t = Settled

  -- the mark of o is that of a heap with biasing, where there is biasing and o is declared
  abbrev leans : ℕ → Bool
  leans o = biasing && nat_lt o s.declared

  -- nobody has a lock, whatever the prototype
  open_by : (b : Bool) (prototype : ℕ) (o : ℕ) → lock_form (read_mark (first_mark b)) prototype (λ m. 0) (inflations world o) ≡ Open
  open_by true prototype o = ap (λ f. lock_form f prototype (λ m. 0) (inflations world o)) mark_five
  open_by false prototype o = ap (λ f. lock_form f prototype (λ m. 0) (inflations world o)) mark_one

  open_at : (o : ℕ) → lock world o ≡ Open
  open_at o = open_by (leans o) (first_mark biasing) o

  all_open : lock world ≡ (λ (o : ℕ). Open)
  all_open = λ i. λ o. open_at o i

  -- the header of an object that isn't biased is its mark
  header_by : (b : Bool) (o h : ℕ) → header_form (read_mark (first_mark b)) (first_mark b) (λ t p. 0) (λ m. 0) (inflations world o) ≡ Some h → first_mark b ≡ h
  header_by true o h e = let a = ap (λ f. header_form f 5 (λ t p. 0) (λ m. 0) (inflations world o)) mark_five in absurd (cc (a, e))
  header_by false o h e = let a = ap (λ f. header_form f 1 (λ t p. 0) (λ m. 0) (inflations world o)) mark_one in same_Some _ _ (sym a ∙ e)

  header_is_mark : (o h : ℕ) → header world o ≡ Some h → first_mark (leans o) ≡ h
  header_is_mark o h e = header_by (leans o) o h e

  -- a mark with the bias pattern is of a declared object
  leaning : (b d c : Bool) → is_biased (first_mark (b && d)) ≡ true → (d || c) ≡ true
  leaning b true c e = refl
  leaning true false c e = absurd (cc (e, first_biased false))
  leaning false false c e = absurd (cc (e, first_biased false))

  taken : objects_after s.objects (logs world) ≡ Some objects
  taken = ap (take_all objects) (order_none s.threads)

  legal : LegalObjects s.objects (logs world)
  legal = record { rises = all_rise 0 s.threads; taken = rw taken refl }

  seen : SeenFit world objects
  seen =
      record {
        stays = λ t n v e g. absurd (cc e);
        unbiased = λ t o v e g h. absurd (cc e);
        classed = λ o e. leaning biasing (nat_lt o s.declared) _ e;
        saw_classed = λ t o v e g h. absurd (cc e);
        unwaiting = λ t u o v e g h i. absurd (cc e);
        unwaited = λ t o v e g h i. absurd (cc e);
        stands = λ t n v e. absurd (cc e);
        alone = λ t e. absurd (cc e);
        monitors = λ t m v e. absurd (cc e);
      }

  forms : FormsFit world
  forms =
      record {
        marks = λ o. first_is_mark s (leans o);
        owners = λ m. rw owner_zero tt;
        waits = λ t. rw wait_zero tt;
        objects = λ m h. absurd (h refl);
        holds = λ t p. rw hold_zero tt;
        safepoint = rw safe_zero tt;
        classes = λ o. omega arith;
      }

  safe : SafepointFits world objects
  safe =
      record {
        bits = λ t. runs_none t;
        few = λ t e. absurd (cc e);
        requester = λ t. asks_none t;
        safepoint = λ t e. absurd (cc e);
        stopped = λ t e. absurd (cc e);
        still = λ e. absurd (cc (e, halts_none));
      }

  held : HoldsFitLogs (λ t p. 0) holds (λ t o. 0) (λ o t. holds_by_monitor (monitor_of objects o) t)
  held =
      subst (λ (ms : ℕ → PlainMonitor). HoldsFitLogs (λ t p. 0) holds (λ t o. 0) (λ o t. holds_by_monitor (ms o) t)) (sym (free_at s.objects))
      (record {
        stored = λ t p. sym (index_none most_holds p);
        places = λ t. refl;
        number = λ t o. named_none o most_holds;
        each = λ t o d h. each_none o d most_holds;
      })

  owners : LocksArePlain (who world) calm (owner_at objects)
  owners =
      subst (λ (ms : ℕ → PlainMonitor). LocksArePlain (who world) calm (λ o t. owns (ms o) t)) (sym (free_at s.objects))
      (subst (λ (locks : ℕ → Lock). LocksArePlain (λ o. holder (locks o) (λ t. hold_count o (replicate most_holds 0))) calm (λ o t. false)) (sym all_open)
      (record { same = λ o t. refl; let_go = λ o t e. refl; left = λ o t p e. refl; calls = λ o t e. absurd (cc e) }))

  biases : BiasedAreFree (marks world) (lock world) holds (hash_at objects) (waits_at objects) (notified_at objects)
  biases =
      subst (λ (ms : ℕ → PlainMonitor). BiasedAreFree (marks world) (lock world) holds
      (hash_at objects) (λ o. (ms o).waits) (λ o. (ms o).called)) (sym (free_at s.objects))
      (subst (λ (hash : ℕ → ℕ). BiasedAreFree (marks world) (lock world) holds hash (λ o. []) (λ o. [])) (sym (hash_none s.objects))
      (record { hashless = λ o e. refl; nobody = λ o e. (refl, refl); unheld = λ o t e h. named_none o most_holds }))

  records : RecordsRest (lock world) holds calm (displaced_words world)
  records =
      subst (λ (locks : ℕ → Lock). RecordsRest locks holds calm (displaced_words world)) (sym all_open)
      (record {
        first = λ o t p e. absurd (cc e);
        header = λ o t p e. absurd (cc e);
        others = λ o t p q d e. absurd (cc e);
        seized = λ o t p e. absurd (cc e);
        grabbed = λ o t e. absurd (cc e);
      })

  inflating : InflationsAreOne (marks world) (λ t. None) (inflations world)
  inflating = record { some = λ o e. absurd (first_nonzero (leans o) e); zero = λ t i e. absurd (cc e); one = λ t u i j e. absurd (cc e) }

  monitors : MonitorsAreNamed (λ o. monitor_in (marks world o)) (λ m. 0) (headers world)
  monitors =
      record {
        own = λ o m e. absurd (no_monitor (leans o) m e);
        neutral = λ o m e. absurd (no_monitor (leans o) m e);
        alone = λ o i m e. absurd (no_monitor (leans o) m e);
      }

  recursions : RecursionsFit (marks world) (λ m. 0) (lock world) holds calm (λ t. 0) (displaced_words world) (waits_at objects) (notified_at objects)
  recursions =
      record {
        first = λ o t p g e. absurd (no_hold most_holds o 1 p e);
        others = λ o t p d g e. absurd (no_hold most_holds o (d + 2) p e);
        owned = λ o m t e. absurd (no_monitor (leans o) m e);
        waiting = λ o t e. sym (again_none o (λ p. 0) most_holds);
        on_record = λ o m t p e. absurd (no_monitor (leans o) m e);
        free = λ o m e. absurd (no_monitor (leans o) m e);
        thread_owns = λ o t e. again_none o (λ p. 0) most_holds;
      }

  hashes : HashesFit (marks world) (lock world) (header world) holds (displaced_words world) (hash_at objects)
  hashes =
      subst (λ (hash : ℕ → ℕ). HashesFit (marks world) (lock world) (header world) holds (displaced_words world) hash) (sym (hash_none s.objects))
      (record {
        stands = λ o h e. ap hash_in (sym (header_is_mark o h e)) ∙ first_hash (leans o);
        records = λ o t p e. absurd (no_hold most_holds o 1 p e);
        on_record = λ o t p e. absurd (cc (e, open_at o));
      })

  draws : DrawsFit start (logs world) (λ t. []) (λ t. 0) (hash_at objects)
  draws =
      subst (λ (hash : ℕ → ℕ). DrawsFit start (logs world) (λ t. []) (λ t. 0) hash) (sym (hash_none s.objects))
      (record { drawn = λ t. tt; counted = λ t. refl; one = λ o. undrawn o 0 s.threads })

  -- what a slot has at first
  slot_is : (o i : ℕ) (v : Value) → slice_get (object_of objects o).slots i ≡ Some v → v ≡ Int (pos 0)
  slot_is o i v e = let new = new_at s.objects o in first_slot new.0 i v (ap (λ (x : PlainObject). slice_get x.slots i) (sym new.1) ∙ e)

  slots : SlotsFit s (λ o i. world.words (Slot o i)) (λ o. (object_of objects o).slots)
  slots =
      record {
        value = λ o i v e. value_zero ∙ ap Some (sym (slot_is o i v e));
        here = λ o i v e. subst (IsHere s) (sym (slot_is o i v e)) tt;
      }

  waits : WaitsFit (λ o. monitor_in (marks world o)) (λ t. 0) (λ t. 0) (λ t. []) calm (λ t. None) (λ t. false) (waits_at objects) (notified_at objects)
  waits =
      subst (λ (ms : ℕ → PlainMonitor). WaitsFit (λ o. monitor_in (marks world o)) (λ t. 0) (λ t. 0)
      (λ t. []) calm (λ t. None) (λ t. false) (λ o. (ms o).waits) (λ o. (ms o).called)) (sym (free_at s.objects))
      (record {
        waiting = λ t o e. absurd (cc e);
        waiter = λ t o e. absurd (cc (e, no_wait o));
        notified = λ t o e. absurd (cc e);
        told = λ t o e. absurd (cc (e, no_told o));
        telling = λ t o n e. absurd (cc e);
        resuming = λ t o e. absurd (cc e);
        leaving = λ t o e. absurd (cc e);
        unfinished = λ t o e. elim e [ inl h ↦ absurd (cc h) | inr h ↦ absurd (cc h) ];
        stored = λ t. inl refl;
        entering = λ t o e. absurd (cc (e, no_entering o));
        done = λ t e. absurd (cc (e, no_ended));
        stopped = λ t e. absurd (cc e);
        stamped = λ t o e. absurd (cc (e, no_wait o));
        sorted = λ o. tt;
        inflated = λ o t e. elim e [ inl h ↦ absurd (cc h) | inr h ↦ absurd (cc h) ];
      })

  stamps : StampsFit (logs world) (λ t. []) (λ o. 0) (λ o. (monitor_of objects o).owner) (λ t. None)
  stamps =
      record {
        logged = λ t. omega arith;
        words = λ o. omega arith;
        even = λ o h. omega arith;
        bound = λ o. rw (order_none s.threads) tt;
        exact = λ o. inl refl;
      }

  lengths : LengthsFit (λ t. 0) (λ t. 0) (λ t. []) (λ t. false) (λ t. false) (is_halted 0)
  lengths = record { few = λ t. omega arith; stored = λ t. refl; most = λ t. omega arith; all = λ t e g h. refl }

  -- each monitor stands at the position of its number
  claims : IsInLimits s → MonitorsAreClaimed s.threads (length s.objects) (monitor_count s)
      (ring_bits s) 0 (monitor_count s) (λ p. p) (λ o. monitor_in (marks world o)) (λ t. None) (λ t. Still)
  claims limits =
      record {
        first = 0;
        ringed = monitor_count s;
        claim_word = refl;
        end_word = let same : monitor_count s ≡ 0 + monitor_count s = omega arith in same ∙ sym (mod-eq_of_lt (omega (arith, limits.threads, limits.objects)));
        place = InRing;
        keeps = λ t m e. absurd (cc e);
        fetches = λ t p e. absurd (cc e);
        names = λ o m e. absurd (no_monitor (leans o) m e);
        returns = λ t m e. absurd (cc e);
        stands = λ p a b. let same = in_round p (omega (arith, b)) in (omega (arith, same, b), ap InRing same);
        kept_there = λ t m h e. absurd (cc e);
        named_there = λ o m h e. absurd (cc e);
        returned_there = λ t m h e. absurd (cc e);
        ringed_there = λ p m h e. let same : m ≡ p = at_position m p e in (omega arith, omega (arith, same, h), in_round p (omega (arith, same, h)) ∙ sym same);
        counted =
            let a = with_monitor_none s.threads (λ t. None) (λ t. refl) in
            let b = with_monitor_none (length s.objects) (λ o. monitor_in (first_mark (leans o))) (λ o. first_monitor (leans o)) in
            omega (arith, a, b);
      }
    where
      in_round : (p : ℕ) → p < monitor_count s → p % 2 ^ ring_bits s ≡ p
      in_round p h = mod-eq_of_lt (omega (arith, h, ring_enough s limits))

      at_position : (m p : ℕ) → InRing m ≡ InRing p → m ≡ p
      at_position m p e = cc e

  moves : MovesFit (λ t. false) (λ t. false) (λ t. Still)
  moves = record { runs = λ t p e. absurd (cc e); reaches = λ t m e. absurd (cc e) }

  classes : ClassesFit biasing (λ c. first_mark biasing) (λ c. 0) (λ c. 0) (marks world) (bulk_rebiases s.threads (λ t. [])) (bulk_revokes s.threads (λ t. []))
  classes =
      record {
        plain = λ e c. (plain_prototype biasing e, refl, refl);
        unbiased = λ e o. first_biased (leans o) ∙ ap (λ b. b && nat_lt o s.declared) e;
        few = λ e c. omega arith;
        prototypes = λ e c. first_prototype biasing s.threads c e;
      }

  shots : ShotsFit s.objects (logs world) (λ t. []) (λ t. []) (λ t. None)
  shots =
      record {
        right = λ t i a e. absurd (cc e);
        numbered = λ t i a e. absurd (cc e);
        dumps = λ t. inl refl;
        few = λ t. omega arith;
        ordered = λ t u i j a b e. absurd (cc e);
      }

  pub opening_fits : IsInLimits s → Fits (opening s start biasing) (new_objects s.objects)
  opening_fits limits =
      record {
        limits = limits;
        legal = legal;
        taken = taken;
        sized = length-map s.objects (λ (x : ℕ × ℕ). new_object x.1);
        numbered = λ t. refl;
        absent = λ t h. refl;
        seen = seen;
        forms = forms;
        safe = safe;
        quiet = record { quiet = λ t e. inl refl; none_revokes = λ t. refl };
        holds = held;
        owners = owners;
        biases = biases;
        records = records;
        inflating = inflating;
        monitors = monitors;
        recursions = recursions;
        hashes = hashes;
        draws = draws;
        slots = slots;
        waits = waits;
        stamps = stamps;
        lengths = lengths;
        claims = claims limits;
        moves = moves;
        classes = classes;
        shots = shots;
      }

  pub opening_valid : IsInLimits s → Valid (opening s start biasing)
  opening_valid limits = record { objects = new_objects s.objects; is = inl (opening_fits limits) }
