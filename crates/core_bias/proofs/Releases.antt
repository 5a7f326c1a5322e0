-- The release of a safepoint at which all stores of a revocation were made leads to a world in which every clause holds.
use Rattle.core_locks.proofs.Prelude.{◌≡◌, ◌≢◌, ◌⊎◌, ℕ, ◌<◌, ◌==◌, ◌++◌, ◌^◌, ◌&&◌, not, eq-eqb, append-nil, Bool, true, false, cond, List, [], ◌∷◌}
use Rattle.core_locks.proofs.Prelude.{Some, None, refl, sym, ap, ◌∙◌, subst, inl, inr, pow_below, bit_at-pow_same, read_safe-safe_of, is_thread}
use Rattle.core_locks.proofs.Prelude.{PlainObject, CompareExchange, WordId, Safepoint, Mark, Waiting, StepPlan, Settled, BiasAcquired, word_after}
use Rattle.core_locks.proofs.Prelude.{asks_in, runs_in, runs_form, requester_form, is_biased, monitor_in, waits_on, ThreadView, StepMade, last_seen}
use Rattle.core_locks.proofs.Prelude.{its_monitor, World, with_word_and_known, with_known, marks, owner_at, waits_at, CallContext, with_stage, swap}
use Rattle.core_locks.proofs.Prelude.{reached_word, released_word, world_after, known_hit, known_miss, known_after, kept_by_act, seen_before}
use Rattle.core_locks.proofs.Prelude.{is_header, Fits, SafepointFits, SeenFit, IsRevoking, headers_are_part, unwaited_fits, with_knowledge, by_equal}
use Rattle.core_locks.proofs.Prelude.{each_with_known, with_known_here, with_known_else, stays_back, Counts, Spares, seen_moves, Still}
use Rattle.core_world.specs.declared.word_id.WordId.TheVariants as id
use Rattle.core_world.specs.Threads.Counts.{counts_of}
use Rattle.core_world.specs.Words.Names.{has_class}
use Rattle.core_world.specs.Clauses.SeenWords.{AreTheSteps}
use Rattle.core_world.specs.Trees.BiasSteps.{stage_after}
use Rattle.core_world.specs.RevocationRules.{words_after, revocation_writes, writes_in}
use Rattle.core_world.proofs.NoWordChanges.{one_requester}
use Rattle.core_locks.proofs.safepoint.SafeFacts.{one_reached, few_bits}
use Rattle.core_locks.proofs.safepoint.SafeCounts.{headers_seen}
use Rattle.core_locks.proofs.safepoint.SafeEnds.{reached_finds, released_fits}
use Rattle.core_bias.specs.Revoking.{SameButForStores, HasCounted, revoked_world}
use Rattle.core_bias.proofs.Unseen.{FitsUnseen, unseen, with_seen}
use Rattle.core_bias.proofs.ComesToTake.{OnlyTakes, takes_fits}
use Rattle.core_bias.proofs.Knows.{knows_fits, told_told}
use Rattle.core_bias.proofs.Singles.{reached_within}

-- a thread that saw nothing, or is stopped and asks for nothing, counts on no word
abbrev pub CountsOnNone : ThreadView → Type 0
CountsOnNone k = ((k.seen ≡ []) × (k.seen_at_safepoint ≡ [])) ⊎ ((k.running ≡ false) × (k.requesting ≡ false) × (k.reached ≡ false))

pub none_seen : (w : World) (P : List PlainObject) → ((u : ℕ) → CountsOnNone (w.known u))
    → ((o : ℕ) → is_biased (marks w o) ≡ true → has_class w.shape w.words o ≡ true) → SeenFit w P
none_seen w P h classed = record {
  stays = λ u n s e st. elim (h u) [
    | inl a ↦ let none = ap (last_seen n) a.0 in absurd (cc (none, e))
    | inr a ↦ let no_run = a.0 in let no_ask = a.1 in
        elim st [ inl b ↦ let r = b.0 in absurd (cc (r, no_run)) | inr b ↦ let r = b.0 in absurd (cc (r, no_ask)) ]
  ];
  unbiased = λ u o s e r g. elim (h u) [
    | inl a ↦ let none = ap (last_seen (Mark o)) a.0 in absurd (cc (none, e))
    | inr a ↦ let no_run = a.0 in let no_ask = a.1 in elim r [ inl b ↦ absurd (cc (b, no_run)) | inr b ↦ absurd (cc (b, no_ask)) ]
  ];
  classed = classed;
  saw_classed = λ u o s e r g. elim (h u) [
    | inl a ↦ let none = ap (last_seen (Mark o)) a.0 in absurd (cc (none, e))
    | inr a ↦ let no_run = a.0 in let no_ask = a.1 in elim r [ inl b ↦ absurd (cc (b, no_run)) | inr b ↦ absurd (cc (b, no_ask)) ]
  ];
  unwaiting = λ u y o s e r g z. elim (h u) [
    | inl a ↦ let none = ap (last_seen (Waiting y)) a.0 in absurd (cc (none, e))
    | inr a ↦ let no_run = a.0 in absurd (cc (r, no_run))
  ];
  unwaited = λ u o s e r g z. elim (h u) [
    | inl a ↦ let none = ap (last_seen (Mark o)) a.0 in absurd (cc (none, e))
    | inr a ↦ let no_run = a.0 in absurd (cc (r, no_run))
  ];
  stands = λ u n s r e. elim (h u) [
    | inl a ↦ let none = ap (last_seen n) a.1 in absurd (cc (none, e))
    | inr a ↦ let no = a.2 in absurd (cc (r, no))
  ];
  alone = λ u r e. elim (h u) [
    | inl a ↦ subst (AreTheSteps w.words) (sym a.1) (record { before = w.words; found = tt; same = refl })
    | inr a ↦ let no = a.2 in absurd (cc (r, no))
  ];
  monitors = λ u m s r e. elim (h u) [
    | inl a ↦ let none = ap (last_seen e.0) a.0 in let some = e.2 in absurd (cc (none, some))
    | inr a ↦ let no_run = a.0 in absurd (cc (r, no_run))
  ];
}

pub not_true : (b : Bool) → (b ≡ true → ⊥) → b ≡ false
not_true true h = absurd (h refl)
not_true false h = refl

-- at a reached safepoint the others have stopped, and ask for nothing
pub others_stopped : (w : World) (P : List PlainObject) (r : ℕ) → (w.known r).reached ≡ true → SafepointFits w P
    → (u : ℕ) → u ≢ r → ((w.known u).running ≡ false) × ((w.known u).requesting ≡ false) × ((w.known u).reached ≡ false)
others_stopped w P r reached safe u d =
    let at = safe.safepoint r reached in (
      at.1 u,
      not_true (w.known u).requesting (λ a. d (one_requester w P safe u r a at.0)),
      not_true (w.known u).reached (λ a. one_reached w P r u safe reached d a),
    )

module _ (w : World) (P : List PlainObject) (s : IsRevoking w P) (e : CallContext) where
  abbrev r : ℕ
  r = s.requester

  reached : (w.known r).reached ≡ true
  reached = ap (λ (k : ThreadView). k.reached) s.knows ∙ s.reached

  -- the requester, as one that is in the middle of nothing and saw nothing
  abbrev pub blank : ThreadView
  blank = record (w.known r) { stage = Settled; seen = []; seen_at_safepoint = [] }

  abbrev z : World
  z = record { shape = w.shape; start = w.start; biasing = w.biasing; words = w.words; known = with_known r blank w.known }

  was_calm : (s.before.known r).stage ≡ Settled
  was_calm = s.was_calm

  pub was_counted : HasCounted s.before r s.revocation blank
  was_counted = record {
    calm = was_calm;
    same = record {
      thread = sym (ap (λ (k : ThreadView). k.thread) s.knows);
      log = sym (ap (λ (k : ThreadView). k.log) s.knows);
      running = sym (ap (λ (k : ThreadView). k.running) s.knows);
      requesting = sym (ap (λ (k : ThreadView). k.requesting) s.knows);
      reached = sym (ap (λ (k : ThreadView). k.reached) s.knows);
      halted = sym (ap (λ (k : ThreadView). k.halted) s.knows);
      kept = sym (ap (λ (k : ThreadView). k.kept) s.knows);
      moving = sym (ap (λ (k : ThreadView). k.moving) s.knows);
      saved = sym (ap (λ (k : ThreadView). k.saved) s.knows);
      holds = sym (ap (λ (k : ThreadView). k.holds) s.knows);
      wait = sym (ap (λ (k : ThreadView). k.wait) s.knows);
      published = sym (ap (λ (k : ThreadView). k.published) s.knows);
      draws = sym (ap (λ (k : ThreadView). k.draws) s.knows);
      shots = sym (ap (λ (k : ThreadView). k.shots) s.knows);
      stage = was_calm;
      unfinished = sym (ap (λ (k : ThreadView). k.unfinished) s.knows);
    };
    counts = ap (λ (k : ThreadView). k.counts) s.knows;
  }

  -- all stores are made
  module _ (all : s.rest ≡ []) (whole : FitsUnseen (revoked_world s.before r s.revocation blank) P) where
    words_are : words_after (revocation_writes s.before.shape r s.revocation s.before.words) s.before.words ≡ w.words
    words_are =
        let made : writes_in (w.known r).seen_at_safepoint ≡ revocation_writes s.before.shape r s.revocation s.before.words =
        sym (append-nil _) ∙ ap (λ y. writes_in (w.known r).seen_at_safepoint ++ y) (sym all) ∙ s.writes in
        sym (s.words ∙ ap (λ y. words_after y s.before.words) made)

    world_is : revoked_world s.before r s.revocation blank ≡ z
    world_is = λ i. record { shape = sym s.shape i; start = sym s.start i; biasing = sym s.biasing i; words = words_are i; known = known_is i }
      where
        known_is : with_known r blank s.before.known ≡ with_known r blank w.known
        known_is = λ i. λ u. by_equal u r
            (λ a. ap (with_known r blank s.before.known) a ∙ with_known_here r blank s.before.known
            ∙ sym (with_known_here r blank w.known) ∙ ap (with_known r blank w.known) (sym a))
            (λ d. with_known_else r blank s.before.known u d ∙ sym (s.others u d) ∙ sym (with_known_else r blank w.known u d)) i

    pub now : FitsUnseen z P
    now = subst (λ y. FitsUnseen y P) world_is whole

    fits : Fits z P
    fits = with_seen z P (none_seen z P (λ u. each_with_known (λ u y. CountsOnNone y) r blank w.known u
        (inl (refl, refl)) (λ d. inr (others_stopped w P r reached s.safe u d))) s.seen.classed) now

    abbrev plan : StepPlan
    plan = swap e Safepoint (reached_word r) (released_word r)

    -- the word that is left
    abbrev v : ℕ
    v = word_after (CompareExchange (reached_word r) (released_word r)) (w.words Safepoint)

    -- what the requester knows then
    abbrev l : ThreadView
    l = known_hit w.shape w.start plan (w.words Safepoint) (w.known r)

    abbrev y : ThreadView
    y = known_hit w.shape w.start plan (w.words Safepoint) blank

    found : (w.words Safepoint == reached_word r) ≡ true
    found = eq-eqb (w.words Safepoint) (reached_word r) (reached_finds w P r reached (inr s))

    blank_reached : (z.known r).reached ≡ true
    blank_reached = ap (λ (k : ThreadView). k.reached) (with_known_here r blank w.known) ∙ reached

    below : r < w.shape.threads
    below = reached_within z P r blank_reached now

    -- the word has no requester
    unasking : asks_in v (w.known r).thread ≡ false
    unasking =
        let left : v ≡ released_word r = ap (λ b. cond b (released_word r) (w.words Safepoint)) found in
        let reads = read_safe-safe_of (record { running = 2 ^ r; requester = None; halted = false }) (pow_below r 32 (few_bits z P r fits below), tt) in
        ap (λ n. asks_in n (w.known r).thread) left ∙ ap (λ f. is_thread (requester_form f) (w.known r).thread) reads

    running_now : runs_in v (w.known r).thread ≡ true
    running_now =
        let left : v ≡ released_word r = ap (λ b. cond b (released_word r) (w.words Safepoint)) found in
        let reads = read_safe-safe_of (record { running = 2 ^ r; requester = None; halted = false }) (pow_below r 32 (few_bits z P r fits below), tt) in
        let own : (w.known r).thread ≡ r = ap (λ (k : ThreadView). k.thread) s.knows ∙ s.fits.numbered r in
        ap (λ n. runs_in n (w.known r).thread) left ∙ ap (λ f. runs_form f (w.known r).thread) reads
        ∙ ap (runs_form (Some (record { running = 2 ^ r; requester = None; halted = false }))) own
        ∙ ap (λ n. n == 1) (bit_at-pow_same r)

    kept : kept_by_act Safepoint (CompareExchange (reached_word r) (released_word r)) v (w.known r) (seen_before w.shape (w.known r)) ≡ headers_seen w r
    kept =
        let call = cond (w.known r).running (seen_before w.shape (w.known r)) [] in
        ap (λ b. cond (b && not (asks_in v (w.known r).thread)) (headers_seen w r) call) reached ∙ ap (λ b. cond (not b) (headers_seen w r) call) unasking

    -- THE WORLD AFTER THE RELEASE, by what the requester knew as one that saw nothing, and by what it knew.
    abbrev x : World
    x = with_word_and_known Safepoint v r l w

    blank_moved : world_after plan r z ≡ with_word_and_known Safepoint v r y z
    blank_moved =
        let step : ThreadView → ThreadView = λ k. known_after w.shape w.start plan (w.words Safepoint) k in
        ap (λ k. with_word_and_known Safepoint v r (step k) z) (with_known_here r blank w.known)
        ∙ ap (λ b. with_word_and_known Safepoint v r (cond b y (known_miss w.shape w.start plan (w.words Safepoint) blank)) z) found

    moved_is : world_after plan r w ≡ x
    moved_is = ap (λ b. with_word_and_known Safepoint v r (cond b l (known_miss w.shape w.start plan (w.words Safepoint) (w.known r))) w) found

    told_all : with_knowledge r l (with_word_and_known Safepoint v r y z) ≡ x
    told_all =
        let same : with_known r l (with_known r y (with_known r blank w.known)) ≡ with_known r l w.known =
        told_told r l y (with_known r blank w.known) ∙ told_told r l blank w.known in
        λ i. record { shape = w.shape; start = w.start; biasing = w.biasing; words = x.words; known = same i }

    module _ (still : (w.known r).moving ≡ Still) (goes_on : e.unfinished ≡ (w.known r).unfinished) where
      released : Fits (with_word_and_known Safepoint v r y z) P
      released = subst (λ a. Fits a P) blank_moved
          (released_fits z P r e below fits blank_reached
          (record {
            reached = blank_reached;
            calm = ap (λ (k : ThreadView). k.stage) (with_known_here r blank w.known);
            still = ap (λ (k : ThreadView). k.moving) (with_known_here r blank w.known) ∙ still;
            goes_on = goes_on ∙ sym (ap (λ (k : ThreadView). k.unfinished) (with_known_here r blank w.known));
          }))

      alike : SameButForStores ((with_word_and_known Safepoint v r y z).known r) l
      alike = subst (λ k. SameButForStores k l) (sym (with_known_here r y (with_known r blank w.known))) search

      unseen_now : FitsUnseen x P
      unseen_now =
          let counts : l.counts ≡ ((with_word_and_known Safepoint v r y z).known r).counts =
          sym (ap (λ (k : ThreadView). k.counts) (with_known_here r y (with_known r blank w.known))) in
          subst (λ a. FitsUnseen a P) told_all
          (knows_fits (with_word_and_known Safepoint v r y z) P r l alike below
          (λ c. ap (λ z. (counts_of z c).rebias) counts) (λ c. ap (λ z. (counts_of z c).revoke) counts)
          (unseen (with_word_and_known Safepoint v r y z) P released))

      spares : Spares Safepoint v r l w (owner_at P) (owner_at P) (waits_at P) (waits_at P)
      spares = record {
        before = λ u n m d seen st. stays_back w x (w.known u) (w.known u) (owner_at P) (owner_at P) u
            (record {
              run = λ a. a;
              ask = λ a. a;
              not_revoking = λ a. a;
              inflates = λ i a. a;
              kept = λ m a. a;
              prototype = λ o. refl;
              monitor = λ o m a. a;
              owned = λ o a. a;
              held = λ o m a b. b;
            }) n m st;
        owned = λ u o d h. h;
        word = λ u m d st was. elim st [ inl a ↦ absurd a.1 | inr a ↦ absurd a.2 ];
        bias = λ u o s e r h. h;
        there = λ o h. h;
        classed = s.seen.classed;
        waits = λ u i o d a h. h;
        unwaited = λ u o d a h. h;
        unreached = λ u. each_with_known (λ u k. k.reached ≡ true → ⊥) r l w.known u
            (λ h. let no : l.reached ≡ false = ap (λ b. b && asks_in v (w.known r).thread) reached ∙ unasking in absurd (cc (h, no)))
            (λ d h. one_reached w P r u s.safe reached d h);
        names = λ o m h. h;
      }

      -- only the header of the unfinished operation's object and prototypes, as they were seen at the safepoint
      part : (n : WordId) (m : ℕ) → last_seen n (headers_seen w r) ≡ Some m → last_seen n (w.known r).seen_at_safepoint ≡ Some m
      part n m h = (headers_are_part (w.known r).unfinished (w.known r).seen_at_safepoint n m h).1

      no_monitor : (n : WordId) (m : ℕ) → its_monitor n ≡ Some m → is_header (w.known r).unfinished n ≡ true → ⊥
      no_monitor (Mark i) m h g = absurd (cc h)
      no_monitor (id.Prototype i) m h g = absurd (cc h)
      no_monitor (id.Class i) m h g = absurd (cc h)
      no_monitor _ m h g = absurd (cc g)

      counts : Counts Safepoint v r l w (owner_at P) (waits_at P) (headers_seen w r)
      counts = record {
        others = λ n m a d st. s.seen.stands r n m reached (part n m a);
        unbiased = λ o m a g h. ap is_biased (s.seen.stands r (Mark o) m reached (part (Mark o) m a)) ∙ g;
        classed = λ o m a g h. s.seen.classed o (ap is_biased (s.seen.stands r (Mark o) m reached (part (Mark o) m a)) ∙ g);
        unwaiting = λ u o m a g h i. ap (λ b. waits_on b o) (s.seen.stands r (Waiting u) m reached (part (Waiting u) m a)) ∙ h;
        unwaited = λ o m a g h i. unwaited_fits z P fits o (ap monitor_in (s.seen.stands r (Mark o) m reached (part (Mark o) m a)) ∙ i);
        idle = λ o a g h i. absurd (cc a);
        monitors = λ m i g h. absurd (no_monitor h.0 m h.1 (headers_are_part (w.known r).unfinished (w.known r).seen_at_safepoint h.0 i h.2).0);
        fresh = λ m g h. absurd (cc h);
      }

      seen_now : SeenFit x P
      seen_now = seen_moves plan (w.words Safepoint) r l w (owner_at P) (owner_at P) (waits_at P) (waits_at P) (headers_seen w r)
          (ap (λ (k : List StepMade). record { plan = plan; found = w.words Safepoint } ∷ k) kept) counts spares s.seen

      pub revoked_released : Fits (world_after plan r w) P
      revoked_released = subst (λ a. Fits a P) (sym moved_is) (with_seen x P seen_now unseen_now)

      -- where it gave itself a new bias, it stands in the middle of taking the object then
      abbrev taken_plan : ℕ → StepPlan
      taken_plan o = with_stage (BiasAcquired o) plan

      abbrev m : ℕ → ThreadView
      m o = known_hit w.shape w.start (taken_plan o) (w.words Safepoint) (w.known r)

      took : (o : ℕ) → Fits (world_after (taken_plan o) r w) P
      took o =
          let now : x.known r ≡ l = with_known_here r l w.known in
          let base : Fits x P = subst (λ a. Fits a P) moved_is revoked_released in
          let runs : (x.known r).running ≡ true = ap (λ (k : ThreadView). k.running) now ∙ running_now in
          let only : OnlyTakes (x.known r) (m o) o = subst (λ k. OnlyTakes k (m o) o) (sym now) (record { is = refl; seen = λ n. refl }) in
          let hit : m o ≡ known_after w.shape w.start (taken_plan o) (w.words Safepoint) (w.known r) =
          ap (λ b. cond b (m o) (known_miss w.shape w.start (taken_plan o) (w.words Safepoint) (w.known r))) (sym found) in
          subst (λ k. Fits (with_word_and_known Safepoint v r k w) P) hit
          (subst (λ k. Fits (record { shape = w.shape; start = w.start; biasing = w.biasing; words = x.words; known = k }) P) (told_told r (m o) l w.known)
          (takes_fits x P r o (m o) below runs (ap (λ (k : ThreadView). k.stage) now) only base))

      -- THE RELEASE
      pub release_ends : (o : ℕ) (taking : Bool) → Fits (world_after (with_stage (stage_after taking o) plan) r w) P
      release_ends o true = took o
      release_ends o false = revoked_released
