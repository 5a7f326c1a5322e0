-- A store of a revocation: the first one leads from a world in which every clause holds into the revocation, and each other one goes on there.
use Rattle.core_locks.proofs.Prelude.{◌≡◌, ◌≢◌, ◌⊎◌, ℕ, ◌<◌, ◌≤◌, ◌++◌, ◌==◌, ◌||◌, not, nat_lt, Bool, true, false, cond, List, [], ◌∷◌, length, Some}
use Rattle.core_locks.proofs.Prelude.{None, refl, sym, ap, ◌∙◌, subst, arith, inl, inr, same_Some, nat_tests, read_mark, PlainObject, Store, WordId}
use Rattle.core_locks.proofs.Prelude.{Safepoint, Mark, Prototype, Revocations, LastBulk, Waiting, StepPlan, Shape, class_by, same_name, with_word}
use Rattle.core_locks.proofs.Prelude.{is_biased, hold_word, revocation_in, one_if, ThreadView, StepMade, last_seen, World, with_word_and_known}
use Rattle.core_locks.proofs.Prelude.{with_known, marks, owner_at, hold_count, depth_count, CallContext, SafepointIsKnown, ends, Stays, IsKeptOrNamed}
use Rattle.core_locks.proofs.Prelude.{world_after, known_hit, seen_before, runs_after, asks_after, reached_after, halted_after, kept_by_act}
use Rattle.core_locks.proofs.Prelude.{seen_at_safepoint_before, Fits, SeenFit, FormsFit, SafepointFits, IsRevoking, WordsHaveForms, IsMark}
use Rattle.core_locks.proofs.Prelude.{seen_is_part, frame6, frame8, each_with_known, with_known_here, with_known_else, part_moves, IsPart, Settled}
use Rattle.std.proofs.Common.{append_assoc}
use Rattle.plain_monitor.specs.Limits.{most_threads, most_holds}
use Rattle.lock_policy.specs.declared.policy.Verdict.{Verdict}
use Rattle.lock_policy.specs.Policy.{decided, is_reset}
use Rattle.core_world.specs.declared.word_id.WordId.TheVariants as id
use Rattle.core_world.specs.declared.plan.LocalEffect.{LocalEffect}
use Rattle.core_world.specs.declared.plan.LocalEffect.TheVariants as own
use Rattle.core_world.specs.declared.heap_call.Operation.{Operation}
use Rattle.core_world.specs.Threads.Counts.{with_verdict_counted}
use Rattle.core_world.specs.Threads.Stages.{Revocation}
use Rattle.core_world.specs.Words.Names.{has_class}
use Rattle.core_world.specs.Locks.{is_valid_bias}
use Rattle.core_world.specs.Clauses.SeenWords.{HasMet, AreTheSteps}
use Rattle.core_world.specs.RevocationRules.{Write, write, words_after, revocation_writes, holds_in, first_place, writes_in, FoundAfter}
use Rattle.core_world.specs.Trees.RevocationSteps.{revocation_stage, revoke_plan}
use Rattle.core_world.specs.Steps.{holds_after, wait_after, published_after, kept_after, moving_after, saved_after, shots_after, counts_after}
use Rattle.core_world.specs.Valid.{RevokesSince, RevokesWithin, requester_known}
use Rattle.core_world.proofs.NoWordChanges.{one_requester}
use Rattle.core_world.proofs.Naming.{same_named}
use Rattle.core_locks.proofs.safepoint.SafeFacts.{one_reached}
use Rattle.core_world.proofs.There.{class_seen}
use Rattle.core_bias.specs.Revoking.{IsBiasedToOne, MayBeginRevoking, MayStore}
use Rattle.core_bias.proofs.GoodWrites.{is_revocation_word, IsGood, AreGood, Follows, one_follows, follow, good_next, good_writes}
use Rattle.core_bias.proofs.Places.{holds_are, placed}
use Rattle.core_bias.proofs.Revokes.{stored_append}

-- A WORD THAT A REVOCATION STORES is none of the other words, and its store tells its thread nothing of the safepoint or of its own words.
pub other_words_same : (n at : WordId) (v : ℕ) (f : WordId → ℕ) → is_revocation_word at ≡ true → is_revocation_word n ≡ false → with_word at v f n ≡ f n
other_words_same n at v f a b = cases (same_name n at) refl
  where
    cases : (c : Bool) → same_name n at ≡ c → cond c v (f n) ≡ f n
    cases true e = let same = ap is_revocation_word (same_named n at e) in absurd (cc (same, a, b))
    cases false e = refl

runs_store : (at : WordId) (word n : ℕ) (k : ThreadView) → is_revocation_word at ≡ true → runs_after at (Store word) n k ≡ k.running
runs_store id.Safepoint word n k e = absurd (cc e)
runs_store _ word n k e = refl

asks_store : (at : WordId) (word n : ℕ) (k : ThreadView) → is_revocation_word at ≡ true → asks_after at (Store word) n k ≡ k.requesting
asks_store id.Safepoint word n k e = absurd (cc e)
asks_store _ word n k e = refl

reached_store : (at : WordId) (word n : ℕ) (k : ThreadView) → is_revocation_word at ≡ true → reached_after at (Store word) n k ≡ k.reached
reached_store id.Safepoint word n k e = absurd (cc e)
reached_store _ word n k e = refl

halted_store : (at : WordId) (n : ℕ) (k : ThreadView) → is_revocation_word at ≡ true → halted_after at n k ≡ k.halted
halted_store id.Safepoint n k e = absurd (cc e)
halted_store _ n k e = refl

holds_store : (at : WordId) (word : ℕ) (k : ThreadView) → is_revocation_word at ≡ true → holds_after at (Store word) k ≡ k.holds
holds_store (id.Hold t p) word k e = absurd (cc e)
holds_store _ word k e = refl

wait_store : (at : WordId) (word : ℕ) (k : ThreadView) → is_revocation_word at ≡ true → wait_after at (Store word) k ≡ k.wait
wait_store (id.Waiting t) word k e = absurd (cc e)
wait_store _ word k e = refl

published_store : (at : WordId) (word : ℕ) (k : ThreadView) → is_revocation_word at ≡ true → published_after at (Store word) k ≡ k.published
published_store (id.Length t) word k e = absurd (cc e)
published_store _ word k e = refl

kept_store : (at : WordId) (word n : ℕ) (k : ThreadView) (seen : List StepMade) → is_revocation_word at ≡ true → kept_by_act at (Store word) n k seen ≡ seen
kept_store id.Safepoint word n k seen e = absurd (cc e)
kept_store _ word n k seen e = refl

stood_store : (at : WordId) (word : ℕ) (k : ThreadView) → is_revocation_word at ≡ true → seen_at_safepoint_before at (Store word) k ≡ k.seen_at_safepoint
stood_store id.Safepoint word k e = absurd (cc e)
stood_store _ word k e = refl

-- what its thread knew but for its counts, its stage, its call and its steps
abbrev pub apart : ThreadView → ThreadView → ThreadView
apart k l = record k { counts = l.counts; stage = l.stage; seen = l.seen; seen_at_safepoint = l.seen_at_safepoint; steps = l.steps; call = l.call }

-- The revocation of b is about to begin, or under way: thread r makes the store of `word` in `at`, and knows l then.
pub record Going (w : World) (P : List PlainObject) (r : ℕ) (b : Revocation) : Type 0 where
  pub before : World
  pub fits : Fits before P
  pub shape : w.shape ≡ before.shape
  pub start : w.start ≡ before.start
  pub biasing : w.biasing ≡ before.biasing
  pub reached : (before.known r).reached ≡ true
  pub was_calm : (before.known r).stage ≡ Settled
  pub operation : Operation
  pub unfinished : (before.known r).unfinished ≡ Some (record { op = operation; object = b.object })
  pub allowed : RevokesWithin operation b.rebias
  pub object : b.object < length before.shape.objects
  pub biased : IsBiasedToOne before.shape before.words b.object
  pub words : w.words ≡ words_after (writes_in (w.known r).seen_at_safepoint) before.words
  pub found : FoundAfter before.words (w.known r).seen_at_safepoint
  pub untouched : w.words Safepoint ≡ before.words Safepoint
  pub knows : w.known r ≡ apart (before.known r) (w.known r)
  pub others : (t : ℕ) → t ≢ r → w.known t ≡ before.known t
  pub seen : SeenFit w P
  pub forms : FormsFit w
  pub safe : SafepointFits w P

-- what the store leaves of what its thread knows
pub record Leaves (k l : ThreadView) (b : Revocation) (step : StepMade) : Type 0 where
  pub is : l ≡ apart k l
  pub stage : l.stage ≡ revocation_stage b
  pub old : List StepMade
  pub part : IsPart old k.seen
  pub seen : l.seen ≡ step ∷ old
  pub seen_at_safepoint : l.seen_at_safepoint ≡ step ∷ k.seen_at_safepoint

module _ (w : World) (P : List PlainObject) (r : ℕ) (b : Revocation) (g : Going w P r b)
    (e : CallContext) (o : LocalEffect) (at : WordId) (word : ℕ) (l : ThreadView)
    (leaves : Leaves (w.known r) l b (record { plan = revoke_plan e b o at word; found = w.words at })) (good : IsGood w.shape g.before.words (write at word))
    (follows : Follows w.shape g.before.words w.words) where
  abbrev x : World
  x = with_word_and_known at word r l w

  abbrev step : StepMade
  step = record { plan = revoke_plan e b o at word; found = w.words at }

  its_revocation : is_revocation_word at ≡ true
  its_revocation = good.0

  reached_now : (w.known r).reached ≡ true
  reached_now = ap (λ (k : ThreadView). k.reached) g.knows ∙ g.reached

  stopped : (u : ℕ) → (w.known u).running ≡ false
  stopped u = (g.safe.safepoint r reached_now).1 u

  asks : (w.known r).requesting ≡ true
  asks = (g.safe.safepoint r reached_now).0

  running : (w.known r).running ≡ l.running
  running = sym (ap (λ (k : ThreadView). k.running) leaves.is)

  requesting : (w.known r).requesting ≡ l.requesting
  requesting = sym (ap (λ (k : ThreadView). k.requesting) leaves.is)

  -- the word of the step, and the others as they were last seen before
  newest : (n : WordId) (m : ℕ) (old : List StepMade) → (last_seen n old ≡ Some m → w.words n ≡ m) → last_seen n (step ∷ old) ≡ Some m → x.words n ≡ m
  newest n m old before h = cases (same_name n at) h
    where
      cases : (c : Bool) → cond c (Some word) (last_seen n old) ≡ Some m → cond c word (w.words n) ≡ m
      cases true h = same_Some _ _ h
      cases false h = before h

  follows_now : Follows w.shape g.before.words x.words
  follows_now = one_follows w.shape g.before.words at word w.words good follows

  no_other : (u : ℕ) → u ≢ r → (w.known u).requesting ≡ true → ⊥
  no_other u d h = d (one_requester w P g.safe u r h asks)

  stopped_now : (u : ℕ) → (with_known r l w.known u).running ≡ true → ⊥
  stopped_now u = each_with_known (λ u y. y.running ≡ true → ⊥) r l w.known u
      (λ a. let no = stopped r in absurd (cc (running, a, no))) (λ d a. let no = stopped u in absurd (cc (a, no)))

  seen_law : SeenFit x P
  seen_law = record {
    stays = λ u n m. each_with_known (λ u y. last_seen n y.seen ≡ Some m → Stays x y (owner_at P) u n m → x.words n ≡ m) r l w.known u
        (λ h st. elim st [
          | inl a ↦ let no = stopped r in let yes = a.0 in absurd (cc (running, yes, no))
          | inr a ↦ let none = a.1 in let some = ap revocation_in leaves.stage in absurd (cc (none, some))
        ])
        (λ d h st. elim st [ inl a ↦ let no = stopped u in let yes = a.0 in absurd (cc (yes, no)) | inr a ↦ absurd (no_other u d a.0) ]);
    unbiased = λ u i m. each_with_known (λ u y. last_seen (Mark i) y.seen ≡ Some m
        → (y.running ≡ true) ⊎ (y.requesting ≡ true) → is_biased m ≡ false → is_biased (marks x i) ≡ false) r l w.known u
        (λ h a c. mark_case i m c (same_name (Mark i) at) (ap (last_seen (Mark i)) (sym leaves.seen) ∙ h))
        (λ d h a c. elim a [ inl z ↦ let no = stopped u in absurd (cc (z, no)) | inr z ↦ absurd (no_other u d z) ]);
    classed = λ i e. there i (follows_now.leaning i e);
    saw_classed = λ u i m. each_with_known (λ u y. last_seen (Mark i) y.seen ≡ Some m → (y.running ≡ true) ⊎ (y.requesting ≡ true) → is_biased m ≡ true
        → has_class w.shape x.words i ≡ true) r l w.known u
        (λ h a c. saw_there i m c (same_name (Mark i) at) refl (ap (last_seen (Mark i)) (sym leaves.seen) ∙ h))
        (λ d h a c. elim a [ inl z ↦ let no = stopped u in absurd (cc (z, no)) | inr z ↦ absurd (no_other u d z) ]);
    unwaiting = λ u y i m h a. absurd (stopped_now u a);
    unwaited = λ u i m h a. absurd (stopped_now u a);
    stands = λ u n m. each_with_known (λ u y. y.reached ≡ true → last_seen n y.seen_at_safepoint ≡ Some m → x.words n ≡ m) r l w.known u
        (λ a h. newest n m (w.known r).seen_at_safepoint (λ z. g.seen.stands r n m reached_now z) (ap (last_seen n) (sym leaves.seen_at_safepoint) ∙ h))
        (λ d a h. absurd (one_reached w P r u g.safe reached_now d a));
    alone = λ u. each_with_known (λ u y. y.reached ≡ true → revocation_in y.stage ≡ None → AreTheSteps x.words y.seen_at_safepoint) r l w.known u
        (λ a h. let some = ap revocation_in leaves.stage in absurd (cc (some, h)))
        (λ d a h. absurd (one_reached w P r u g.safe reached_now d a));
    monitors = λ u m c. each_with_known (λ u y. y.running ≡ true → HasMet y.seen m c → IsKeptOrNamed x y m) r l w.known u
        (λ a h. let no = stopped r in absurd (cc (running, a, no))) (λ d a h. let no = stopped u in absurd (cc (a, no)));
  }
    where
      mark_case : (i m : ℕ) → is_biased m ≡ false → (c : Bool)
          → cond c (Some word) (last_seen (Mark i) leaves.old) ≡ Some m → is_biased (cond c word (w.words (Mark i))) ≡ false
      mark_case i m plain true h = ap is_biased (same_Some _ _ h) ∙ plain
      mark_case i m plain false h = g.seen.unbiased r i m (leaves.part (Mark i) m h) (inr asks) plain

      -- what had the bias pattern before the first store is there
      there : (i : ℕ) → is_biased (marks g.before i) ≡ true → has_class w.shape x.words i ≡ true
      there i e = ap (λ n. nat_lt i w.shape.declared || not (n == 0)) (follows_now.classes i) ∙ ap (λ s. has_class s g.before.words i) g.shape
          ∙ g.fits.seen.classed i e

      saw_there : (i m : ℕ) → is_biased m ≡ true → (c : Bool) → same_name (Mark i) at ≡ c → cond c (Some word) (last_seen (Mark i) leaves.old) ≡ Some m
          → has_class w.shape x.words i ≡ true
      saw_there i m e true s h = there i (follows_now.leaning i (ap (λ c. is_biased (cond c word (w.words (Mark i)))) s ∙ ap is_biased (same_Some _ _ h) ∙ e))
      saw_there i m e false s h =
          ap (λ n. nat_lt i w.shape.declared || not (n == 0)) (other_words_same (id.Class i) at word w.words its_revocation refl)
          ∙ g.seen.saw_classed r i m (leaves.part (Mark i) m h) (inr asks) e

  -- each word of another kind is as it was
  kept_word : (n : WordId) → is_revocation_word n ≡ false → w.words n ≡ x.words n
  kept_word n h = sym (other_words_same n at word w.words its_revocation h)

  forms_law : FormsFit x
  forms_law =
      frame6 (WordsHaveForms w.shape (marks x)) (λ i. λ m. kept_word (id.Owner m) refl i)
      (λ i. λ t. kept_word (id.Waiting t) refl i) (λ i. λ m. kept_word (id.Object m) refl i)
      (λ i. λ o. kept_word (id.Class o) refl i) (λ i. λ t p. kept_word (id.Hold t p) refl i) (kept_word Safepoint refl)
      (record {
        marks = follows_now.forms;
        owners = g.forms.owners;
        waits = g.forms.waits;
        objects = g.forms.objects;
        holds = g.forms.holds;
        safepoint = g.forms.safepoint;
        classes = g.forms.classes;
      })

  safe_law : SafepointFits x P
  safe_law =
      let is = leaves.is in
      frame8 (SafepointIsKnown w.shape.threads) (kept_word Safepoint refl)
      (part_moves (λ y. y.running) r l w.known running) (part_moves (λ y. y.requesting) r l w.known requesting)
      (part_moves (λ y. y.reached) r l w.known (sym (ap (λ (k : ThreadView). k.reached) is)))
      (part_moves (λ y. y.halted) r l w.known (sym (ap (λ (k : ThreadView). k.halted) is)))
      (part_moves (λ y. ends y.log) r l w.known (sym (ap (λ (k : ThreadView). ends k.log) is))) (part_moves (λ y. y.unfinished) r l w.known
      (sym (ap (λ (k : ThreadView). k.unfinished) is))) refl g.safe

  here : with_known r l w.known r ≡ l
  here = with_known_here r l w.known

  stood_now : writes_in l.seen_at_safepoint ≡ writes_in (w.known r).seen_at_safepoint ++ write at word ∷ []
  stood_now = ap writes_in leaves.seen_at_safepoint

  some : (xs : List Write) (y : Write) → xs ++ y ∷ [] ≢ []
  some [] y h = absurd (cc h)
  some (z ∷ xs) y h = absurd (cc h)

  -- THE LAW of the store: what the thread counted is what the rules decide, and the store is the next one that they list
  pub store_revokes : (rest : List Write)
      → writes_in (w.known r).seen_at_safepoint ++ write at word ∷ rest ≡ revocation_writes g.before.shape r b g.before.words
      → (let c = class_by g.before.shape g.before.words b.object in
      l.counts ≡ with_verdict_counted (g.before.known r).counts c (decided (g.before.words (Revocations c)) (g.before.words (LastBulk c)) b.now).0
      (is_reset (g.before.words (Revocations c)) (g.before.words (LastBulk c)) b.now))
      → RevokesSince x P g.before
  store_revokes rest writes counts = (
    record {
      before = g.before;
      fits = g.fits;
      shape = g.shape;
      start = g.start;
      biasing = g.biasing;
      requester = r;
      reached = g.reached;
      was_calm = g.was_calm;
      revocation = b;
      its_revocation = ap (λ (k : ThreadView). revocation_in k.stage) here ∙ ap revocation_in leaves.stage;
      operation = g.operation;
      unfinished = g.unfinished;
      allowed = g.allowed;
      object = g.object;
      biased = g.biased;
      rest = rest;
      writes = ap (λ (k : ThreadView). writes_in k.seen_at_safepoint ++ rest) here ∙ ap (λ z. z ++ rest) stood_now
          ∙ append_assoc (writes_in (w.known r).seen_at_safepoint) (write at word ∷ []) rest ∙ writes;
      begun = λ h. some (writes_in (w.known r).seen_at_safepoint) (write at word)
          (sym stood_now ∙ sym (ap (λ (k : ThreadView). writes_in k.seen_at_safepoint) here) ∙ h);
      words = ap (λ f. with_word at word f) g.words ∙ sym (stored_append (writes_in (w.known r).seen_at_safepoint) (write at word ∷ []) g.before.words)
          ∙ sym (ap (λ z. words_after z g.before.words) (ap (λ (k : ThreadView). writes_in k.seen_at_safepoint) here ∙ stood_now));
      found = subst (λ (k : ThreadView). FoundAfter g.before.words k.seen_at_safepoint) (sym here)
          (subst (FoundAfter g.before.words) (sym leaves.seen_at_safepoint) (ap (λ (f : WordId → ℕ). f at) g.words, g.found));
      untouched = sym (kept_word Safepoint refl) ∙ g.untouched;
      knows =
          let was : l ≡ apart (g.before.known r) l = leaves.is ∙ ap (λ k. apart k l) g.knows in
          let counted_so : apart (g.before.known r) l ≡ requester_known g.before r b l = ap (λ z. record (apart (g.before.known r) l) { counts = z }) counts in
          here ∙ was ∙ counted_so ∙ ap (requester_known g.before r b) (sym here);
      others = λ u d. with_known_else r l w.known u d ∙ g.others u d;
      seen = seen_law;
      forms = forms_law;
      safe = safe_law;
    },
    refl,
  )

-- WHAT SUCH A STORE LEAVES, where the thread keeps nothing of it but a count
module _ (s : Shape) (start : ℕ) (e : CallContext) (b : Revocation) (o : LocalEffect)
    (at : WordId) (word n : ℕ) (k : ThreadView) (its_revocation : is_revocation_word at ≡ true)
    (kept : kept_after o n k.kept ≡ k.kept) (moving : moving_after o n k.moving ≡ k.moving) (saved : saved_after o n k.saved ≡ k.saved)
    (shots : shots_after o s k ≡ k.shots) (goes_on : e.unfinished ≡ k.unfinished) (check : e.check ≡ k.checking) where
  abbrev l : ThreadView
  l = known_hit s start (revoke_plan e b o at word) n k

  pub store_leaves : Leaves k l b (record { plan = revoke_plan e b o at word; found = n })
  store_leaves = record {
    is = λ i. record l {
      running = runs_store at word word k its_revocation i;
      requesting = asks_store at word word k its_revocation i;
      reached = reached_store at word word k its_revocation i;
      halted = halted_store at word k its_revocation i;
      kept = kept i;
      moving = moving i;
      saved = saved i;
      holds = holds_store at word k its_revocation i;
      wait = wait_store at word k its_revocation i;
      published = published_store at word k its_revocation i;
      unfinished = goes_on i;
      checking = check i;
      shots = shots i;
    };
    stage = refl;
    old = seen_before s k;
    part = seen_is_part s k;
    seen = ap (λ (z : List StepMade). record { plan = revoke_plan e b o at word; found = n } ∷ z) (kept_store at word word k (seen_before s k) its_revocation);
    seen_at_safepoint = ap (λ (z : List StepMade). record { plan = revoke_plan e b o at word; found = n } ∷ z) (stood_store at word k its_revocation);
  }

-- where its steps alone made the words what they are, and stored nothing, they found the words as they are
pub unwritten_found : (f : WordId → ℕ) (ms : List StepMade) → AreTheSteps f ms → writes_in ms ≡ [] → FoundAfter f ms
unwritten_found f ms h none = subst (λ z. FoundAfter z ms) (sym (h.same ∙ ap (λ xs. words_after xs h.before) none)) h.found

-- a hold of an object has a record with depth 1
pub first_below : (w : World) (P : List PlainObject) → Fits w P → (t o : ℕ)
    → hold_count o (holds_in w.words t) ≢ 0 → first_place o (holds_in w.words t) < most_holds
first_below w P v t o = subst (λ hs. hold_count o hs ≢ 0 → first_place o hs < most_holds)
    (sym (holds_are w.words t (w.known t).holds (v.holds.places t) (v.holds.stored t))) by_holds
  where
    by_holds : hold_count o (w.known t).holds ≢ 0 → first_place o (w.known t).holds < most_holds
    by_holds some =
        let held : 1 ≤ hold_count o (w.known t).holds = omega (arith, some) in
        let test : nat_lt 0 (hold_count o (w.known t).holds) ≡ true = grind (arith, nat_tests, held) in
        let once : depth_count o 1 (w.known t).holds ≡ 1 = v.holds.each t o 0 (omega arith) ∙ ap one_if test in
        omega (arith, (placed (hold_word o 1) 0 (w.known t).holds (omega (arith, once))).1, v.holds.places t)

module _ (w : World) (P : List PlainObject) (e : CallContext) (b : Revocation) (at : WordId) (word : ℕ) where
  -- all stores are good, so this one is, and those before it were
  goods : (r : ℕ) (g : Going w P r b) → r < w.shape.threads → (rest : List Write)
      → writes_in (w.known r).seen_at_safepoint ++ write at word ∷ rest ≡ revocation_writes w.shape r b g.before.words
      → IsGood w.shape g.before.words (write at word) × Follows w.shape g.before.words w.words
  goods r g within rest writes =
      let forms : (o : ℕ) → IsMark w.shape (read_mark (g.before.words (Mark o))) =
      λ o. subst (λ s. IsMark s (read_mark (g.before.words (Mark o)))) (sym g.shape) (g.fits.forms.marks o) in
      let threads : w.shape.threads ≤ most_threads = subst (λ (s : Shape). s.threads ≤ most_threads) (sym g.shape) g.fits.limits.threads in
      let all = good_writes w.shape g.before.words threads (first_below g.before P g.fits) r b within forms in
      let parts = good_next w.shape g.before.words (writes_in (w.known r).seen_at_safepoint) rest
      (write at word) (subst (AreGood w.shape g.before.words) (sym writes) all) in
      let first : Follows w.shape g.before.words g.before.words =
      record { forms = forms; names = λ o. refl; leaning = λ o e. e; holds = λ t p. refl; classes = λ o. refl } in (
        parts.1,
        subst (Follows w.shape g.before.words) (sym g.words)
            (follow w.shape g.before.words (writes_in (w.known r).seen_at_safepoint) g.before.words parts.0 first),
      )

  abbrev plan : LocalEffect → StepPlan
  plan o = revoke_plan e b o at word

  -- the law of a store, by what was going on
  next_store : (r : ℕ) (g : Going w P r b) (o : LocalEffect) → r < w.shape.threads → MayStore w.shape (w.known r) e r b at word
      → kept_after o (w.words at) (w.known r).kept ≡ (w.known r).kept → moving_after o (w.words at) (w.known r).moving ≡ (w.known r).moving
      → saved_after o (w.words at) (w.known r).saved ≡ (w.known r).saved → shots_after o w.shape (w.known r) ≡ (w.known r).shots
      → (let c = class_by w.shape g.before.words b.object in
      counts_after o (w.known r).counts ≡ with_verdict_counted (g.before.known r).counts c (decided (g.before.words (Revocations c))
      (g.before.words (LastBulk c)) b.now).0 (is_reset (g.before.words (Revocations c)) (g.before.words (LastBulk c)) b.now))
      → RevokesSince (world_after (plan o) r w) P g.before
  next_store r g o within may kept moving saved shots counts =
      let front = may.next g.before.words (subst (λ s. IsBiasedToOne s g.before.words b.object) (sym g.shape) g.biased) g.found in
      let good = goods r g within front.0 front.1 in
      let l = known_hit w.shape w.start (plan o) (w.words at) (w.known r) in
      let reached : (w.known r).reached ≡ true = ap (λ (k : ThreadView). k.reached) g.knows ∙ g.reached in
      let leaves = store_leaves w.shape w.start e b o at word (w.words at) (w.known r) good.0.0 kept moving saved shots may.goes_on may.check in
      store_revokes w P r b g e o at word l leaves good.0 good.1
      front.0 (front.1 ∙ ap (λ s. revocation_writes s r b g.before.words) g.shape)
      (subst (λ s. let c = class_by s g.before.words b.object in
      counts_after o (w.known r).counts ≡ with_verdict_counted (g.before.known r).counts c (decided (g.before.words (Revocations c))
      (g.before.words (LastBulk c)) b.now).0 (is_reset (g.before.words (Revocations c)) (g.before.words (LastBulk c)) b.now)) g.shape counts)

  -- THE FIRST STORE: every clause holds, and the thread counts the verdict.
  pub first_store : (r class : ℕ) (verdict : Verdict) (reset : Bool) → r < w.shape.threads
      → MayBeginRevoking w.shape (w.known r) e r b class verdict reset at word → Fits w P
      → RevokesSince (world_after (plan (own.CountVerdict class verdict reset)) r w) P w
  first_store r class verdict reset within may v =
      let c = class_by w.shape w.words b.object in
      let is : c ≡ class = class_seen w.shape w.words (w.known r).seen_at_safepoint b.object class
      (λ m e d. v.seen.stands r (id.Class b.object) m may.reached e) may.saw_class in
      let stands = λ (n : WordId) (m : ℕ). v.seen.stands r n m may.reached in
      let saw = may.biased in
      let prototype : w.words (Prototype c) ≡ saw.1 = ap (λ z. w.words (Prototype z)) is ∙ stands (Prototype class) saw.1 saw.3 in
      let policy = may.decides in
      let g : Going w P r b = record {
        before = w;
        fits = v;
        shape = refl;
        start = refl;
        biasing = refl;
        reached = may.reached;
        was_calm = may.calm;
        operation = may.operation;
        unfinished = may.unfinished;
        allowed = may.allowed;
        object = may.object.within;
        biased = (λ i. is_valid_bias (read_mark (stands (Mark b.object) saw.0 saw.2 i)) (prototype i)) ∙ saw.4;
        words = sym (ap (λ xs. words_after xs w.words) may.unwritten);
        found = unwritten_found w.words (w.known r).seen_at_safepoint (v.seen.alone r may.reached (ap revocation_in may.calm)) may.unwritten;
        untouched = refl;
        knows = refl;
        others = λ t d. refl;
        seen = v.seen;
        forms = v.forms;
        safe = v.safe;
      } in
      let count : w.words (Revocations c) ≡ policy.0 = ap (λ z. w.words (Revocations z)) is ∙ stands (Revocations class) policy.0 policy.2 in
      let last : w.words (LastBulk c) ≡ policy.1 = ap (λ z. w.words (LastBulk z)) is ∙ stands (LastBulk class) policy.1 policy.3 in
      let d : (verdict ≡ (decided (w.words (Revocations c)) (w.words (LastBulk c)) b.now).0)
      × (reset ≡ is_reset (w.words (Revocations c)) (w.words (LastBulk c)) b.now) =
      (policy.4 ∙ (λ i. (decided (sym count i) (sym last i) b.now).0), policy.5 ∙ (λ i. is_reset (sym count i) (sym last i) b.now)) in
      next_store r g (own.CountVerdict class verdict reset) within may.store refl refl refl refl
      (λ i. with_verdict_counted (w.known r).counts (sym is i) (d.0 i) (d.1 i))

-- A STORE IN THE MIDDLE: the thread whose revocation is under way makes the next store, and keeps nothing of it.
pub middle_store : (w : World) (P : List PlainObject) (e : CallContext) (at : WordId) (word : ℕ) (s : IsRevoking w P)
    → s.requester < w.shape.threads → MayStore w.shape (w.known s.requester) e s.requester s.revocation at word
    → RevokesSince (world_after (revoke_plan e s.revocation own.Unchanged at word) s.requester w) P s.before
middle_store w P e at word s within may =
    let r = s.requester in
    let counts : (requester_known s.before r s.revocation (w.known r)).counts ≡ (w.known r).counts = sym (ap (λ (k : ThreadView). k.counts) s.knows) in
    let g : Going w P r s.revocation = record {
      before = s.before;
      fits = s.fits;
      shape = s.shape;
      start = s.start;
      biasing = s.biasing;
      reached = s.reached;
      was_calm = s.was_calm;
      operation = s.operation;
      unfinished = s.unfinished;
      allowed = s.allowed;
      object = s.object;
      biased = s.biased;
      words = s.words;
      found = s.found;
      untouched = s.untouched;
      knows = s.knows ∙ ap (λ z. record (apart (s.before.known r) (w.known r)) { counts = z }) counts;
      others = s.others;
      seen = s.seen;
      forms = s.forms;
      safe = s.safe;
    } in
    next_store w P e s.revocation at word r g own.Unchanged within may refl refl refl refl
    (sym counts ∙ ap (λ (z : Shape). with_verdict_counted (s.before.known r).counts (class_by z s.before.words s.revocation.object)
    (decided (s.before.words (Revocations (class_by z s.before.words s.revocation.object)))
    (s.before.words (LastBulk (class_by z s.before.words s.revocation.object))) s.revocation.now).0
    (is_reset (s.before.words (Revocations (class_by z s.before.words s.revocation.object)))
    (s.before.words (LastBulk (class_by z s.before.words s.revocation.object))) s.revocation.now)) (sym s.shape))
