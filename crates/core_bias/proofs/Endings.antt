-- The thread that has made all stores of a revocation stands in the middle of nothing then, at its reached safepoint: every clause holds.
use Rattle.core_locks.proofs.Prelude.{◌≡◌, ◌≢◌, ◌⊎◌, ℕ, true, false, List, [], Some, None, refl, sym, ap, ◌∙◌, subst, inl, inr, PlainObject, WordId}
use Rattle.core_locks.proofs.Prelude.{Mark, Settled, is_biased, ThreadView, last_seen, marks, owner_at, CallContext, Stays, StaysWhileAsking}
use Rattle.core_locks.proofs.Prelude.{revocation_in, Fits, SeenFit, IsRevoking, World, with_known, with_knowledge, each_with_known, with_known_here}
use Rattle.core_world.specs.declared.word_id.WordId.TheVariants as id
use Rattle.core_world.specs.Threads.Counts.{counts_of}
use Rattle.core_world.specs.Words.Names.{has_class}
use Rattle.core_world.specs.Clauses.SeenWords.{AreTheSteps}
use Rattle.core_world.specs.RevocationRules.{FoundAfter, words_after, writes_in}
use Rattle.core_world.proofs.NoWordChanges.{one_requester}
use Rattle.core_locks.proofs.safepoint.SafeFacts.{one_reached}
use Rattle.core_bias.specs.Revoking.{SameButForStores, is_kept_on_request, revoked_world}
use Rattle.core_bias.proofs.Knows.{knows_fits, told_told}
use Rattle.core_bias.proofs.Releases.{blank, now}
use Rattle.core_bias.proofs.Singles.{reached_within}
use Rattle.core_bias.proofs.Unseen.{FitsUnseen, with_seen}

-- it knows what it knew, but for its stage, and for its steps, by which it found and left the same
pub record OnlyCalm (k l : ThreadView) : Type 0 where
  pub is : l ≡ record k { stage = Settled; seen = l.seen; seen_at_safepoint = l.seen_at_safepoint; steps = l.steps }
  pub seen : (n : WordId) → last_seen n l.seen ≡ last_seen n k.seen
  pub seen_at_safepoint : (n : WordId) → last_seen n l.seen_at_safepoint ≡ last_seen n k.seen_at_safepoint
  pub writes : writes_in l.seen_at_safepoint ≡ writes_in k.seen_at_safepoint
  pub found : (f : WordId → ℕ) → FoundAfter f k.seen_at_safepoint → FoundAfter f l.seen_at_safepoint

module _ (w : World) (P : List PlainObject) (s : IsRevoking w P) (e : CallContext) (all : s.rest ≡ [])
    (whole : FitsUnseen (revoked_world s.before s.requester s.revocation (blank w P s e)) P)
    (l : ThreadView) (only : OnlyCalm (w.known s.requester) l) (since : (n : WordId) (v : ℕ) → is_kept_on_request n ≡ true
    → last_seen n (w.known s.requester).seen ≡ Some v → last_seen n (w.known s.requester).seen_at_safepoint ≡ Some v) where
  abbrev r : ℕ
  r = s.requester

  abbrev x : World
  x = with_knowledge r l w

  -- the world in which the requester has seen nothing
  abbrev z : World
  z = with_knowledge r (blank w P s e) w

  reached : (w.known r).reached ≡ true
  reached = ap (λ (k : ThreadView). k.reached) s.knows ∙ s.reached

  stopped : (u : ℕ) → (w.known u).running ≡ false
  stopped u = (s.safe.safepoint r reached).1 u

  asks : (w.known r).requesting ≡ true
  asks = (s.safe.safepoint r reached).0

  alike : SameButForStores (blank w P s e) l
  alike = record {
    thread = sym (ap (λ (k : ThreadView). k.thread) only.is);
    log = sym (ap (λ (k : ThreadView). k.log) only.is);
    running = sym (ap (λ (k : ThreadView). k.running) only.is);
    requesting = sym (ap (λ (k : ThreadView). k.requesting) only.is);
    reached = sym (ap (λ (k : ThreadView). k.reached) only.is);
    halted = sym (ap (λ (k : ThreadView). k.halted) only.is);
    kept = sym (ap (λ (k : ThreadView). k.kept) only.is);
    moving = sym (ap (λ (k : ThreadView). k.moving) only.is);
    saved = sym (ap (λ (k : ThreadView). k.saved) only.is);
    holds = sym (ap (λ (k : ThreadView). k.holds) only.is);
    wait = sym (ap (λ (k : ThreadView). k.wait) only.is);
    published = sym (ap (λ (k : ThreadView). k.published) only.is);
    draws = sym (ap (λ (k : ThreadView). k.draws) only.is);
    shots = sym (ap (λ (k : ThreadView). k.shots) only.is);
    stage = sym (ap (λ (k : ThreadView). k.stage) only.is);
    unfinished = sym (ap (λ (k : ThreadView). k.unfinished) only.is);
  }

  unseen_now : FitsUnseen x P
  unseen_now =
      let blank_world : FitsUnseen z P = now w P s e all whole in
      let known : z.known r ≡ blank w P s e = with_known_here r (blank w P s e) w.known in
      let counts : l.counts ≡ (z.known r).counts = ap (λ (k : ThreadView). k.counts) only.is ∙ sym (ap (λ (k : ThreadView). k.counts) known) in
      let here : (z.known r).reached ≡ true = ap (λ (k : ThreadView). k.reached) known ∙ reached in
      subst (λ f. FitsUnseen (record { shape = w.shape; start = w.start; biasing = w.biasing; words = w.words; known = f }) P)
      (told_told r l (blank w P s e) w.known)
      (knows_fits z P r l (subst (λ k. SameButForStores k l) (sym known) alike) (reached_within z P r here blank_world)
      (λ c. ap (λ y. (counts_of y c).rebias) counts) (λ c. ap (λ y. (counts_of y c).revoke) counts) blank_world)

  no_other : (u : ℕ) → u ≢ r → (w.known u).requesting ≡ true → ⊥
  no_other u d h = d (one_requester w P s.safe u r h asks)

  stopped_now : (u : ℕ) → (with_known r l w.known u).running ≡ true → ⊥
  stopped_now u = each_with_known (λ u y. y.running ≡ true → ⊥) r l w.known u
      (λ a. let no = stopped r in let same = ap (λ (k : ThreadView). k.running) only.is in
      absurd (cc (a, same, no))) (λ d a. let no = stopped u in absurd (cc (a, no)))

  -- what it counts on while its request stands is a mark, a word of a class or the class word of an object
  counts_on : (n : WordId) (v : ℕ) → StaysWhileAsking x n v → is_kept_on_request n ≡ true
  counts_on (id.Prototype c) v h = refl
  counts_on (id.Revocations c) v h = refl
  counts_on (id.LastBulk c) v h = refl
  counts_on (Mark o) v h = refl
  counts_on (id.Class o) v h = refl
  counts_on _ v h = absurd h

  seen_law : SeenFit x P
  seen_law = record {
    stays = λ u n m. each_with_known (λ u y. last_seen n y.seen ≡ Some m → Stays x y (owner_at P) u n m → w.words n ≡ m) r l w.known u
        (λ h st. elim st [
          | inl a ↦ let no = stopped r in let same = ap (λ (k : ThreadView). k.running) only.is in let yes = a.0 in absurd (cc (same, yes, no))
          | inr a ↦ s.seen.stands r n m reached (since n m (counts_on n m a.2) (sym (only.seen n) ∙ h))
        ])
        (λ d h st. elim st [ inl a ↦ let no = stopped u in let yes = a.0 in absurd (cc (yes, no)) | inr a ↦ absurd (no_other u d a.0) ]);
    unbiased = λ u i m. each_with_known (λ u y. last_seen (Mark i) y.seen ≡ Some m
        → (y.running ≡ true) ⊎ (y.requesting ≡ true) → is_biased m ≡ false → is_biased (marks w i) ≡ false) r l w.known u
        (λ h a c. s.seen.unbiased r i m (sym (only.seen (Mark i)) ∙ h) (inr asks) c)
        (λ d h a c. elim a [ inl b ↦ let no = stopped u in absurd (cc (b, no)) | inr b ↦ absurd (no_other u d b) ]);
    classed = s.seen.classed;
    saw_classed = λ u i m. each_with_known (λ u y. last_seen (Mark i) y.seen ≡ Some m → (y.running ≡ true) ⊎ (y.requesting ≡ true) → is_biased m ≡ true
        → has_class w.shape w.words i ≡ true) r l w.known u
        (λ h a c. s.seen.saw_classed r i m (sym (only.seen (Mark i)) ∙ h) (inr asks) c)
        (λ d h a c. elim a [ inl b ↦ let no = stopped u in absurd (cc (b, no)) | inr b ↦ absurd (no_other u d b) ]);
    unwaiting = λ u y i m h a. absurd (stopped_now u a);
    unwaited = λ u i m h a. absurd (stopped_now u a);
    stands = λ u n m. each_with_known (λ u y. y.reached ≡ true → last_seen n y.seen_at_safepoint ≡ Some m → w.words n ≡ m) r l w.known u
        (λ a h. s.seen.stands r n m reached (sym (only.seen_at_safepoint n) ∙ h)) (λ d a h. absurd (one_reached w P r u s.safe reached d a));
    alone = λ u. each_with_known (λ u y. y.reached ≡ true → revocation_in y.stage ≡ None → AreTheSteps w.words y.seen_at_safepoint) r l w.known u
        (λ a h. record {
          before = s.before.words;
          found = only.found s.before.words s.found;
          same = s.words ∙ ap (λ ms. words_after ms s.before.words) (sym only.writes);
        })
        (λ d a h. absurd (one_reached w P r u s.safe reached d a));
    monitors = λ u m c a. absurd (stopped_now u a);
  }

  pub calm_fits : Fits x P
  calm_fits = with_seen x P seen_law unseen_now
