-- A single revocation as a whole: the count, the stores, and what the requester knows then.
use Rattle.core_locks.proofs.Prelude.{◌≡◌, ℕ, ◌<◌, ◌≤◌, ◌==◌, nat_lt, Bool, true, false, cond, if◌then◌else◌, List, [], refl, sym, ap}
use Rattle.core_locks.proofs.Prelude.{◌∙◌, subst, arith, nat_tests, PlainObject, WordId, Revocations, LastBulk, class_by, with_word}
use Rattle.core_locks.proofs.Prelude.{ThreadView, World, with_knowledge, with_known_here, is_biased, Mark, Settled, inl, inr}
use Rattle.lock_policy.specs.declared.policy.Verdict.{Verdict}
use Rattle.lock_policy.specs.declared.policy.Verdict.TheVariants.{Single}
use Rattle.lock_policy.specs.Policy.{decided, is_reset, after_reset, raised, most_revocations}
use Rattle.core_world.specs.Threads.Counts.{CountedVerdict, counts_of, with_verdict_counted, with_verdict, with_reset}
use Rattle.core_world.specs.Threads.Stages.{Revocation}
use Rattle.core_world.specs.RevocationRules.{words_after, in_turn, verdict_rules, revocation_writes, revoke}
use Rattle.core_locks.proofs.Clauses as clause
use Rattle.core_bias.specs.Revoking.{HasCounted, revoked_world}
use Rattle.core_bias.proofs.Unseen.{FitsUnseen, with_words}
use Rattle.core_bias.proofs.MarkTurns.{AllCalm}
use Rattle.core_bias.proofs.Revokes.{stored_append, revoke_fits, revoke_unbiased}
use Rattle.core_bias.proofs.Knows.{knows_fits}
use Rattle.core_world.proofs.NoWordChanges.{one_requester}

-- at a reached safepoint of a thread that is calm nobody runs, and everybody is calm
pub all_calm : (w : World) (P : List PlainObject) (r : ℕ) → (w.known r).reached ≡ true → (w.known r).stage ≡ Settled → FitsUnseen w P → AllCalm w
all_calm w P r reached calm v u =
    let safe = v clause.safe in
    elim ((v clause.quiet).quiet u ((safe.safepoint r reached).1 u)) [
      | inl a ↦ a
      | inr a ↦ (let same : u ≡ r = one_requester w P safe u r (safe.safepoint u a.0).0 (safe.safepoint r reached).0 in ap (λ y. (w.known y).stage) same ∙ calm)
    ]

-- the new count is at most the greatest
pub raised_few : (count last now : ℕ) → count ≤ most_revocations → (decided count last now).1 ≤ most_revocations
raised_few count last now few = up (after_reset count last now) (reset (is_reset count last now))
  where
    reset : (b : Bool) → (if b then 0 else count) ≤ most_revocations
    reset true = omega arith
    reset false = few

    up : (n : ℕ) → n ≤ most_revocations → raised n ≤ most_revocations
    up n h = grind (arith, nat_tests, h)

few_or : {n k : ℕ} (b : Bool) → n ≤ most_revocations → k ≤ most_revocations → cond b n k ≤ most_revocations
few_or true g h = g
few_or false g h = h

-- the count is stored
pub count_fits : (w : World) (P : List PlainObject) (c n : ℕ) → w.biasing ≡ true → n ≤ most_revocations
    → FitsUnseen w P → FitsUnseen (with_words (with_word (Revocations c) n w.words) w) P
count_fits w P c n on few v clause.classes = record {
  plain = λ off i. absurd (cc (on, off));
  unbiased = (v clause.classes).unbiased;
  few = λ b i. few_or (i == c) few ((v clause.classes).few b i);
  prototypes = (v clause.classes).prototypes;
}
count_fits w P c n on few v i = v i

-- a verdict of Single counts no bulk operation
counted_single : (f : List CountedVerdict) (c : ℕ) (reset : Bool) (i : ℕ)
    → ((counts_of (with_verdict_counted f c Single reset) i).rebias ≡ (counts_of f i).rebias)
    × ((counts_of (with_verdict_counted f c Single reset) i).revoke ≡ (counts_of f i).revoke)
counted_single f c reset i = by_class (i == c)
  where
    by_class : (b : Bool) → let k = cond b (with_reset (with_verdict (counts_of f i) Single) reset) (counts_of f i) in
        (k.rebias ≡ (counts_of f i).rebias) × (k.revoke ≡ (counts_of f i).revoke)
    by_class true = (refl, refl)
    by_class false = (refl, refl)

-- who has reached its safepoint is a thread of the heap
pub reached_within : (w : World) (P : List PlainObject) (r : ℕ) → (w.known r).reached ≡ true → FitsUnseen w P → r < w.shape.threads
reached_within w P r reached v = cases (nat_lt r w.shape.threads) refl
  where
    cases : (a : Bool) → nat_lt r w.shape.threads ≡ a → r < w.shape.threads
    cases true e = grind (arith, nat_tests, e)
    cases false e =
        let far : w.shape.threads ≤ r = grind (arith, nat_tests, e) in
        let none = ap (λ (y : ThreadView). y.reached) ((v clause.absent) r far) in
        absurd (cc (reached, none))

module _ (w : World) (P : List PlainObject) (r : ℕ) (b : Revocation) (l : ThreadView)
    (reached : (w.known r).reached ≡ true) (on : w.biasing ≡ true) (k : HasCounted w r b l) (v : FitsUnseen w P) where
  abbrev c : ℕ
  c = class_by w.shape w.words b.object

  abbrev d : Verdict × ℕ
  d = decided (w.words (Revocations c)) (w.words (LastBulk c)) b.now

  -- the words after the count
  abbrev f : WordId → ℕ
  f = with_word (Revocations c) d.1 w.words

  abbrev x : World
  x = with_words f (with_knowledge r l w)

  counts : d.0 ≡ Single → l.counts ≡ with_verdict_counted (w.known r).counts c Single (is_reset (w.words (Revocations c)) (w.words (LastBulk c)) b.now)
  counts single = k.counts ∙ ap (λ z. with_verdict_counted (w.known r).counts c z (is_reset (w.words (Revocations c)) (w.words (LastBulk c)) b.now)) single

  counted_fits : d.0 ≡ Single → FitsUnseen x P
  counted_fits single =
      count_fits (with_knowledge r l w) P c d.1 on (raised_few (w.words (Revocations c)) (w.words (LastBulk c)) b.now ((v clause.classes).few on c))
      (knows_fits w P r l k.same (reached_within w P r reached v)
      (λ i. ap (λ z. (counts_of z i).rebias) (counts single) ∙ (counted_single (w.known r).counts c _ i).0)
      (λ i. ap (λ z. (counts_of z i).revoke) (counts single) ∙ (counted_single (w.known r).counts c _ i).1) v)

  calm : (single : d.0 ≡ Single) → AllCalm x
  calm single = all_calm x P r (ap (λ (y : ThreadView). y.reached) (with_known_here r l w.known) ∙ sym k.same.reached ∙ reached)
      (ap (λ (y : ThreadView). y.stage) (with_known_here r l w.known) ∙ sym k.same.stage ∙ k.calm) (counted_fits single)

  words : d.0 ≡ Single → words_after (revocation_writes w.shape r b w.words) w.words ≡ words_after (revoke b.object false f) f
  unfolding revocation_writes
  words single = ap (λ z. words_after (in_turn (verdict_rules w.shape (class_by w.shape w.words) r c b z) f) f) single
      ∙ stored_append (revoke b.object false f) [] f

  pub single_fits : d.0 ≡ Single → FitsUnseen (revoked_world w r b l) P
  single_fits single = subst (λ g. FitsUnseen (with_words g x) P) (sym (words single)) (revoke_fits x P b.object (calm single) (counted_fits single))

  -- its object has the bias pattern no more
  pub single_plain : d.0 ≡ Single → is_biased (words_after (revocation_writes w.shape r b w.words) w.words (Mark b.object)) ≡ false
  single_plain single = ap (λ (g : WordId → ℕ). is_biased (g (Mark b.object))) (words single) ∙ revoke_unbiased x P b.object (calm single) (counted_fits single)
