-- The law of biases refuses counts of verdicts that are wrong by one, bulk operations that the count doesn't tell, and a reset that isn't counted.
use Rattle.std.proofs.Common.{◌≡◌, ◌≢◌, ℕ, zero, suc, ◌+◌, ◌<◌, ◌≤◌, ◌==◌, eq-eqb, cond, Bool, true, false, List, refl, sym, ap, ◌∙◌, subst, arith}
use Rattle.std.proofs.lemmas.Bool.Decides.{nat_tests}
use Rattle.lock_policy.specs.declared.policy.Verdict.{Verdict}
use Rattle.lock_policy.specs.declared.policy.Verdict.TheVariants.{Single, BulkRebias, BulkRevoke}
use Rattle.lock_policy.specs.Policy.{decided, is_reset, raised, rebias_threshold, revoke_threshold, most_revocations}
use Rattle.core_world.specs.declared.word_id.WordId.TheVariants.{Revocations, LastBulk}
use Rattle.core_world.specs.Threads.Counts.{ClassCounts, CountedVerdict, counts_of, with_verdict, with_reset, with_verdict_counted}
use Rattle.core_world.specs.Threads.ThreadView.{ThreadView}
use Rattle.core_world.specs.World.{World, with_known, with_word_and_known}
use Rattle.core_world.proofs.KnowledgeParts.{by_equal, with_known_here, with_known_else}
use Rattle.core_law.specs.BiasLaw.{BiasLawHolds, summed}
use Rattle.core_law.specs.CountsAndVerdicts.{ClassFits, sum_below, verdicts_on}
use Rattle.bias_law.specs.Miscounts.{NothingReset, with_counts, with_counts_of}
use Rattle.bias_law.proofs.Paths.{sum_same, sum_more}

-- SUMS
at_least : (n t : ℕ) (f : ℕ → ℕ) → t < n → f t ≤ sum_below n f
at_least zero t f h = absurd (omega (arith, h))
at_least (suc n) t f h = by_equal t n
    (λ e. let a : f t ≡ f n = ap f e in omega (arith, a))
    (λ d. let a = at_least n t f (omega (arith, h, d)) in omega (arith, a))

none_below : (n : ℕ) (f : ℕ → ℕ) → ((t : ℕ) → t < n → f t ≡ 0) → sum_below n f ≡ 0
none_below zero f h = refl
none_below (suc n) f h = let a = none_below n f (λ t l. h t (omega (arith, l))) in let b = h n (omega arith) in omega (arith, a, b)

-- the verdicts that these threads counted on a class, by thread
by_thread : (n c : ℕ) (f : ℕ → ℕ → ClassCounts) → verdicts_on (summed n f c) ≡ sum_below n (λ t. verdicts_on (f t c))
by_thread zero c f = refl
by_thread (suc n) c f = let a = by_thread n c f in omega (arith, a)

-- A VERDICT MORE, with no reset
abbrev one_more : ClassCounts → Verdict → ClassCounts
one_more k v = with_reset (with_verdict k v) false

verdict_more : (k : ClassCounts) (v : Verdict) → verdicts_on (one_more k v) ≡ verdicts_on k + 1
verdict_more k Single = omega arith
verdict_more k BulkRebias = omega arith
verdict_more k BulkRevoke = omega arith

no_reset_more : (k : ClassCounts) (v : Verdict) → (one_more k v).reset ≡ k.reset
no_reset_more k Single = omega arith
no_reset_more k BulkRebias = omega arith
no_reset_more k BulkRevoke = omega arith

-- of the counts f thread t has one verdict more on class c in g
record IsOneMore (n c t : ℕ) (v : Verdict) (f g : ℕ → ℕ → ClassCounts) : Type 0 where
  within : t < n
  mine : g t c ≡ one_more (f t c) v
  theirs : (u : ℕ) → u ≢ t → g u c ≡ f u c

all_more : (n c t : ℕ) (v : Verdict) (f g : ℕ → ℕ → ClassCounts) → IsOneMore n c t v f g → verdicts_on (summed n g c) ≡ verdicts_on (summed n f c) + 1
all_more n c t v f g m =
    by_thread n c g
    ∙ sum_more n t 1 (λ u. verdicts_on (f u c)) (λ u. verdicts_on (g u c)) m.within
    (ap verdicts_on m.mine ∙ verdict_more (f t c) v) (λ u d. ap verdicts_on (m.theirs u d))
    ∙ ap (λ k. k + 1) (sym (by_thread n c f))

resets_same : (n c t : ℕ) (v : Verdict) (f g : ℕ → ℕ → ClassCounts) → IsOneMore n c t v f g → (summed n g c).reset ≡ (summed n f c).reset
resets_same n c t v f g m = sum_same n (λ u. (f u c).reset) (λ u. (g u c).reset) (λ u l. by_equal u t
    (λ e. subst (λ i. (g i c).reset ≡ (f i c).reset) (sym e) (ap (λ (k : ClassCounts). k.reset) m.mine ∙ no_reset_more (f t c) v))
    (λ d. ap (λ (k : ClassCounts). k.reset) (m.theirs u d)))

-- a count that was never reset is that of the verdicts, below the greatest
as_many : (count : ℕ) (k : ClassCounts) → ClassFits count k → k.reset ≡ 0 → count < most_revocations → count ≡ verdicts_on k
as_many count k h none low = let even = h.even none in grind (arith, nat_tests)

not_both : (n c t count : ℕ) (v : Verdict) (f g : ℕ → ℕ → ClassCounts) → IsOneMore n c t v f g → (summed n f c).reset ≡ 0 → count < most_revocations
    → ClassFits count (summed n f c) → ClassFits count (summed n g c) → ⊥
not_both n c t count v f g m none low a b =
    let x = as_many count (summed n f c) a none low in
    let y = as_many count (summed n g c) b (resets_same n c t v f g m ∙ none) low in
    let more = all_more n c t v f g m in
    absurd (omega (arith, x, y, more))

-- a count that fell to 1 was reset
fell : (n c t count : ℕ) (v : Verdict) (f g : ℕ → ℕ → ClassCounts) → IsOneMore n c t v f g → (summed n f c).reset ≡ 0 → rebias_threshold ≤ count
    → ClassFits count (summed n f c) → ClassFits 1 (summed n g c) → ⊥
fell n c t count v f g m none high a b =
    let few = a.few in
    let y = as_many 1 (summed n g c) b (resets_same n c t v f g m ∙ none) (omega arith) in
    let more = all_more n c t v f g m in
    absurd (omega (arith, few, high, y, more))

-- BULK OPERATIONS
rebias_due : (count : ℕ) (k : ClassCounts) → ClassFits count k → k.reset ≡ 0 → count < rebias_threshold → k.rebias ≡ 0
rebias_due count k h none low = let even = h.even none in let once = h.rebias_once none in grind (arith, nat_tests)

revoke_due : (count : ℕ) (k : ClassCounts) → ClassFits count k → count < revoke_threshold → k.revoke ≡ 0
revoke_due count k h low = let revoked = h.revoked in grind (arith, nat_tests)

revoke_done : (count : ℕ) (k : ClassCounts) → ClassFits count k → revoke_threshold ≤ count → k.revoke ≡ 1
revoke_done count k h high = let revoked = h.revoked in grind (arith, nat_tests)

module _ (w : World) (c : ℕ) where
  abbrev counts : ℕ → ℕ → ClassCounts
  counts t = counts_of (w.known t).counts

  pub no_early_rebias : (t : ℕ) → t < w.shape.threads → NothingReset w c
      → w.words (Revocations c) < rebias_threshold → 1 ≤ (counts t c).rebias → BiasLawHolds w → ⊥
  no_early_rebias t within none low some law =
      let a = rebias_due (w.words (Revocations c)) (summed w.shape.threads counts c) (law.count_fits c) none low in
      let b = at_least w.shape.threads t (λ u. (counts u c).rebias) within in
      absurd (omega (arith, a, b, some))

  pub no_missing_rebias : rebias_threshold ≤ w.words (Revocations c) → ((t : ℕ) → t < w.shape.threads → (counts t c).rebias ≡ 0) → BiasLawHolds w → ⊥
  no_missing_rebias high nobody law =
      let a = (law.count_fits c).rebiased high in
      let b = none_below w.shape.threads (λ u. (counts u c).rebias) nobody in
      absurd (omega (arith, a, b))

  pub no_early_revoke : (t : ℕ) → t < w.shape.threads → w.words (Revocations c) < revoke_threshold → 1 ≤ (counts t c).revoke → BiasLawHolds w → ⊥
  no_early_revoke t within low some law =
      let a = revoke_due (w.words (Revocations c)) (summed w.shape.threads counts c) (law.count_fits c) low in
      let b = at_least w.shape.threads t (λ u. (counts u c).revoke) within in
      absurd (omega (arith, a, b, some))

  pub no_missing_revoke : revoke_threshold ≤ w.words (Revocations c) → ((t : ℕ) → t < w.shape.threads → (counts t c).revoke ≡ 0) → BiasLawHolds w → ⊥
  no_missing_revoke high nobody law =
      let a = revoke_done (w.words (Revocations c)) (summed w.shape.threads counts c) (law.count_fits c) high in
      let b = none_below w.shape.threads (λ u. (counts u c).revoke) nobody in
      absurd (omega (arith, a, b))

-- VERDICTS AND RESETS
-- the counts of a class after one verdict more on it
counted : (cs : List CountedVerdict) (c : ℕ) (v : Verdict) → counts_of (with_verdict_counted cs c v false) c ≡ one_more (counts_of cs c) v
counted cs c v = ap (λ (b : Bool). cond b (one_more (counts_of cs c) v) (counts_of cs c)) (eq-eqb c c refl)

module _ (w : World) (t c : ℕ) (within : t < w.shape.threads) (cs : List CountedVerdict) where
  -- what thread t knows, but that it has counted these
  abbrev k : ThreadView
  k = with_counts cs (w.known t)

  abbrev old : ℕ → ℕ → ClassCounts
  old u = counts_of (w.known u).counts

  abbrev new : ℕ → ℕ → ClassCounts
  new u = counts_of (with_known t k w.known u).counts

  new_here : new t c ≡ counts_of cs c
  new_here = ap (λ (l : ThreadView). counts_of l.counts c) (with_known_here t k w.known)

  new_else : (u : ℕ) → u ≢ t → new u c ≡ old u c
  new_else u d = ap (λ (l : ThreadView). counts_of l.counts c) (with_known_else t k w.known u d)

  -- where these are one verdict more, and where they are one less
  more : (v : Verdict) → cs ≡ with_verdict_counted (w.known t).counts c v false → IsOneMore w.shape.threads c t v old new
  more v e = record {
    within = within;
    mine = new_here ∙ ap (λ (l : List CountedVerdict). counts_of l c) e ∙ counted (w.known t).counts c v;
    theirs = new_else;
  }

  less : (v : Verdict) → (w.known t).counts ≡ with_verdict_counted cs c v false → IsOneMore w.shape.threads c t v new old
  less v e = record {
    within = within;
    mine = ap (λ (l : List CountedVerdict). counts_of l c) e ∙ counted cs c v ∙ ap (λ (h : ClassCounts). one_more h v) (sym new_here);
    theirs = λ u d. sym (new_else u d);
  }

  pub never_counted : (v : Verdict) → NothingReset w c → w.words (Revocations c) < most_revocations → (w.known t).counts ≡ with_verdict_counted cs c v false
      → BiasLawHolds w → BiasLawHolds (with_counts_of t cs w) → ⊥
  never_counted v none low e a b =
      let m = less v e in
      let none_else = sym (resets_same w.shape.threads c t v new old m) ∙ none in
      not_both w.shape.threads c t (w.words (Revocations c)) v new old m none_else low (b.count_fits c) (a.count_fits c)

pub not_twice : (w : World) (t c : ℕ) (v : Verdict) → t < w.shape.threads → NothingReset w c → w.words (Revocations c) < most_revocations
    → BiasLawHolds w → BiasLawHolds (with_counts_of t (with_verdict_counted (w.known t).counts c v false) w) → ⊥
not_twice w t c v within none low a b =
    let cs = with_verdict_counted (w.known t).counts c v false in
    not_both w.shape.threads c t (w.words (Revocations c)) v _ _ (more w t c within cs v refl) none low (a.count_fits c) (b.count_fits c)

-- the count that a reset leaves
reset_to_1 : (count last now : ℕ) → is_reset count last now ≡ true → (decided count last now).1 ≡ 1
reset_to_1 count last now e = ap (λ (b : Bool). raised (cond b 0 count)) e

reset_above : (count last now : ℕ) → is_reset count last now ≡ true → rebias_threshold ≤ count
reset_above count last now e = grind (arith, nat_tests)

pub no_uncounted_reset : (w : World) (t c now : ℕ) → t < w.shape.threads → NothingReset w c
    → is_reset (w.words (Revocations c)) (w.words (LastBulk c)) now ≡ true → BiasLawHolds w
    → BiasLawHolds (with_word_and_known (Revocations c) (decided (w.words (Revocations c)) (w.words (LastBulk c)) now).1
    t (with_counts (with_verdict_counted (w.known t).counts c (decided (w.words (Revocations c)) (w.words (LastBulk c)) now).0 false) (w.known t)) w) → ⊥
no_uncounted_reset w t c now within none e a b =
    let count = w.words (Revocations c) in
    let last = w.words (LastBulk c) in
    let d = decided count last now in
    let cs = with_verdict_counted (w.known t).counts c d.0 false in
    let is : cond (c == c) d.1 count ≡ 1 = ap (λ (q : Bool). cond q d.1 count) (eq-eqb c c refl) ∙ reset_to_1 count last now e in
    fell w.shape.threads c t count d.0 _ _ (more w t c within cs d.0 refl) none (reset_above count last now e) (a.count_fits c)
    (subst (λ m. ClassFits m (summed w.shape.threads (new w t c within cs) c)) is (b.count_fits c))
