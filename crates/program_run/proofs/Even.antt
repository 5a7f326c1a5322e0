-- Where a tick has no length, each moment is 1, and no count of a class is set to 0.
use Rattle.std.proofs.Common.{◌≡◌, ℕ, zero, suc, ◌-◌, ◌≤◌, ◌==◌, ◌&&◌, not, nat_le, nat_lt, leb-true, if◌then◌else◌}
use Rattle.std.proofs.Common.{Bool, true, false, List, [], ◌∷◌, refl, ◌∙◌, arith, true≢false}
use Rattle.std.specs.List.{AllByRecursion}
use Rattle.std.proofs.lemmas.Bool.{and_parts}
use Rattle.lock_policy.specs.declared.policy.Verdict.{Verdict}
use Rattle.lock_policy.specs.declared.policy.Verdict.TheVariants.{Single, BulkRebias, BulkRevoke}
use Rattle.lock_policy.specs.Policy.{is_reset, rebias_threshold, revoke_threshold, decay_time}
use Rattle.core_world.specs.Threads.Counts as known
use Rattle.core_world.specs.Threads.Counts.{CountedVerdict, counts_of}
use Rattle.core_world.specs.Threads.ThreadView.{ThreadView}
use Rattle.heap_table.specs.BiasesAtEnd.{counted_by}
use Rattle.run_rounds.specs.Timed.{IsTimed, IsCountedOnTime}

not_true : (b : Bool) → (b ≡ true → ⊥) → b ≡ false
not_true true refuted = absurd (refuted refl)
not_true false refuted = refl

-- 25 seconds have not gone by at the first moment
never_reset : (count last now : ℕ) → now ≤ 1 → is_reset count last now ≡ false
never_reset count last now early = not_true (is_reset count last now) (λ is.
    let gone = and_parts (nat_le rebias_threshold count && nat_lt count revoke_threshold && not (last == 0) && nat_le last now)
    (nat_le decay_time (now - last)) is in
    let long : decay_time ≤ now - last = leb-true decay_time (now - last) gone.1 in
    omega (arith, long, early))

no_reset : (reset : Bool) → IsCountedOnTime 0 reset → reset ≡ false
no_reset reset on = let is = on.moment.is in on.decided.is ∙ never_reset on.decided.count on.decided.last on.now (omega (arith, is))

-- so the verdicts that a thread counted set none to 0
pub none_reset : (vs : List CountedVerdict) (k : ℕ) → AllByRecursion (λ (v : CountedVerdict). IsCountedOnTime 0 v.reset) vs
    → (counts_of vs k).reset ≡ 0
none_reset [] k all = refl
none_reset (v ∷ vs) k all = by_class (k == v.class) (none_reset vs k all.1)
  where
    by_verdict : (verdict : Verdict) (reset : Bool) → reset ≡ false → (counts_of vs k).reset ≡ 0
        → (known.with_reset (known.with_verdict (counts_of vs k) verdict) reset).reset ≡ 0
    by_verdict verdict true is none = absurd (true≢false is)
    by_verdict Single false is none = omega (arith, none)
    by_verdict BulkRebias false is none = omega (arith, none)
    by_verdict BulkRevoke false is none = omega (arith, none)

    by_class : (b : Bool) → (counts_of vs k).reset ≡ 0
        → (if b then known.with_reset (known.with_verdict (counts_of vs k) v.verdict) v.reset else counts_of vs k).reset ≡ 0
    by_class true none = by_verdict v.verdict v.reset (no_reset v.reset all.0) none
    by_class false none = none

pub counted_timed : (ks : List ThreadView) (t : ℕ) → AllByRecursion (IsTimed 0) ks
    → AllByRecursion (λ (v : CountedVerdict). IsCountedOnTime 0 v.reset) (counted_by ks t)
counted_timed [] t all = tt
counted_timed (k ∷ ks) zero all = all.0.counts
counted_timed (k ∷ ks) (suc t) all = counted_timed ks t all.1
