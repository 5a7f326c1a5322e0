-- The sums of what the threads counted, as the law of biases takes them.
use Rattle.std.proofs.Common.{◌≡◌, ℕ, zero, suc, ◌+◌, ◌*◌, ◌<◌, ◌≤◌, List, [], ◌∷◌, length, map, refl, ap, ◌∙◌, arith, inl, inr}
use Rattle.std.proofs.lemmas.List.Sums.{sum_by-cons}
use Rattle.std.proofs.lemmas.Bool.{cases_lt}
use Rattle.plain_monitor.specs.Limits.{most_threads}
use Rattle.core_law.specs.CountsAndVerdicts.{sum_below}
use Rattle.core_world.specs.Threads.Counts as known
use Rattle.core_world.specs.Threads.Counts.{counts_of}
use Rattle.core_world.specs.Threads.ThreadView.{ThreadView}
use Rattle.heap_table.specs.BiasesAtEnd.{counted_by}
use Rattle.heap_table.specs.declared.counts.ClassCounts.{ClassCounts}
use Rattle.heap_table.specs.Tallies.{capped, capped_counts, counts_shown}
use Rattle.heap_table.proofs.Counting.{counts_at}
use Rattle.program_run.proofs.Few.{most_entries}
use Rattle.program_run.specs.Lines.{counts_on, no_counts, total_on}

-- the first number may be added first
pub sum_front : (n : ℕ) (f : ℕ → ℕ) → sum_below (suc n) f ≡ f 0 + sum_below n (λ t. f (suc t))
sum_front zero f = omega arith
sum_front (suc n) f = let others = sum_front n f in omega (arith, others)

pub term_few : (n k : ℕ) (f : ℕ → ℕ) → k < n → f k ≤ sum_below n f
term_few zero k f h = absurd (omega (arith, h))
term_few (suc n) k f h = elim (cases_lt k n) [
  | inl less ↦ let others = term_few n k f less in omega (arith, others)
  | inr more ↦
      let e : n ≡ k = omega (arith, h, more) in
      let same = ap f e in
      omega (arith, same)
]

pub sum_few : (n : ℕ) (f : ℕ → ℕ) → ((t : ℕ) → t < n → f t ≤ most_entries + 1) → sum_below n f ≤ n * (most_entries + 1)
sum_few zero f each = omega arith
sum_few (suc n) f each =
    let others = sum_few n f (λ t h. each t (omega (arith, h))) in
    let last = each n (omega arith) in
    omega (arith, others, last)

pub sum_none : (n : ℕ) (f : ℕ → ℕ) → ((t : ℕ) → f t ≡ 0) → sum_below n f ≡ 0
sum_none zero f each = refl
sum_none (suc n) f each =
    let others = sum_none n f each in
    let last = each n in
    omega (arith, others, last)

pub capped_few : (n : ℕ) → n ≤ most_threads * (most_entries + 1) → capped n ≡ n
capped_few n h = omega (arith, h)

module _ (number : ClassCounts → ℕ) (f : known.ClassCounts → ℕ) (classes k : ℕ) (within : k < classes) where
  -- the total of what is shown is the sum of what was counted, where no number is so great that it is shown as less
  pub total_is : (ks : List ThreadView) → ((t : ℕ) → t < length ks → number (capped_counts (counts_of (counted_by ks t) k)) ≡ f (counts_of (counted_by ks t) k))
      → total_on number (map (λ (x : ThreadView). counts_shown 0 classes x.counts) ks) k ≡ sum_below (length ks) (λ t. f (counts_of (counted_by ks t) k))
  total_is [] same = refl
  total_is (x ∷ ks) same =
      let others = total_is ks (λ t h. same (suc t) (omega (arith, h))) in
      let here = ap number (counts_at 0 classes k k x.counts no_counts within (omega arith)) ∙ same 0 (omega arith) in
      let first = sum_by-cons (λ own. number (counts_on own k)) (counts_shown 0 classes x.counts)
      (map (λ (y : ThreadView). counts_shown 0 classes y.counts) ks) in
      let front = sum_front (length ks) (λ t. f (counts_of (counted_by (x ∷ ks) t) k)) in
      omega (arith, first, others, here, front)
