-- The law of biases, by the record of a run.
use Rattle.std.proofs.Common.{◌≡◌, ℕ, zero, suc, ◌+◌, ◌*◌, ◌%◌, ◌<◌, ◌≤◌, ◌==◌, if◌then◌else◌}
use Rattle.std.proofs.Common.{Bool, true, false, List, [], ◌∷◌, length, refl, sym, ap, ◌∙◌, subst, arith, inl, inr}
use Rattle.std.specs.Prelude.{◌^◌, slice_index, slice_index_or}
use Rattle.std.specs.List.{AllByRecursion}
use Rattle.std.proofs.lemmas.Bool.{cases_lt}
use Rattle.std.proofs.lemmas.List.{get_or_past, length-map}
use Rattle.plain_history.specs.EnterPaths.{PathsFit}
use Rattle.plain_history.specs.HeldByLog.{nothing_held}
use Rattle.plain_monitor.specs.Limits.{most_threads}
use Rattle.plain_monitor.specs.History.{log_of}
use Rattle.plain_monitor.proofs.Lists.{all_push}
use Rattle.lock_policy.specs.declared.policy.Verdict.{Verdict}
use Rattle.lock_policy.specs.declared.policy.Verdict.TheVariants.{Single, BulkRebias, BulkRevoke}
use Rattle.core_law.specs.BiasLaw.{summed}
use Rattle.core_law.specs.CountsAndVerdicts.{CountFits, sum_below, verdicts_on}
use Rattle.core_world.specs.declared.word_id.WordId.TheVariants.{Prototype, Revocations}
use Rattle.core_world.specs.Clauses.Classes.{bulk_rebiases, bulk_revokes}
use Rattle.core_world.specs.Threads.Counts as known
use Rattle.core_world.specs.Threads.Counts.{CountedVerdict, counts_of}
use Rattle.core_world.specs.Threads.ThreadView.{ThreadView}
use Rattle.core_world.specs.Words.Shape.{Shape}
use Rattle.core_law.specs.Logic.{Heap}
use Rattle.heap_table.specs.BiasesAtEnd.{counted_by}
use Rattle.heap_table.specs.declared.counts.ClassCounts.{ClassCounts}
use Rattle.heap_table.specs.Layout.{place_of}
use Rattle.heap_table.specs.Seen.{ClosedSeen}
use Rattle.heap_table.specs.Tallies.{capped, capped_counts, counts_shown}
use Rattle.lock_journal.specs.declared.record.ClassLine.{ClassLine}
use Rattle.closed_heap_laws.specs.OfARun.{IsEnd}
use Rattle.closed_heap_laws.specs.Prototypes as ends
use Rattle.run_rounds.specs.Outcome.{HeapObeysBiasLaw as LeftBiases, verdicts_beyond, was_halted}
use Rattle.run_rounds.specs.Timed.{IsTimed}
use Rattle.program_run.proofs.Few.{most_entries}
use Rattle.program_run.specs.Biases.{IsEven, IsIdle, IsLine, prototype_by}
use Rattle.program_run.specs.Lines.{line_of, lines_below, total_on}
use Rattle.program_run.specs.Verdicts.{IsSum, verdicts_by}
use Rattle.program_run.proofs.Counted.{capped_few, sum_few, sum_none, term_few, total_is}
use Rattle.program_run.proofs.Even.{none_reset, counted_timed}
use Rattle.program_run.proofs.Verdicts.{shown_by, shown_few}

-- the laws that are asked of a heap's end
abbrev pub Biased : Type 0
Biased = (heap : Heap) (words : List ℕ) (ks : List ThreadView) (c : ℕ) → IsEnd heap words ks → c < heap.shape.classes → heap.biasing ≡ true
    → slice_index words (place_of heap.shape (Prototype c)) ≡ ends.prototype_by heap.shape.threads (counted_by ks) c

abbrev pub Plain : Type 0
Plain = (heap : Heap) (words : List ℕ) (ks : List ThreadView) (c : ℕ) → IsEnd heap words ks → c < heap.shape.classes → heap.biasing ≡ false
    → slice_index words (place_of heap.shape (Prototype c)) ≡ 1

-- the bulk verdicts of the threads are sums
revokes_are : (n : ℕ) (counted : ℕ → List CountedVerdict) (k : ℕ)
    → bulk_revokes n counted k ≡ sum_below n (λ t. (counts_of (counted t) k).revoke)
revokes_are zero counted k = refl
revokes_are (suc n) counted k = ap (λ m. m + (counts_of (counted n) k).revoke) (revokes_are n counted k)

rebiases_are : (n : ℕ) (counted : ℕ → List CountedVerdict) (k : ℕ)
    → bulk_rebiases n counted k ≡ sum_below n (λ t. (counts_of (counted t) k).rebias)
rebiases_are zero counted k = refl
rebiases_are (suc n) counted k = ap (λ m. m + (counts_of (counted n) k).rebias) (rebiases_are n counted k)

abbrev one_more : known.ClassCounts → Verdict → Bool → known.ClassCounts
one_more counts verdict reset = known.with_reset (known.with_verdict counts verdict) reset

-- a count is set to 0 at most once for each verdict
resets_few : (vs : List CountedVerdict) (k : ℕ) → (counts_of vs k).reset ≤ verdicts_on (counts_of vs k)
resets_few [] k = omega arith
resets_few (v ∷ vs) k = by_class (k == v.class) (resets_few vs k)
  where
    by_verdict : (verdict : Verdict) (reset : Bool) → (counts_of vs k).reset ≤ verdicts_on (counts_of vs k)
        → (one_more (counts_of vs k) verdict reset).reset ≤ verdicts_on (one_more (counts_of vs k) verdict reset)
    by_verdict Single true h = omega (arith, h)
    by_verdict Single false h = omega (arith, h)
    by_verdict BulkRebias true h = omega (arith, h)
    by_verdict BulkRebias false h = omega (arith, h)
    by_verdict BulkRevoke true h = omega (arith, h)
    by_verdict BulkRevoke false h = omega (arith, h)

    by_class : (b : Bool) → (counts_of vs k).reset ≤ verdicts_on (counts_of vs k)
        → (if b then one_more (counts_of vs k) v.verdict v.reset else counts_of vs k).reset
        ≤ verdicts_on (if b then one_more (counts_of vs k) v.verdict v.reset else counts_of vs k)
    by_class true h = by_verdict v.verdict v.reset h
    by_class false h = h

beyond_few : (halted : Bool) → verdicts_beyond halted ≤ 1
beyond_few true = omega arith
beyond_few false = omega arith

module _ {tick : ℕ} (heap : Heap) (c : ClosedSeen) (left : LeftBiases heap tick c) (same : c.heap ≡ heap)
    (many : heap.shape.threads ≤ most_threads) (short : (t : ℕ) → length (log_of c.logs t) ≤ most_entries) where
  abbrev counts : ℕ → ℕ → known.ClassCounts
  counts t k = counts_of (counted_by left.knowns t) k

  abbrev sums : ℕ → known.ClassCounts
  sums k = summed heap.shape.threads (λ t. counts_of (counted_by left.knowns t)) k

  -- no thread has counted many verdicts on a class
  verdicts_few : (t k : ℕ) → t < heap.shape.threads → k < heap.shape.classes → verdicts_on (counts t k) ≤ most_entries + 1
  verdicts_few t k here within =
      let all = left.biases.verdicts t here in
      let one = term_few heap.shape.classes k (λ d. verdicts_on (counts t d)) within in
      let log = short t in
      let beyond = beyond_few (was_halted c) in
      omega (arith, all, one, log, beyond)

  module _ (k : ℕ) (within : k < heap.shape.classes) (number : ClassCounts → ℕ) (f : known.ClassCounts → ℕ)
      (shown : (x : known.ClassCounts) → f x ≤ verdicts_on x → verdicts_on x ≤ most_entries + 1 → number (capped_counts x) ≡ f x)
      (few : (t : ℕ) → f (counts t k) ≤ verdicts_on (counts t k)) where
    -- a total of what the heap shows is what its threads counted
    total_here : total_on number c.counts k ≡ sum_below heap.shape.threads (λ t. f (counts t k))
    total_here =
        ap (λ x. total_on number x k) left.counts
        ∙ total_is number f heap.shape.classes k within left.knowns
        (λ t h. let all = left.end.all in shown (counts t k) (few t) (verdicts_few t k (omega (arith, h, all)) within))
        ∙ ap (λ n. sum_below n (λ t. f (counts t k))) left.end.all

    total_capped : capped (total_on number c.counts k) ≡ sum_below heap.shape.threads (λ t. f (counts t k))
    total_capped =
        let total = total_here in
        let low = sum_few heap.shape.threads (λ t. f (counts t k))
        (λ t h. let one = few t in let verdicts = verdicts_few t k h within in omega (arith, one, verdicts)) in
        capped_few (total_on number c.counts k) (omega (arith, total, low, many)) ∙ total

    uncapped : capped (total_on number c.counts k) ≡ total_on number c.counts k
    uncapped = total_capped ∙ sym total_here

  module _ (k : ℕ) (within : k < heap.shape.classes) where
    single_is : (line_of c k).single ≡ (sums k).single
    single_is = total_capped k within (λ n. n.single) (λ x. x.single) (λ x h g. omega (arith, h, g)) (λ t. omega arith)

    pub rebias_is : (line_of c k).rebias ≡ (sums k).rebias
    rebias_is = total_capped k within (λ n. n.rebias) (λ x. x.rebias) (λ x h g. omega (arith, h, g)) (λ t. omega arith)

    pub revoke_is : (line_of c k).revoke ≡ (sums k).revoke
    revoke_is = total_capped k within (λ n. n.revoke) (λ x. x.revoke) (λ x h g. omega (arith, h, g)) (λ t. omega arith)

    reset_is : total_on (λ n. n.reset) c.counts k ≡ (sums k).reset
    reset_is = total_here k within (λ n. n.reset) (λ x. x.reset) (λ x h g. omega (arith, h, g))
        (λ t. resets_few (counted_by left.knowns t) k)

    pub sums_are : IsSum c.counts k (line_of c k)
    sums_are =
        record {
          single = uncapped k within (λ n. n.single) (λ x. x.single) (λ x h g. omega (arith, h, g)) (λ t. omega arith);
          rebias = uncapped k within (λ n. n.rebias) (λ x. x.rebias) (λ x h g. omega (arith, h, g)) (λ t. omega arith);
          revoke = uncapped k within (λ n. n.revoke) (λ x. x.revoke) (λ x h g. omega (arith, h, g)) (λ t. omega arith);
        }

    count_is : (line_of c k).count ≡ left.biases.count k
    count_is =
        ap (λ (s : Shape). slice_index c.words (place_of s (Revocations k))) (λ i. (same i).shape)
        ∙ left.biases.words_are k within

    prototype_word : (line_of c k).prototype ≡ slice_index c.words (place_of heap.shape (Prototype k))
    prototype_word = ap (λ (s : Shape). slice_index c.words (place_of s (Prototype k))) (λ i. (same i).shape)

    pub fits : IsLine (total_on (λ n. n.reset) c.counts k) (line_of c k)
    fits =
        let count_now = count_is in
        let single_now = single_is in
        let rebias_now = rebias_is in
        let revoke_now = revoke_is in
        let reset_now = reset_is in
        subst (λ (x : ℕ × ℕ × ℕ × ℕ × ℕ). CountFits x.0 x.1 x.2 x.3 x.4)
        (λ i. (sym count_now i, sym single_now i, sym rebias_now i, sym revoke_now i, sym reset_now i))
        (left.biases.biases.counts k)

    pub even : tick ≡ 0 → IsEven (line_of c k)
    even still =
        let timed = subst (λ n. AllByRecursion (IsTimed n) left.knowns) still left.timed in
        let none : total_on (λ n. n.reset) c.counts k ≡ 0 =
        reset_is ∙ sum_none heap.shape.threads (λ t. (counts t k).reset)
        (λ t. none_reset (counted_by left.knowns t) k (counted_timed left.knowns t timed)) in
        record { count = fits.even none; rebias = fits.rebias_once none; revoke = fits.revoke_once none }

    idle : heap.biasing ≡ false → IsIdle (line_of c k)
    idle none =
        let nothing = left.biases.biases.uncounted none in
        let single = single_is ∙ sum_none heap.shape.threads (λ t. (counts t k).single) (λ t. let z = nothing t k in omega (arith, z)) in
        let rebias = rebias_is ∙ sum_none heap.shape.threads (λ t. (counts t k).rebias) (λ t. let z = nothing t k in omega (arith, z)) in
        let revoke = revoke_is ∙ sum_none heap.shape.threads (λ t. (counts t k).revoke) (λ t. let z = nothing t k in omega (arith, z)) in
        (single, rebias, revoke, omega (arith, fits.few, single, rebias, revoke))

  -- what holds of the line of each class holds of all of them
  pub all_lines : (P : ClassLine → Type 0) → ((k : ℕ) → k < heap.shape.classes → P (line_of c k))
      → (n : ℕ) → n ≤ heap.shape.classes → AllByRecursion P (lines_below c n)
  all_lines P each zero h = tt
  all_lines P each (suc n) h =
      all_push P (lines_below c n) (line_of c n) (all_lines P each n (omega (arith, h))) (each n (omega (arith, h)))

  module _ (biased : Biased) (plain : Plain) (k : ℕ) (within : k < heap.shape.classes) where
    pub prototype_is : (b : Bool) → heap.biasing ≡ b → (line_of c k).prototype ≡ prototype_by b (line_of c k)
    prototype_is true e =
        let revoke : bulk_revokes heap.shape.threads (counted_by left.knowns) k ≡ (line_of c k).revoke =
        revokes_are heap.shape.threads (counted_by left.knowns) k ∙ sym (revoke_is k within) in
        let rebias : bulk_rebiases heap.shape.threads (counted_by left.knowns) k ≡ (line_of c k).rebias =
        rebiases_are heap.shape.threads (counted_by left.knowns) k ∙ sym (rebias_is k within) in
        prototype_word k within ∙ biased heap c.words left.knowns k left.end within e
        ∙ (λ i. if revoke i == 0 then rebias i % 4 * 256 + 5 else 1)
    prototype_is false e = prototype_word k within ∙ plain heap c.words left.knowns k left.end within e

  pub all_idle : heap.biasing ≡ false → (n : ℕ) → n ≤ heap.shape.classes → AllByRecursion IsIdle (lines_below c n)
  all_idle none = all_lines IsIdle (λ k within. idle k within none)

  pub log_fits : (t : ℕ) → heap.shape.threads ≡ length c.logs → PathsFit nothing_held (log_of c.logs t)
  log_fits t count = elim (cases_lt t heap.shape.threads) [
    | inl here ↦ left.biases.biases.paths t here
    | inr past ↦ subst (PathsFit nothing_held) (sym (get_or_past c.logs t [] (omega (arith, past, count)))) tt
  ]

  pub counted_all : length c.counts ≡ heap.shape.threads
  counted_all =
      ap length left.counts
      ∙ length-map left.knowns (λ (k : ThreadView). counts_shown 0 heap.shape.classes k.counts)
      ∙ left.end.all

  -- what a thread shows to have counted is no more than it counted
  pub verdicts_within : (t : ℕ) → verdicts_by (slice_index_or c.counts t []) ≤ length (log_of c.logs t) + verdicts_beyond (was_halted c)
  verdicts_within t = elim (cases_lt t heap.shape.threads) [
    | inl here ↦
        let counted = counted_by left.knowns t in
        let shown : slice_index_or c.counts t [] ≡ counts_shown 0 heap.shape.classes counted =
        ap (λ (x : List (List ClassCounts)). slice_index_or x t []) left.counts
        ∙ shown_by heap.shape.classes left.knowns t (omega (arith, here, left.end.all)) in
        let same = ap verdicts_by shown in
        let few = shown_few heap.shape.classes counted in
        let most = left.biases.verdicts t here in
        omega (arith, same, few, most)
    | inr past ↦
        let many = counted_all in
        let same = ap verdicts_by (get_or_past c.counts t [] (omega (arith, past, many))) in
        omega (arith, same)
  ]

-- each count of revocations is small
pub small_here : {tick : ℕ} (heap : Heap) (c : ClosedSeen) → LeftBiases heap tick c → c.heap ≡ heap → (k : ℕ) → k < c.heap.shape.classes
    → slice_index c.words (place_of c.heap.shape (Revocations k)) < 2 ^ 32
small_here {tick} heap c left same k within =
    let here : k < heap.shape.classes = subst (λ (h : Heap). k < h.shape.classes) same within in
    let at : slice_index c.words (place_of c.heap.shape (Revocations k)) ≡ left.biases.count k =
    ap (λ (h : Heap). slice_index c.words (place_of h.shape (Revocations k))) same ∙ left.biases.words_are k here in
    let few = (left.biases.biases.counts k).capped in
    omega (arith, at, few)
