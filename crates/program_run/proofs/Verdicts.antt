-- How many verdicts the lines of a record tell, against the entries that were logged.
use Rattle.std.proofs.Common.{◌≡◌, ℕ, zero, suc, ◌+◌, ◌*◌, ◌<◌, ◌≤◌, Bool, true, false, if◌then◌else◌}
use Rattle.std.proofs.Common.{List, [], ◌∷◌, length, drop, map, Some, refl, ap, ◌∙◌, subst, arith}
use Rattle.std.specs.Prelude.{nat_le, slice_get, slice_index_or}
use Rattle.std.specs.List.{AllByRecursion, sum_by}
use Rattle.std.proofs.lemmas.Bool.Decides.{nat_tests}
use Rattle.std.proofs.lemmas.List.Sums.{sum_by-cons}
use Rattle.lock_policy.specs.Policy.{rebias_threshold, revoke_threshold}
use Rattle.core_law.specs.CountsAndVerdicts.{sum_below, verdicts_on}
use Rattle.core_world.specs.Threads.Counts.{CountedVerdict, counts_of}
use Rattle.core_world.specs.Threads.ThreadView.{ThreadView}
use Rattle.core_world.specs.Threads.Stages.{one_if}
use Rattle.heap_table.specs.BiasesAtEnd.{counted_by}
use Rattle.heap_table.specs.declared.counts.ClassCounts.{ClassCounts}
use Rattle.heap_table.specs.Seen.{ClosedSeen}
use Rattle.heap_table.specs.Tallies.{capped_counts, counts_shown}
use Rattle.lock_journal.specs.declared.record.ClassLine.{ClassLine}
use Rattle.lock_journal.specs.declared.record.RunRecord.{RunRecord}
use Rattle.plain_monitor.specs.declared.entry.Logged.{Logged}
use Rattle.plain_monitor.specs.History.{log_of}
use Rattle.run_rounds.specs.Outcome.{verdicts_beyond}
use Rattle.program_run.specs.Biases as biases
use Rattle.program_run.specs.Biases.{RecordObeysBiasLaw}
use Rattle.program_run.specs.Lines.{counts_on, total_on}
use Rattle.program_run.specs.Verdicts.{IsSum, entries_in, most_verdicts, verdicts_by}
use Rattle.program_run.proofs.Counted.{sum_front}

-- WHAT A THREAD SHOWS
abbrev number_of : ClassCounts → ℕ
number_of n = n.single + n.rebias + n.revoke

pub shown_by : (classes : ℕ) (ks : List ThreadView) (t : ℕ) → t < length ks
    → slice_index_or (map (λ (x : ThreadView). counts_shown 0 classes x.counts) ks) t [] ≡ counts_shown 0 classes (counted_by ks t)
shown_by classes [] t here = absurd (omega (arith, here))
shown_by classes (k ∷ ks) zero here = refl
shown_by classes (k ∷ ks) (suc t) here = shown_by classes ks t (omega (arith, here))

-- the counts of the classes from c on show no more than f, which has each of them
shown_below : (c n : ℕ) (vs : List CountedVerdict) (f : ℕ → ℕ) → ((d : ℕ) → verdicts_on (counts_of vs (c + d)) ≤ f d)
    → verdicts_by (counts_shown c n vs) ≤ sum_below n f
shown_below c zero vs f each = omega arith
shown_below c (suc n) vs f each =
    let first = sum_by-cons number_of (capped_counts (counts_of vs c)) (counts_shown (suc c) n vs) in
    let front = sum_front n f in
    let here : verdicts_on (counts_of vs c) ≤ f 0 =
    subst (λ (k : ℕ). verdicts_on (counts_of vs k) ≤ f 0) (omega arith) (each 0) in
    let rest = shown_below (suc c) n vs (λ d. f (suc d))
    (λ d. subst (λ (k : ℕ). verdicts_on (counts_of vs k) ≤ f (suc d)) (omega arith) (each (suc d))) in
    omega (arith, first, front, here, rest)

le_self : (n : ℕ) → n ≤ n
le_self n = omega arith

pub shown_few : (classes : ℕ) (vs : List CountedVerdict)
    → verdicts_by (counts_shown 0 classes vs) ≤ sum_below classes (λ k. verdicts_on (counts_of vs k))
shown_few classes vs =
    shown_below 0 classes vs (λ k. verdicts_on (counts_of vs k))
    (λ d. subst (λ (k : ℕ). verdicts_on (counts_of vs k) ≤ verdicts_on (counts_of vs d)) (omega arith) (le_self (verdicts_on (counts_of vs d))))

-- THE LINES OF CLASSES
-- the verdicts that a thread counted on class i and on those after it
own_split : (own : List ClassCounts) (i : ℕ) → number_of (counts_on own i) + verdicts_by (drop (suc i) own) ≡ verdicts_by (drop i own)
own_split [] zero = refl
own_split [] (suc i) = refl
own_split (n ∷ own) zero = let first = sum_by-cons number_of n own in omega (arith, first)
own_split (n ∷ own) (suc i) = own_split own i

abbrev counted_from : ℕ → List (List ClassCounts) → ℕ
counted_from i counts = sum_by (λ own. verdicts_by (drop i own)) counts

all_split : (counts : List (List ClassCounts)) (i : ℕ)
    → total_on (λ n. n.single) counts i + total_on (λ n. n.rebias) counts i + total_on (λ n. n.revoke) counts i
    + counted_from (suc i) counts ≡ counted_from i counts
all_split [] i = refl
all_split (own ∷ counts) i =
    let single = sum_by-cons (λ (x : List ClassCounts). (counts_on x i).single) own counts in
    let rebias = sum_by-cons (λ (x : List ClassCounts). (counts_on x i).rebias) own counts in
    let revoke = sum_by-cons (λ (x : List ClassCounts). (counts_on x i).revoke) own counts in
    let later = sum_by-cons (λ (x : List ClassCounts). verdicts_by (drop (suc i) x)) own counts in
    let from = sum_by-cons (λ (x : List ClassCounts). verdicts_by (drop i x)) own counts in
    let here = own_split own i in
    let others = all_split counts i in
    omega (arith, single, rebias, revoke, later, from, here, others)

-- the lines from class i on are sums
abbrev AreSums : List (List ClassCounts) → ℕ → List ClassLine → Type 0
AreSums counts i lines = (k : ℕ) (line : ClassLine) → slice_get lines k ≡ Some line → IsSum counts (i + k) line

lines_few : (counts : List (List ClassCounts)) (i : ℕ) (lines : List ClassLine) → AreSums counts i lines
    → sum_by biases.verdicts_on lines ≤ counted_from i counts
lines_few counts i [] sums = omega arith
lines_few counts i (line ∷ lines) sums =
    let first = sum_by-cons biases.verdicts_on line lines in
    let is : IsSum counts i line = subst (λ (k : ℕ). IsSum counts k line) (omega arith) (sums 0 line refl) in
    let split = all_split counts i in
    let rest = lines_few counts (suc i) lines
    (λ k l e. subst (λ (n : ℕ). IsSum counts n l) (omega arith) (sums (suc k) l e)) in
    omega (arith, first, is.single, is.rebias, is.revoke, split, rest)

-- THE ENTRIES
-- each thread counted at most so many verdicts beyond its entries
abbrev AreFew : ℕ → List (List ClassCounts) → List (List Logged) → Type 0
AreFew more counts logs = (t : ℕ) → verdicts_by (slice_index_or counts t []) ≤ length (log_of logs t) + more

threads_few : (halted : Bool) (counts : List (List ClassCounts)) (logs : List (List Logged)) → length counts ≡ length logs
    → AreFew (verdicts_beyond halted) counts logs → counted_from 0 counts ≤ entries_in logs + (if halted then length logs else 0)
threads_few true [] logs same each = omega arith
threads_few false [] logs same each = omega arith
threads_few halted (own ∷ counts) [] same each = absurd (omega (arith, same))
threads_few true (own ∷ counts) (log ∷ logs) same each =
    let first = sum_by-cons verdicts_by own counts in
    let entries = sum_by-cons (λ (x : List Logged). length x) log logs in
    let here = each 0 in
    let rest = threads_few true counts logs (omega (arith, same)) (λ t. each (suc t)) in
    omega (arith, first, entries, here, rest)
threads_few false (own ∷ counts) (log ∷ logs) same each =
    let first = sum_by-cons verdicts_by own counts in
    let entries = sum_by-cons (λ (x : List Logged). length x) log logs in
    let here = each 0 in
    let rest = threads_few false counts logs (omega (arith, same)) (λ t. each (suc t)) in
    omega (arith, first, entries, here, rest)

-- BULK OPERATIONS
abbrev operations_on : ClassLine → ℕ
operations_on line = line.rebias + line.revoke

bulk_few : (lines : List ClassLine)
    → ((k : ℕ) (line : ClassLine) → slice_get lines k ≡ Some line → rebias_threshold * operations_on line ≤ biases.verdicts_on line)
    → rebias_threshold * sum_by operations_on lines ≤ sum_by biases.verdicts_on lines
bulk_few [] each = omega arith
bulk_few (line ∷ lines) each =
    let verdicts = sum_by-cons biases.verdicts_on line lines in
    let operations = sum_by-cons operations_on line lines in
    let here = each 0 line refl in
    let rest = bulk_few lines (λ k l e. each (suc k) l e) in
    omega (arith, verdicts, operations, here, rest)

-- the count of a class with few verdicts
record IsLow (line : ClassLine) : Type 0 where
  few : line.count ≤ biases.verdicts_on line
  revoked : line.revoke ≡ one_if (nat_le revoke_threshold line.count)

none_revoked : (lines : List ClassLine) → ((k : ℕ) (line : ClassLine) → slice_get lines k ≡ Some line → IsLow line)
    → sum_by biases.verdicts_on lines < revoke_threshold → AllByRecursion (λ (line : ClassLine). line.revoke ≡ 0) lines
none_revoked [] each low = tt
none_revoked (line ∷ lines) each low =
    let verdicts = sum_by-cons biases.verdicts_on line lines in
    let here = each 0 line refl in
    let below : nat_le revoke_threshold line.count ≡ false = grind (arith, nat_tests, here.few, verdicts, low) in
    (here.revoked ∙ ap one_if below, none_revoked lines (λ k l e. each (suc k) l e) (omega (arith, verdicts, low)))

-- RECORDS
module _ {tick : ℕ} (r : RunRecord) (c : ClosedSeen) (has : RecordObeysBiasLaw tick r c) where
  pub all_few : sum_by biases.verdicts_on r.classes ≤ most_verdicts r
  all_few =
      let lines = lines_few c.counts 0 r.classes
      (λ k line e. subst (λ (n : ℕ). IsSum c.counts n line) (omega arith) (has.sums k line e)) in
      let threads = threads_few r.halted c.counts r.logs has.counted has.verdicts in
      omega (arith, lines, threads)

  pub operations_few : rebias_threshold * sum_by operations_on r.classes ≤ most_verdicts r
  operations_few =
      let all = all_few in
      let bulk = bulk_few r.classes (λ k line e. let spent = (has.counts k line e).spent in omega (arith, spent)) in
      omega (arith, all, bulk)

  pub revoked_late : most_verdicts r < revoke_threshold → AllByRecursion (λ (line : ClassLine). line.revoke ≡ 0) r.classes
  revoked_late low =
      let all = all_few in
      none_revoked r.classes
      (λ k line e. let fits = has.counts k line e in record { few = fits.few; revoked = fits.revoked })
      (omega (arith, all, low))
