-- What happened to the biases of each class, by what a heap has at its end.
use Rattle.std.specs.Prelude.{ℕ, zero, suc, List, [], ◌∷◌, ◌++◌, slice_index, slice_index_or}
use Rattle.std.specs.List.{sum_by}
use Rattle.core_world.specs.declared.word_id.WordId.TheVariants.{Prototype, Revocations}
use Rattle.heap_table.specs.declared.counts.ClassCounts.{ClassCounts}
use Rattle.heap_table.specs.Layout.{place_of}
use Rattle.heap_table.specs.Seen.{ClosedSeen}
use Rattle.heap_table.specs.Tallies.{capped}
use Rattle.lock_journal.specs.declared.record.ClassLine.{ClassLine}

abbrev pub no_counts : ClassCounts
no_counts = record { single = 0; rebias = 0; revoke = 0; reset = 0 }

-- what one thread counted on class k
abbrev pub counts_on : List ClassCounts → ℕ → ClassCounts
counts_on own k = slice_index_or own k no_counts

-- one of its numbers, summed over the threads
abbrev pub total_on : (ClassCounts → ℕ) → List (List ClassCounts) → ℕ → ℕ
total_on number counts k = sum_by (λ own. number (counts_on own k)) counts

-- all of them, each of which stays at the greatest u64
abbrev pub sums_on : List (List ClassCounts) → ℕ → ClassCounts
sums_on counts k =
    record {
      single = capped (total_on (λ n. n.single) counts k);
      rebias = capped (total_on (λ n. n.rebias) counts k);
      revoke = capped (total_on (λ n. n.revoke) counts k);
      reset = capped (total_on (λ n. n.reset) counts k);
    }

-- the sums of the threads' counts, and the class's words
abbrev pub line_of : ClosedSeen → ℕ → ClassLine
line_of c k =
    record {
      single = (sums_on c.counts k).single;
      rebias = (sums_on c.counts k).rebias;
      revoke = (sums_on c.counts k).revoke;
      count = slice_index c.words (place_of c.heap.shape (Revocations k));
      prototype = slice_index c.words (place_of c.heap.shape (Prototype k));
    }

-- the lines of the first n classes
abbrev pub lines_below : ClosedSeen → ℕ → List ClassLine
lines_below c zero = []
lines_below c (suc n) = lines_below c n ++ line_of c n ∷ []

abbrev pub class_lines : ClosedSeen → List ClassLine
class_lines c = lines_below c c.heap.shape.classes
