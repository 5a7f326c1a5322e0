-- The verdicts that a thread counted, as a pass shows them: at its greatest number a count stays.
use Rattle.std.specs.Prelude.{ℕ, zero, suc, min, List, [], ◌∷◌}
use Rattle.core_world.specs.Threads.Counts.{ClassCounts, CountedVerdict, counts_of}
use Rattle.heap_table.specs.declared.counts.ClassCounts as shown

abbrev pub capped : ℕ → ℕ
capped n = min n 18446744073709551615

abbrev pub capped_counts : ClassCounts → shown.ClassCounts
capped_counts k =
    record {
      single = capped k.single;
      rebias = capped k.rebias;
      revoke = capped k.revoke;
      reset = capped k.reset;
    }

-- the counts of n classes, from class c on
abbrev pub counts_shown : ℕ → ℕ → List CountedVerdict → List shown.ClassCounts
counts_shown c zero counts = []
counts_shown c (suc n) counts = capped_counts (counts_of counts c) ∷ counts_shown (suc c) n counts
