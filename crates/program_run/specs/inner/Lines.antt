-- Adding up counts of verdicts, and why a count fits its line.
use Rattle.std.specs.Prelude.{ℕ, ◌+◌, ◌^◌, ◌<◌, slice_index}
use Rattle.core_world.specs.declared.word_id.WordId.TheVariants.{Revocations}
use Rattle.heap_table.specs.declared.counts.ClassCounts.{ClassCounts}
use Rattle.heap_table.specs.Layout.{place_of}
use Rattle.heap_table.specs.Seen.{ClosedSeen}
use Rattle.heap_table.specs.Tallies.{capped}

-- the counts, raised by others
abbrev pub raised : ClassCounts → ClassCounts → ClassCounts
raised a b =
    record {
      single = capped (a.single + b.single);
      rebias = capped (a.rebias + b.rebias);
      revoke = capped (a.revoke + b.revoke);
      reset = capped (a.reset + b.reset);
    }

-- the count of revocations of each class has 32 bits
abbrev pub HasSmallCounts : ClosedSeen → Type 0
HasSmallCounts c =
    (k : ℕ) → k < c.heap.shape.classes → slice_index c.words (place_of c.heap.shape (Revocations k)) < 2 ^ 32
