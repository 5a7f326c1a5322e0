use Rattle.std.proofs.Common.{◌≡◌, ◌<◌, ◌+◌, ◌||◌, ℕ, false, drop, length, slice_index_or}
use Rattle.std.specs.List.{list_any}
use Rattle.sync_source.specs.Compiled.{goes_to}
use Rattle.sync_source.proofs.label.marks.Given as goal

abbrev pub invariant-loop-instruction : goal.invariant-loop-instruction
invariant-loop-instruction l =
    record {
      count : length l.marks.items ≡ length l.code + 1;
      marked : (n : ℕ) → n < length l.marks.items
          → (slice_index_or l.marks.items n false || list_any (goes_to n) (drop l.instruction-index l.code)) ≡ list_any (goes_to n) l.code;
    }
