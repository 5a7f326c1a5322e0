use Rattle.std.proofs.Common.{◌≡◌, ◌+◌, ◌*◌, ◌≤◌, ◌++◌, drop, length}
use Rattle.lock_journal.specs.inner.Enters.{counts_text}
use Rattle.lock_journal.proofs.classes.push_counts.Given as goal

-- what is written and what is to come are the whole
abbrev pub invariant-loop-count : goal.invariant-loop-count
invariant-loop-count l =
    record {
      text : l.out ++ counts_text (drop l.count-index l.counts) ≡ l.fn.out ++ counts_text l.counts;
      short : length l.out ≤ length l.fn.out + 41 * l.count-index;
    }
