use Rattle.std.proofs.Common.{◌≡◌, length, drop}
use Rattle.outcome_search.specs.Outcomes.{ends_of}
use Rattle.outcome_search.specs.inner.Counting.{uncounted, counted, IsBelow}
use Rattle.outcome_search.proofs.outcome.count_ends.Given as goal

abbrev pub invariant-loop-number : goal.invariant-loop-number
invariant-loop-number l = record {
  same : l.moves ≡ l.initial.moves;
  end : l.number-end ≡ length l.found.keys;
  below : IsBelow l.number l.outcomes;
  left : counted l.outcomes l.number (drop l.number (ends_of l.initial.moves.program l.initial.moves.fuel l.found.keys))
      ≡ counted (uncounted l.found) 0 (ends_of l.initial.moves.program l.initial.moves.fuel l.found.keys);
}
