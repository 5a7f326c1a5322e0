use Rattle.std.proofs.Common.{◌≡◌, drop}
use Rattle.std.specs.List.{list_any}
use Rattle.plain_machine.specs.Thread.{ThreadState}
use Rattle.outcome_search.specs.Ends.{has_trapped}
use Rattle.outcome_search.proofs.ends.has_any_trapped.Given as goal

abbrev pub invariant-loop-thread : goal.invariant-loop-thread
invariant-loop-thread l = record {
  items : l.thread-items ≡ l.machine.threads;
  left : list_any (λ (s : ThreadState). has_trapped s.mode) (drop l.thread-index l.thread-items)
      ≡ list_any (λ (s : ThreadState). has_trapped s.mode) l.machine.threads;
}
