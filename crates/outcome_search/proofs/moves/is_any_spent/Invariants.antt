use Rattle.std.proofs.Common.{◌≡◌, drop}
use Rattle.std.specs.List.{list_any}
use Rattle.plain_machine.specs.Thread.{ThreadState}
use Rattle.every_outcome.specs.Fuel.{is_spent}
use Rattle.outcome_search.proofs.moves.is_any_spent.Given as goal

abbrev pub invariant-loop-thread : goal.invariant-loop-thread
invariant-loop-thread l = record {
  items : l.thread-items ≡ l.machine.threads;
  left : list_any (λ (s : ThreadState). is_spent s.mode) (drop l.thread-index l.thread-items)
      ≡ list_any (λ (s : ThreadState). is_spent s.mode) l.machine.threads;
}
