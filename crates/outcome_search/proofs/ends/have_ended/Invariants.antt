use Rattle.std.proofs.Common.{◌≡◌, not, drop}
use Rattle.std.specs.List.{list_all}
use Rattle.plain_machine.specs.Thread.{ThreadState}
use Rattle.plain_machine.specs.Machine.{is_live}
use Rattle.outcome_search.proofs.ends.have_ended.Given as goal

abbrev pub invariant-loop-thread : goal.invariant-loop-thread
invariant-loop-thread l = record {
  items : l.thread-items ≡ l.machine.threads;
  left : list_all (λ (s : ThreadState). not (is_live s)) (drop l.thread-index l.thread-items)
      ≡ list_all (λ (s : ThreadState). not (is_live s)) l.machine.threads;
}
