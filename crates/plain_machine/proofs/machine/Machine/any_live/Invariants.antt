use Rattle.std.proofs.Common.{◌≡◌, drop}
use Rattle.std.specs.List.{list_any}
use Rattle.plain_machine.specs.Machine.{is_live}
use Rattle.plain_machine.proofs.machine.Machine.any_live.Given as goal

abbrev pub invariant-loop-thread : goal.invariant-loop-thread
invariant-loop-thread l = record {
  items : l.thread-items ≡ l.self.threads;
  left : list_any is_live (drop l.thread-index l.thread-items) ≡ list_any is_live l.self.threads;
}
