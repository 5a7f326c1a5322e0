use Rattle.std.proofs.Common.{◌≡◌, ◌≤◌, length, drop}
use Rattle.plain_monitor.specs.Limits.{most_threads}
use Rattle.plain_machine.specs.Machine.{all_barred}
use Rattle.plain_machine.proofs.machine.Machine.all_barred.Given as goal

abbrev pub invariant-loop-t : goal.invariant-loop-t
invariant-loop-t l = record {
  items : l.thread-items ≡ l.self.threads;
  few : length l.thread-items ≤ most_threads;
  left : all_barred l.self l.t (drop l.t l.thread-items) ≡ all_barred l.self 0 l.self.threads;
}
