use Rattle.std.proofs.Common.{◌≡◌, ◌<◌, ◌≤◌, ◌^◌, [], length, vec_len}
use Rattle.plain_monitor.specs.Order.{order}
use Rattle.lock_journal.specs.Merging.{left_of}
use Rattle.wait_report.specs.inner.Tallies.{after_entries, HaveRoom}
use Rattle.wait_report.proofs.counts.count_objects.Given as goal

-- after the entries that are left the tallies are those after all, and they have room for these
abbrev pub invariant-loop-t : goal.invariant-loop-t
invariant-loop-t l = record {
  tallies : after_entries l.tallies.items (order (left_of l.run.logs l.merge)) ≡ after_entries [] (order l.run.logs);
  room : HaveRoom (length (order (left_of l.run.logs l.merge))) l.tallies.items;
  small : length (order (left_of l.run.logs l.merge)) < 2 ^ 64;
  few : vec_len l.tallies ≤ 2 ^ 32;
}

abbrev pub decreases-loop-t : goal.decreases-loop-t
decreases-loop-t l = length (order (left_of l.run.logs l.merge))
