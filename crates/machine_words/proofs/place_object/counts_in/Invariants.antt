use Rattle.std.proofs.Common.{◌≡◌, ◌+◌, ◌≤◌, drop}
use Rattle.plain_monitor.specs.Limits.{most_holds}
use Rattle.plain_monitor.specs.Listed.{counts_in}
use Rattle.machine_words.proofs.place_object.counts_in.Given as goal

abbrev pub invariant-loop-thread : goal.invariant-loop-thread
invariant-loop-thread l = record {
  counts : l.counts + counts_in (drop l.thread-index l.list) l.t ≡ counts_in l.list l.t;
  few : l.counts ≤ most_holds;
}
