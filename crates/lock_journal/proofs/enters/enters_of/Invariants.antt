use Rattle.std.proofs.Common.{◌≡◌, ◌+◌, ◌*◌, ◌^◌, ◌≤◌, drop, take, length}
use Rattle.plain_monitor.specs.Limits.{most_threads}
use Rattle.plain_monitor.specs.declared.entry.Path.{Path}
use Rattle.lock_journal.specs.inner.Enters.{enters_in_all, count_at}
use Rattle.lock_journal.proofs.enters.enters_of.Given as goal

-- what was counted and what is to come are the whole, and no log has more entries than memory
abbrev pub invariant-loop-log : goal.invariant-loop-log
invariant-loop-log l =
    record {
      six : length l.counts ≡ 6;
      counted : (path : Path) → count_at l.counts path + enters_in_all l.machine l.c path (drop l.log-index (take most_threads l.run.logs))
          ≡ enters_in_all l.machine l.c path (take most_threads l.run.logs);
      few : (path : Path) → count_at l.counts path ≤ 2 ^ 64 * l.log-index;
    }
