use Rattle.std.proofs.Common.{◌≡◌, ◌+◌, drop}
use Rattle.plain_monitor.specs.declared.entry.Path.{Path}
use Rattle.lock_journal.specs.inner.Enters.{enters_in, count_at}
use Rattle.lock_journal.proofs.enters.count_log.Given as goal

-- what was counted and what is to come are the whole
abbrev pub invariant-loop-logged : goal.invariant-loop-logged
invariant-loop-logged l =
    (path : Path) → count_at l.counts path + enters_in l.machine l.c path (drop l.logged-index l.log)
    ≡ count_at l.fn.counts path + enters_in l.machine l.c path l.log
