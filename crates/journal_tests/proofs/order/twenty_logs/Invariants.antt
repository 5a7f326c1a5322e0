use Rattle.std.specs.List.{AllByRecursion}
use Rattle.plain_monitor.specs.History.{RisesAbove}
use Rattle.lock_journal.specs.Merging.{AreOfSixteen}
use Rattle.journal_tests.proofs.order.twenty_logs.Given as goal

-- the logs so far
abbrev pub invariant-loop : goal.invariant-loop
invariant-loop l = record {
  rising : AllByRecursion (RisesAbove 0) l.logs.items;
  few : AreOfSixteen l.logs.items;
}
