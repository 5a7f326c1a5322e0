use Rattle.std.proofs.Common.{◌≡◌, ◌++◌, drop}
use Rattle.wait_report.specs.inner.Tallies.{counts_from}
use Rattle.wait_report.proofs.counts.list_counts.Given as goal

-- the counts so far, and those of the objects that are left, are all
abbrev pub invariant-loop-object : goal.invariant-loop-object
invariant-loop-object l = l.counts.items ++ counts_from l.object (drop l.object l.tallies) ≡ counts_from 0 l.tallies
