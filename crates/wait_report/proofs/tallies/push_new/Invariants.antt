use Rattle.std.proofs.Common.{◌≡◌, ◌++◌, replicate}
use Rattle.wait_report.specs.inner.Tallies.{new_tally}
use Rattle.wait_report.proofs.tallies.push_new.Given as goal

abbrev pub invariant-loop : goal.invariant-loop
invariant-loop l = l.tallies.items ≡ l.initial.tallies.items ++ replicate l.counter new_tally
