use Rattle.std.proofs.Common.{◌≡◌, ◌-◌, ◌++◌}
use Rattle.wait_report.specs.inner.Walk.{cycles_from}
use Rattle.wait_report.proofs.cycles.find_cycles.Given as goal

-- the cycles so far, and those from here on, are all
abbrev pub invariant-loop-first : goal.invariant-loop-first
invariant-loop-first l =
    cycles_from l.machine l.threads 0 l.threads ≡ l.cycles.items ++ cycles_from l.machine l.threads l.first (l.threads - l.first)
