use Rattle.std.proofs.Common.{◌≡◌, ◌-◌, ◌++◌, option_map}
use Rattle.wait_report.specs.inner.Walk.{links_from}
use Rattle.wait_report.proofs.walk.walk.Given as goal

-- the links so far, and those that are found from here on, are all
abbrev pub invariant-loop-step : goal.invariant-loop-step
invariant-loop-step l =
    links_from l.machine l.first l.threads l.first ≡ option_map (λ rest. l.links.items ++ rest) (links_from l.machine l.first (l.threads - l._step) l.thread)
