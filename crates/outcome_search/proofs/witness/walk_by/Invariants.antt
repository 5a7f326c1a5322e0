use Rattle.std.proofs.Common.{◌≡◌, ◌≤◌, Some, drop, length}
use Rattle.plain_monitor.specs.Limits.{most_fuel}
use Rattle.plain_machine.specs.Machine.{new_machine}
use Rattle.outcome_search.specs.Outcomes.{top_steps}
use Rattle.outcome_search.specs.Settled.{walked}
use Rattle.outcome_search.specs.inner.Trails.{IsTrail}
use Rattle.outcome_search.proofs.witness.walk_by.Given as goal

abbrev pub invariant-loop-left : goal.invariant-loop-left
invariant-loop-left l = record {
  within : l.left ≤ length l.choices;
  walks : walked (λ m. m) top_steps (new_machine l.program most_fuel) (drop l.left l.choices) ≡ Some l.machine.value;
  trail : IsTrail l.program l.machine.value l.log.entries.items;
}

abbrev pub decreases-loop-left : goal.decreases-loop-left
decreases-loop-left l = l.left
