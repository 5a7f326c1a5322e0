use Rattle.std.proofs.Common.{◌≤◌}
use Rattle.plain_monitor.specs.Limits.{most_holds}
use Rattle.core_world.specs.Trees.LookSteps.{look_at_holds}
use Rattle.heap_census.specs.inner.ShotParts.{IsLater, IsSettled, held_below, look_at_hold}
use Rattle.heap_census.proofs.Rounds.{RoundsLeft}
use Rattle.heap_census.proofs.shots.look_at_holds.Given as goal

abbrev pub invariant-loop-place : goal.invariant-loop-place
invariant-loop-place l = record {
  left : RoundsLeft l.heap l.call.task l.fn.pass (look_at_holds l.call l.thread) most_holds (look_at_hold l.call l.thread) l.place l.pass;
  later : IsLater l.fn.pass.known l.pass.known;
  held : IsSettled l.pass.known (held_below l.object l.thread l.place) l.held;
  few : l.held ≤ l.place;
}
