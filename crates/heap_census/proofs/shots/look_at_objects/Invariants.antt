use Rattle.std.proofs.Common.{◌≡◌, length}
use Rattle.core_world.specs.Trees.LookSteps.{look_at_objects}
use Rattle.heap_table.specs.Seen.{IsOf}
use Rattle.heap_census.specs.inner.ShotParts.{IsLater, IsSettled, cells_below, look_at_cell}
use Rattle.heap_census.proofs.Parting.{bare}
use Rattle.heap_census.proofs.Rounds.{RoundsLeft}
use Rattle.heap_census.proofs.shots.look_at_objects.Given as goal

abbrev pub invariant-loop-object : goal.invariant-loop-object
invariant-loop-object l = record {
  heap : IsOf l.heap l.pass;
  all : l.object-end ≡ length l.heap.heap.shape.objects;
  left : RoundsLeft l.heap l.call.task (bare l.fn.pass) (look_at_objects l.call l.heap.heap.shape) (length l.heap.heap.shape.objects)
      (look_at_cell l.call l.heap.heap.shape) l.object (bare l.pass);
  later : IsLater l.fn.pass.known l.pass.known;
  cut : l.pass.cut ≡ l.fn.pass.cut;
  count : length l.pass.cells ≡ l.object;
  cells : IsSettled l.pass.known (cells_below l.heap.heap.shape l.object) l.pass.cells;
}
