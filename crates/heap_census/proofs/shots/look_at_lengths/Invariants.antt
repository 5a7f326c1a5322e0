use Rattle.std.proofs.Common.{◌≡◌, length}
use Rattle.heap_table.specs.Seen.{IsOf}
use Rattle.heap_census.specs.inner.ShotParts.{IsLater, IsSettled, lengths_below, look_at_length, look_at_lengths}
use Rattle.heap_census.proofs.Parting.{bare}
use Rattle.heap_census.proofs.Rounds.{RoundsLeft}
use Rattle.heap_census.proofs.shots.look_at_lengths.Given as goal

abbrev pub invariant-loop-thread : goal.invariant-loop-thread
invariant-loop-thread l = record {
  heap : IsOf l.heap l.pass;
  all : l.thread-end ≡ l.heap.heap.shape.threads;
  left : RoundsLeft l.heap l.call.task (bare l.fn.pass) (look_at_lengths l.call l.heap.heap.shape) l.heap.heap.shape.threads (look_at_length l.call)
      l.thread (bare l.pass);
  later : IsLater l.fn.pass.known l.pass.known;
  cells : l.pass.cells ≡ l.fn.pass.cells;
  count : length l.pass.cut ≡ l.thread;
  cut : IsSettled l.pass.known (lengths_below l.thread) l.pass.cut;
}
