use Rattle.std.proofs.Common.{◌≤◌, ◌-◌, length, take}
use Rattle.bias_cli.specs.Output.{Wrote}
use Rattle.bias_cli.proofs.output.write_piece.Given as goal

-- what was written so far stands after what the sink held
abbrev pub invariant-loop-written : goal.invariant-loop-written
invariant-loop-written g l =
    let sink = g.K.Sink in
    record {
      counted : sink.faults l.fn.sink ≤ sink.faults l.sink;
      within : l.written ≤ length l.piece;
      wrote : Wrote (sink.held l.fn.sink) (sink.held l.sink) (take l.written l.piece);
    }

abbrev pub decreases-loop-written : goal.decreases-loop-written
decreases-loop-written g l = length l.piece - l.written
