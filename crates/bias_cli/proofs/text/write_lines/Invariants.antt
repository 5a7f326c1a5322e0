use Rattle.std.proofs.Common.{◌≤◌, length}
use Rattle.bias_cli.specs.inner.Briefly.{left_by, lines_by}
use Rattle.bias_cli.proofs.Texts.{WroteSoFar}
use Rattle.bias_cli.proofs.text.write_lines.Given as goal

abbrev pub invariant-loop-lines : goal.invariant-loop-lines
invariant-loop-lines g l =
    let sink = g.K.Sink in
    record {
      counted : sink.faults l.fn.sink ≤ sink.faults l.sink;
      wrote : WroteSoFar (sink.held l.fn.sink) (sink.held l.sink) (lines_by l.stats l.journal l.run l.machine) (left_by l.run l.machine l.lines);
    }

abbrev pub decreases-loop-lines : goal.decreases-loop-lines
decreases-loop-lines g l = length (left_by l.run l.machine l.lines)
