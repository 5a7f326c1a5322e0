use Rattle.std.proofs.Common.{◌≤◌, drop}
use Rattle.bias_cli.proofs.Texts.{WroteSoFar}
use Rattle.bias_cli.proofs.text.write_report.Given as goal

abbrev pub invariant-loop-line : goal.invariant-loop-line
invariant-loop-line g l =
    let sink = g.K.Sink in
    record {
      counted : sink.faults l.fn.sink ≤ sink.faults l.sink;
      wrote : WroteSoFar (sink.held l.fn.sink) (sink.held l.sink) l.lines (drop l.line-index l.lines);
    }
