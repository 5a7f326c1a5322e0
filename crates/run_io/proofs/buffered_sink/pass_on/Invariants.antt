use Rattle.std.proofs.Common.{◌≡◌, ◌-◌, ◌≤◌, [], length, None}
use Rattle.run_io.specs.Sink.{Appends}
use Rattle.run_io.proofs.buffered_sink.pass_on.Given as goal

-- what was written so far stands after what the sink held
abbrev pub invariant-loop-count : goal.invariant-loop-count
invariant-loop-count g l =
    let sink = g.K.Sink in
    record {
      counted : sink.faults l.fn.to ≤ sink.faults l.to;
      within : l.count ≤ length l.bytes;
      appended : Appends (sink.held l.fn.to) (sink.held l.to) l.bytes l.count;
      same : l.bytes ≡ [] → l.to ≡ l.fn.to;
      silent : sink.held l.fn.to ≡ None → sink.held l.to ≡ None;
    }

abbrev pub decreases-loop-count : goal.decreases-loop-count
decreases-loop-count g l = length l.bytes - l.count
