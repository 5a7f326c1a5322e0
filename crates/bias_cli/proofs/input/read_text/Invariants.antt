use Rattle.std.proofs.Common.{◌≤◌, ◌+◌, ◌-◌, vec_len}
use Rattle.bias_cli.specs.Input.{TookFirst}
use Rattle.bias_cli.proofs.input.read_text.Given as goal

-- the bytes so far are the first that the source had left
abbrev pub invariant-loop-source : goal.invariant-loop-source
invariant-loop-source g l =
    let source = g.S.Source in
    record {
      counted : source.faults l.fn.source ≤ source.faults l.source;
      most : vec_len l.bytes ≤ l.most + 1;
      took : TookFirst (vec_len l.bytes) (source.left l.fn.source) (source.left l.source) l.bytes.items;
    }

abbrev pub decreases-loop-source : goal.decreases-loop-source
decreases-loop-source g l = l.most + 1 - vec_len l.bytes
