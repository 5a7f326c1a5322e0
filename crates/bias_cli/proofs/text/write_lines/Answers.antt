use Rattle.std.proofs.Common.{arith, rules}
use Rattle.bias_cli.proofs.Texts.{wrote_line, wrote_part}
use Rattle.bias_cli.proofs.text.write_lines.Goals as goal

pub loop-lines-preserved : goal.loop-lines-preserved
loop-lines-preserved g c =
    record {
      counted = omega (arith, c.in_ok-write_piece.ensures.counted);
      wrote = wrote_line _ _ _ _ _ _ _ c.loop-lines-test.ensures c.loop-lines.invariant.wrote (rw c.bytes.ensures.text at c.in_ok-write_piece.ensures.ok);
    }

pub returns-in_err-write_piece-clause-front : goal.returns-in_err-write_piece-clause-front
returns-in_err-write_piece-clause-front g c =
    let part = rw c.bytes.ensures.text at c.in_err-write_piece.ensures.front in
    let front = wrote_part _ _ _ _ _ _ _ c.loop-lines-test.ensures c.loop-lines.invariant.wrote part in
    search rules
