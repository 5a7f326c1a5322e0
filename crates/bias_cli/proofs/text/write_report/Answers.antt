use Rattle.std.proofs.Common.{arith, rules}
use Rattle.bias_cli.proofs.Texts.{line_first, wrote_line, wrote_part}
use Rattle.bias_cli.proofs.text.write_report.Goals as goal

pub loop-line-preserved : goal.loop-line-preserved
loop-line-preserved g c =
    let next = line_first c.args.lines.now c.loop-line.line-index c.line-item.result (omega arith) c.line-item.is in
    record {
      counted = omega (arith, c.in_ok-write_piece.ensures.counted);
      wrote = wrote_line _ _ _ _ _ _ _ next c.loop-line.invariant.wrote (rw c.items.ensures at c.in_ok-write_piece.ensures.ok);
    }

pub returns-in_err-write_piece-clause-front : goal.returns-in_err-write_piece-clause-front
returns-in_err-write_piece-clause-front g c =
    let next = line_first c.args.lines.now c.loop-line.line-index c.line-item.result (omega arith) c.line-item.is in
    let front = wrote_part _ _ _ _ _ _ _ next c.loop-line.invariant.wrote (rw c.items.ensures at c.in_err-write_piece.ensures.front) in
    search rules
