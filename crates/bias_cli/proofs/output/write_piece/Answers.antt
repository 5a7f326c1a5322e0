use Rattle.std.proofs.Common.{arith, rules, length-drop}
use Rattle.std.proofs.lemmas.List.{take_all}
use Rattle.bias_cli.proofs.Takes.{wrote_more, wrote_front}
use Rattle.bias_cli.proofs.output.write_piece.Goals as goal

pub returns-in_err-written-clause-front : goal.returns-in_err-written-clause-front
returns-in_err-written-clause-front g c =
    let front = wrote_front _ _ _ _ _ c.loop-written.invariant.wrote c.in_err-written.ensures.kept in search rules

pub loop-written-preserved : goal.loop-written-preserved
loop-written-preserved g c =
    record {
      counted = omega (arith, c.in_ok-written.ensures.counted);
      within = omega (arith, c.in_ok-written.ensures.bound, length-drop c.loop-written.written c.args.piece.now);
      wrote = wrote_more _ _ _ _ _ c.args.piece.now _ (take_all _ _ (omega (arith, length-drop c.loop-written.written c.args.piece.now)))
          c.loop-written.invariant.wrote c.in_ok-written.ensures.appended;
    }
