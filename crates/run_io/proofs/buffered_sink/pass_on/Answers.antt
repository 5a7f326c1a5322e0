use Rattle.std.proofs.Common.{length, ap, arith, length-drop}
use Rattle.std.proofs.lemmas.List.{take_all}
use Rattle.run_io.proofs.Held.{appends_more}
use Rattle.run_io.proofs.buffered_sink.pass_on.Goals as goal

pub loop-count-preserved : goal.loop-count-preserved
loop-count-preserved g c =
    let done = c.loop-count.count in
    let piece = c.args.bytes.now in
    let rest = length-drop done piece in
    record {
      counted = omega (arith, c.in-Ok.ensures.counted, c.loop-count.invariant.counted);
      within = omega (arith, c.in-Ok.ensures.bound, rest);
      appended = appends_more _ _ _ piece _ done _ (take_all _ _ (omega (arith, rest))) c.loop-count.invariant.appended c.in-Ok.ensures.appended;
      same = λ none. absurd (omega (arith, c.loop-count-test.true, ap length none));
      silent = λ none. c.in-Ok.ensures.silent (c.loop-count.invariant.silent none);
    }
