use Rattle.std.proofs.Common.{arith}
use Rattle.std.proofs.lemmas.Bool.Decides.{nat_tests}
use Rattle.bias_check.proofs.Cuts.{unended_last}
use Rattle.bias_check.proofs.lines.ended.Goals as goal

pub returns-then-last-eq10 : goal.returns-then-last-eq10
returns-then-last-eq10 c =
    let e = unended_last c.args.line.now c.in-Some.front.now c.in-Some.last.now c.in-Some.ensures.cases.0 in grind (arith, nat_tests, e)

pub returns-else-last-eq10 : goal.returns-else-last-eq10
returns-else-last-eq10 c =
    let e = unended_last c.args.line.now c.in-Some.front.now c.in-Some.last.now c.in-Some.ensures.cases.0 in grind (arith, nat_tests, e)
