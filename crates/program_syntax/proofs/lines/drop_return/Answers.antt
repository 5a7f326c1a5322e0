use Rattle.std.proofs.Common.{arith}
use Rattle.std.proofs.lemmas.Bool.Decides.{nat_tests}
use Rattle.program_syntax.proofs.Cuts.{without_return_last}
use Rattle.program_syntax.proofs.lines.drop_return.Goals as goal

pub returns-then-last-eq13 : goal.returns-then-last-eq13
returns-then-last-eq13 c =
    let e = without_return_last c.args.line.now c.in-Some.front.now c.in-Some.last.now c.in-Some.ensures.cases.0 in grind (arith, nat_tests, e)

pub returns : goal.returns
returns c =
    let e = without_return_last c.args.line.now c.in-Some.front.now c.in-Some.last.now c.in-Some.ensures.cases.0 in grind (arith, nat_tests, e)
