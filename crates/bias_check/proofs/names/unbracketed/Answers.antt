use Rattle.std.proofs.Common.{arith}
use Rattle.std.proofs.lemmas.Bool.Decides.{nat_tests}
use Rattle.bias_check.proofs.Cuts.{unbracketed_last}
use Rattle.bias_check.proofs.names.unbracketed.Goals as goal

pub returns-then-last-eq93 : goal.returns-then-last-eq93
returns-then-last-eq93 c =
    let e = unbracketed_last c.args.index.now c.in-Some.front.now c.in-Some.last.now c.in-Some.ensures.cases.0 in grind (arith, nat_tests, e)

pub returns-else-last-eq93 : goal.returns-else-last-eq93
returns-else-last-eq93 c =
    let e = unbracketed_last c.args.index.now c.in-Some.front.now c.in-Some.last.now c.in-Some.ensures.cases.0 in grind (arith, nat_tests, e)
