use Rattle.std.proofs.Common.{arith}
use Rattle.std.proofs.lemmas.Grind.{common_steps}
use Rattle.program_syntax.proofs.Cuts.{first_none, first_some}
use Rattle.program_syntax.proofs.lines.first_line.Goals as goal

pub returns-in-None : goal.returns-in-None
returns-in-None c = first_none c.args.text.now c.drop_return.result.now c.in-None.ensures c.drop_return.ensures

pub returns-in-Some : goal.returns-in-Some
returns-in-Some c =
    let e = first_some c.args.text.now c.drop_return-in-Some.result.now c.in-Some.end c.in-Some.ensures c.drop_return-in-Some.ensures in
    grind (arith, common_steps, e)
