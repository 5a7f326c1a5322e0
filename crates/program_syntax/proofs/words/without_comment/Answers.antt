use Rattle.std.proofs.Common.{◌==◌, arith, sym}
use Rattle.std.proofs.lemmas.Grind.{common_steps}
use Rattle.program_syntax.proofs.Cuts.{before_none, before_some}
use Rattle.program_syntax.proofs.words.without_comment.Goals as goal

pub returns-in-None : goal.returns-in-None
returns-in-None c = sym (before_none (λ b. b == 35) c.args.line.now c.in-None.ensures)

pub returns-in-Some : goal.returns-in-Some
returns-in-Some c =
    let e = before_some (λ b. b == 35) c.args.line.now c.in-Some.end c.in-Some.ensures in grind (arith, common_steps, e)
