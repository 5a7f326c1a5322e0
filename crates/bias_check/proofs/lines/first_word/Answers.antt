use Rattle.std.proofs.Common.{◌==◌, arith}
use Rattle.std.proofs.lemmas.Grind.{common_steps}
use Rattle.program_syntax.proofs.Cuts.{cut_none, cut_some}
use Rattle.bias_check.proofs.lines.first_word.Goals as goal

pub returns-in-None : goal.returns-in-None
returns-in-None c = cut_none (λ b. b == 32) c.args.text.now c.in-None.ensures

pub returns-in-Some : goal.returns-in-Some
returns-in-Some c =
    let e = cut_some (λ b. b == 32) c.args.text.now c.in-Some.end 0 c.in-Some.ensures in grind (arith, common_steps, e)
