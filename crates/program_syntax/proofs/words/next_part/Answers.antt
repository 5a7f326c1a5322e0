use Rattle.std.proofs.Common.{arith}
use Rattle.std.proofs.lemmas.Grind.{common_steps}
use Rattle.program_syntax.proofs.Cuts.{words_none, words_some}
use Rattle.program_syntax.proofs.words.next_part.Goals as goal

pub returns-in-None-clause-words : goal.returns-in-None-clause-words
returns-in-None-clause-words c = words_none c.args.text.now c.in-None.ensures

pub returns-in-Some-clause-words : goal.returns-in-Some-clause-words
returns-in-Some-clause-words c =
    let e = words_some c.args.text.now c.in-Some.end c.in-Some.ensures in grind (arith, common_steps, e)
