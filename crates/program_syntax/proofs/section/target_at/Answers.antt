use Rattle.std.proofs.Common.{sym}
use Rattle.program_syntax.proofs.Labelled.{target_among-found, target_among-absent}
use Rattle.program_syntax.proofs.section.target_at.Goals as goal

pub returns-in-Some : goal.returns-in-Some
returns-in-Some c =
    rw (← c.word.ensures, c.items.ensures, c.in-Some.ensures.1)
    (sym (target_among-found c.args.section.now.labels c.word.result.now c.index-items-place.result c.in-Some.ensures.0))

pub returns-in-None : goal.returns-in-None
returns-in-None c =
    rw (← c.word.ensures) (sym (target_among-absent c.args.section.now.labels c.word.result.now c.in-None.ensures))
