use Rattle.core_made.proofs.FirstMarks.{makes_valid}
use Rattle.core_made.proofs.making.storing_a_first_mark_keeps_the_world_valid.Goals as goal

pub returns : goal.returns
returns c = makes_valid
