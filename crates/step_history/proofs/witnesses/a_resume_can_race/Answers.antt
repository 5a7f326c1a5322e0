use Rattle.step_history.proofs.Raced.{raced}
use Rattle.step_history.proofs.witnesses.a_resume_can_race.Goals as goal

pub returns : goal.returns
returns c = raced
