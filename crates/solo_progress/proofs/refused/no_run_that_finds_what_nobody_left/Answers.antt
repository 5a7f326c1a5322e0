use Rattle.solo_progress.proofs.OtherAnswers.{no_other_found, no_other_left}
use Rattle.solo_progress.proofs.refused.no_run_that_finds_what_nobody_left.Goals as goal

pub returns-clause-found : goal.returns-clause-found
returns-clause-found c = no_other_found

pub returns-clause-left : goal.returns-clause-left
returns-clause-left c = no_other_left
