use Rattle.solo_progress.proofs.OtherAnswers.{no_begins, no_goes_on, no_told}
use Rattle.solo_progress.proofs.refused.no_wait_left_alone_ends_untold.Goals as goal

pub returns-clause-begins : goal.returns-clause-begins
returns-clause-begins c = no_begins

pub returns-clause-goes_on : goal.returns-clause-goes_on
returns-clause-goes_on c = no_goes_on

pub returns-clause-told : goal.returns-clause-told
returns-clause-told c = no_told
