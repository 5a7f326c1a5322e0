use Rattle.solo_progress.proofs.OtherAnswers.{never_begins, never_goes_on}
use Rattle.solo_progress.proofs.refused.no_path_of_a_wait_ends_untold.Goals as goal

pub returns-clause-begins : goal.returns-clause-begins
returns-clause-begins c = never_begins

pub returns-clause-goes_on : goal.returns-clause-goes_on
returns-clause-goes_on c = never_goes_on
