use Rattle.solo_progress.proofs.Laws.{waits_first, waits_again, waits_told}
use Rattle.solo_progress.proofs.through.a_thread_left_alone_waits_until_it_is_told.Goals as goal

pub returns-clause-begins : goal.returns-clause-begins
returns-clause-begins c = waits_first

pub returns-clause-goes_on : goal.returns-clause-goes_on
returns-clause-goes_on c = waits_again

pub returns-clause-told : goal.returns-clause-told
returns-clause-told c = waits_told
