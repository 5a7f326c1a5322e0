use Rattle.bias_law.proofs.QuietKinds.{raises_stamp, says_ready, says_entering, says_ended, publishes_all, wakes_next}
use Rattle.bias_law.proofs.kinds.steps_of_the_journal_keep_the_law_of_biases.Goals as goal

pub returns-clause-raised : goal.returns-clause-raised
returns-clause-raised c = raises_stamp

pub returns-clause-ready : goal.returns-clause-ready
returns-clause-ready c = says_ready

pub returns-clause-entering : goal.returns-clause-entering
returns-clause-entering c = says_entering

pub returns-clause-ended : goal.returns-clause-ended
returns-clause-ended c = says_ended

pub returns-clause-published : goal.returns-clause-published
returns-clause-published c = publishes_all

pub returns-clause-told : goal.returns-clause-told
returns-clause-told c = wakes_next
