use Rattle.solo_progress.proofs.QuietWords.{quiet_there, alone_there, waiting_there}
use Rattle.solo_progress.proofs.witnesses.words_can_be_quiet.Goals as goal

pub returns-clause-quiet : goal.returns-clause-quiet
returns-clause-quiet c = quiet_there

pub returns-clause-alone : goal.returns-clause-alone
returns-clause-alone c = alone_there

pub returns-clause-waits : goal.returns-clause-waits
returns-clause-waits c = waiting_there
