use Rattle.solo_progress.proofs.Operations.{waits_go, waits_end}
use Rattle.solo_progress.proofs.alone.waits_end_where_told.Goals as goal

pub returns-clause-begins : goal.returns-clause-begins
returns-clause-begins c = waits_go

pub returns-clause-goes_on : goal.returns-clause-goes_on
returns-clause-goes_on c = waits_end
