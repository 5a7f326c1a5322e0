use Rattle.turn_progress.proofs.Unbarred.{still_unbarred, elsewhere_unbarred, not_each, not_each_reached}
use Rattle.turn_progress.proofs.refused.bars_are_not_everywhere.Goals as goal

pub returns-clause-still : goal.returns-clause-still
returns-clause-still c = still_unbarred

pub returns-clause-elsewhere : goal.returns-clause-elsewhere
returns-clause-elsewhere c = elsewhere_unbarred

pub returns-clause-each : goal.returns-clause-each
returns-clause-each c = not_each

pub returns-clause-reached : goal.returns-clause-reached
returns-clause-reached c = not_each_reached
