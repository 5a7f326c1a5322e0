use Rattle.solo_progress.proofs.Exits.{exits_through, gets_through}
use Rattle.solo_progress.proofs.Enters.{enters_where}
use Rattle.solo_progress.proofs.Operations.{puts_through, creates_through}
use Rattle.solo_progress.proofs.alone.calls_without_a_safepoint_get_through.Goals as goal

pub returns-clause-exit : goal.returns-clause-exit
returns-clause-exit c = exits_through

pub returns-clause-get : goal.returns-clause-get
returns-clause-get c = gets_through

pub returns-clause-put : goal.returns-clause-put
returns-clause-put c = puts_through

pub returns-clause-create : goal.returns-clause-create
returns-clause-create c = creates_through

pub returns-clause-enter : goal.returns-clause-enter
returns-clause-enter c = enters_where
