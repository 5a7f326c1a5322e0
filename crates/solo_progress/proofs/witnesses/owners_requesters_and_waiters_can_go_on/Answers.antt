use Rattle.solo_progress.proofs.LoneReady.{get_ready, put_ready, reached_ready, release_may}
use Rattle.solo_progress.proofs.LoneWaits.{wait_ready, still_waits}
use Rattle.solo_progress.proofs.witnesses.owners_requesters_and_waiters_can_go_on.Goals as goal

pub returns-clause-get : goal.returns-clause-get
returns-clause-get c = get_ready

pub returns-clause-put : goal.returns-clause-put
returns-clause-put c = put_ready

pub returns-clause-reached : goal.returns-clause-reached
returns-clause-reached c = reached_ready

pub returns-clause-release : goal.returns-clause-release
returns-clause-release c = release_may

pub returns-clause-wait : goal.returns-clause-wait
returns-clause-wait c now = (wait_ready now, still_waits)
