use Rattle.solo_progress.proofs.Enters.{enters_through}
use Rattle.solo_progress.proofs.Operations.{hashes_through, notifies_through, notify_alls_through}
use Rattle.solo_progress.proofs.alone.calls_that_revoke_get_through.Goals as goal

pub returns-clause-enter : goal.returns-clause-enter
returns-clause-enter c = enters_through

pub returns-clause-hash : goal.returns-clause-hash
returns-clause-hash c = hashes_through

pub returns-clause-notify : goal.returns-clause-notify
returns-clause-notify c = notifies_through

pub returns-clause-notify_all : goal.returns-clause-notify_all
returns-clause-notify_all c = notify_alls_through
