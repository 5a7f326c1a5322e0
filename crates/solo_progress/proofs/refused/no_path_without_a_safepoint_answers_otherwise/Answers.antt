use Rattle.solo_progress.proofs.OtherAnswers.{never_exit, never_get, never_put, never_create, never_owned}
use Rattle.solo_progress.proofs.refused.no_path_without_a_safepoint_answers_otherwise.Goals as goal

pub returns-clause-exit : goal.returns-clause-exit
returns-clause-exit c = never_exit

pub returns-clause-get : goal.returns-clause-get
returns-clause-get c = never_get

pub returns-clause-put : goal.returns-clause-put
returns-clause-put c = never_put

pub returns-clause-create : goal.returns-clause-create
returns-clause-create c = never_create

pub returns-clause-owned : goal.returns-clause-owned
returns-clause-owned c = never_owned
