use Rattle.core_locks.proofs.enter_exit.TakenStamps.{enter_stamp, resume_stamp}
use Rattle.core_locks.proofs.enter_exit.entering.the_stamp_of_a_taking_follows_from_the_logs.Goals as goal

pub returns-clause-enter : goal.returns-clause-enter
returns-clause-enter c = enter_stamp

pub returns-clause-resume : goal.returns-clause-resume
returns-clause-resume c = resume_stamp
