use Rattle.core_locks.proofs.wait.ResumeLogs.{logging_a_resume}
use Rattle.core_locks.proofs.enter_exit.entering.logging_a_resume_keeps_the_world_valid.Goals as goal

pub returns : goal.returns
returns c = logging_a_resume
