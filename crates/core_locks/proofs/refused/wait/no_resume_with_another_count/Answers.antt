use Rattle.core_locks.proofs.wait.RefutedWaits.{no_resume_with_another_count}
use Rattle.core_locks.proofs.refused.wait.no_resume_with_another_count.Goals as goal

pub returns : goal.returns
returns c = no_resume_with_another_count
