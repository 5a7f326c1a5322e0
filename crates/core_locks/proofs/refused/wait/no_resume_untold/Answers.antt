use Rattle.core_locks.proofs.wait.RefutedResumes.{no_resume_unless_told, no_resume_uncalled}
use Rattle.core_locks.proofs.wait.RefutedWaits.{no_resume_untold}
use Rattle.core_locks.proofs.refused.wait.no_resume_untold.Goals as goal

pub returns-clause-waiting : goal.returns-clause-waiting
returns-clause-waiting c = no_resume_untold

pub returns-clause-untold : goal.returns-clause-untold
returns-clause-untold c = no_resume_unless_told

pub returns-clause-uncalled : goal.returns-clause-uncalled
returns-clause-uncalled c = no_resume_uncalled
