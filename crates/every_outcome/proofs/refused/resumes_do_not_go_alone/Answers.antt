use Rattle.every_outcome.proofs.Shut.{resume_shuts_out}
use Rattle.every_outcome.proofs.refused.resumes_do_not_go_alone.Goals as goal

pub returns : goal.returns
returns c = resume_shuts_out
