use Rattle.solo_progress.proofs.OtherAnswers.{no_create, no_poll, no_resume}
use Rattle.solo_progress.proofs.refused.no_create_poll_or_resume_answers_otherwise.Goals as goal

pub returns-clause-create : goal.returns-clause-create
returns-clause-create c = no_create

pub returns-clause-poll : goal.returns-clause-poll
returns-clause-poll c = no_poll

pub returns-clause-resume : goal.returns-clause-resume
returns-clause-resume c = no_resume
