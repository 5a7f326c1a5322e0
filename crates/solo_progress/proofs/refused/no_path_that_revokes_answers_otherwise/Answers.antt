use Rattle.solo_progress.proofs.OtherAnswers.{never_undone, never_notify, never_notify_all, never_raced}
use Rattle.solo_progress.proofs.refused.no_path_that_revokes_answers_otherwise.Goals as goal

pub returns-clause-undone : goal.returns-clause-undone
returns-clause-undone c = never_undone

pub returns-clause-notify : goal.returns-clause-notify
returns-clause-notify c = never_notify

pub returns-clause-notify_all : goal.returns-clause-notify_all
returns-clause-notify_all c = never_notify_all

pub returns-clause-raced : goal.returns-clause-raced
returns-clause-raced c = never_raced
