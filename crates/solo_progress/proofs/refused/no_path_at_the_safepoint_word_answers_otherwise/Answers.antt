use Rattle.solo_progress.proofs.OtherAnswers.{never_dump, never_check, never_poll, never_resume}
use Rattle.solo_progress.proofs.refused.no_path_at_the_safepoint_word_answers_otherwise.Goals as goal

pub returns-clause-dump : goal.returns-clause-dump
returns-clause-dump c = never_dump

pub returns-clause-check : goal.returns-clause-check
returns-clause-check c = never_check

pub returns-clause-poll : goal.returns-clause-poll
returns-clause-poll c = never_poll

pub returns-clause-resume : goal.returns-clause-resume
returns-clause-resume c = never_resume
