use Rattle.solo_progress.proofs.Checked.{checks_so}
use Rattle.solo_progress.proofs.Operations.{dumps_through, polls_through, resumes_through}
use Rattle.solo_progress.proofs.alone.calls_at_the_safepoint_word_get_through.Goals as goal

pub returns-clause-dump : goal.returns-clause-dump
returns-clause-dump c = dumps_through

pub returns-clause-check : goal.returns-clause-check
returns-clause-check c = checks_so

pub returns-clause-poll : goal.returns-clause-poll
returns-clause-poll c = polls_through

pub returns-clause-resume : goal.returns-clause-resume
returns-clause-resume c = resumes_through
