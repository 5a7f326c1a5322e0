use Rattle.solo_progress.proofs.Laws.{prints_itself, creates_itself, finishes_itself, stops_itself, polls_itself, resumes_itself, releases_itself}
use Rattle.solo_progress.proofs.through.calls_that_need_no_other_thread_get_through.Goals as goal

pub returns-clause-print : goal.returns-clause-print
returns-clause-print c = prints_itself

pub returns-clause-create : goal.returns-clause-create
returns-clause-create c = creates_itself

pub returns-clause-finish : goal.returns-clause-finish
returns-clause-finish c = finishes_itself

pub returns-clause-stop : goal.returns-clause-stop
returns-clause-stop c = stops_itself

pub returns-clause-poll : goal.returns-clause-poll
returns-clause-poll c = polls_itself

pub returns-clause-resume : goal.returns-clause-resume
returns-clause-resume c = resumes_itself

pub returns-clause-release : goal.returns-clause-release
returns-clause-release c = releases_itself
