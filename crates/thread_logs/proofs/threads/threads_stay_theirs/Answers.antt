use Rattle.thread_logs.proofs.Logs.{first_follows, next_follows, followed_thread, followed_work}
use Rattle.thread_logs.proofs.threads.threads_stay_theirs.Goals as goal

pub returns-clause-first : goal.returns-clause-first
returns-clause-first c = first_follows

pub returns-clause-next : goal.returns-clause-next
returns-clause-next c = next_follows

pub returns-clause-thread : goal.returns-clause-thread
returns-clause-thread c = followed_thread

pub returns-clause-work : goal.returns-clause-work
returns-clause-work c = followed_work
