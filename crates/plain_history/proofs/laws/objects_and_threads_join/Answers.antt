use Rattle.plain_history.proofs.Joined.{joined, parted, joined_logs}
use Rattle.plain_history.proofs.laws.objects_and_threads_join.Goals as goal

pub returns-clause-entries : goal.returns-clause-entries
returns-clause-entries g c = joined g.T.ThreadStates.step

pub returns-clause-parts : goal.returns-clause-parts
returns-clause-parts g c = parted g.T.ThreadStates.step

pub returns-clause-logs : goal.returns-clause-logs
returns-clause-logs g c = joined_logs g.T.ThreadStates.step
