use Rattle.thread_logs.proofs.WrongLogs.{not_held, not_undumped, not_unmade}
use Rattle.thread_logs.proofs.refused.no_thread_stands_elsewhere_than_its_log_says.Goals as goal

pub returns-clause-holds : goal.returns-clause-holds
returns-clause-holds c = not_held

pub returns-clause-dumps : goal.returns-clause-dumps
returns-clause-dumps c = not_undumped

pub returns-clause-made : goal.returns-clause-made
returns-clause-made c = not_unmade
