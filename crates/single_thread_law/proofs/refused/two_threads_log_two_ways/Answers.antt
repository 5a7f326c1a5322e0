use Rattle.single_thread_law.proofs.PairExample.{first, other_ends, other_logs, second}
use Rattle.single_thread_law.proofs.refused.two_threads_log_two_ways.Goals as goal

pub returns-clause-logs : goal.returns-clause-logs
returns-clause-logs c = other_logs

pub returns-clause-machines : goal.returns-clause-machines
returns-clause-machines c = other_ends

pub returns-clause-first : goal.returns-clause-first
returns-clause-first c = first

pub returns-clause-second : goal.returns-clause-second
returns-clause-second c = second
