use Rattle.thread_logs.proofs.ExampleLogs.{cut_is_met, both_followed}
use Rattle.thread_logs.proofs.witnesses.logs_of_threads_in_turn_can_be_cut_in_order.Goals as goal

pub returns-clause-cut : goal.returns-clause-cut
returns-clause-cut c = cut_is_met

pub returns-clause-logs : goal.returns-clause-logs
returns-clause-logs c = both_followed
