use Rattle.bias_cli.proofs.LoneRuns.{same_logs, same_machines, same_statuses, same_texts}
use Rattle.bias_cli.proofs.laws.one_thread_decides_what_is_written.Goals as goal

pub returns-clause-logs : goal.returns-clause-logs
returns-clause-logs c = same_logs

pub returns-clause-machine : goal.returns-clause-machine
returns-clause-machine c = same_machines

pub returns-clause-text : goal.returns-clause-text
returns-clause-text c = same_texts

pub returns-clause-status : goal.returns-clause-status
returns-clause-status c = same_statuses
