use Rattle.bias_cli.proofs.Refuted.{log_too_many, no_threads, too_little_fuel}
use Rattle.bias_cli.proofs.refused.no_replay_of_a_wrong_record.Goals as goal

pub returns-clause-fuel : goal.returns-clause-fuel
returns-clause-fuel c = too_little_fuel

pub returns-clause-program : goal.returns-clause-program
returns-clause-program c = no_threads

pub returns-clause-logs : goal.returns-clause-logs
returns-clause-logs c = log_too_many
