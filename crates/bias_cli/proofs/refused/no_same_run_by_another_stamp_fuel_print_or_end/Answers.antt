use Rattle.bias_cli.proofs.Refuted.{other_fuel, other_print, other_stamps, other_status}
use Rattle.bias_cli.proofs.refused.no_same_run_by_another_stamp_fuel_print_or_end.Goals as goal

pub returns-clause-logs : goal.returns-clause-logs
returns-clause-logs c = other_stamps

pub returns-clause-machine : goal.returns-clause-machine
returns-clause-machine c = other_fuel

pub returns-clause-text : goal.returns-clause-text
returns-clause-text c = other_print

pub returns-clause-status : goal.returns-clause-status
returns-clause-status c = other_status
