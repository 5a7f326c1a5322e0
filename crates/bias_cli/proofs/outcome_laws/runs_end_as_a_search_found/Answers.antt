use Rattle.bias_cli.proofs.RunsFound.{run_found, run_not_stuck, run_status}
use Rattle.bias_cli.proofs.outcome_laws.runs_end_as_a_search_found.Goals as goal

pub returns-clause-found : goal.returns-clause-found
returns-clause-found c = run_found

pub returns-clause-stuck : goal.returns-clause-stuck
returns-clause-stuck c = run_not_stuck

pub returns-clause-status : goal.returns-clause-status
returns-clause-status c = run_status
