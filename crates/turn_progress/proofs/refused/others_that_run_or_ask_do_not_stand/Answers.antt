use Rattle.turn_progress.proofs.Unbarred.{no_other_runs, no_other_asks, no_thread}
use Rattle.turn_progress.proofs.refused.others_that_run_or_ask_do_not_stand.Goals as goal

pub returns-clause-runs : goal.returns-clause-runs
returns-clause-runs c = no_other_runs

pub returns-clause-asks : goal.returns-clause-asks
returns-clause-asks c = no_other_asks

pub returns-clause-absent : goal.returns-clause-absent
returns-clause-absent c = no_thread
