use Rattle.outcome_search.proofs.EveryEnds.{none_stuck, none_faulted}
use Rattle.outcome_search.proofs.laws.every_end_says_how_runs_end.Goals as goal

pub returns-clause-stuck : goal.returns-clause-stuck
returns-clause-stuck c = none_stuck

pub returns-clause-faulted : goal.returns-clause-faulted
returns-clause-faulted c = none_faulted
