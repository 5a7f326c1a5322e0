use Rattle.outcome_search.proofs.KnownEnds.{first_stuck_is, first_faulted_is, no_first_stuck, no_first_faulted}
use Rattle.outcome_search.proofs.laws.first_ends_are_such_ends.Goals as goal

pub returns-clause-stuck : goal.returns-clause-stuck
returns-clause-stuck c = first_stuck_is

pub returns-clause-faulted : goal.returns-clause-faulted
returns-clause-faulted c = first_faulted_is

pub returns-clause-no_stuck : goal.returns-clause-no_stuck
returns-clause-no_stuck c = no_first_stuck

pub returns-clause-no_faulted : goal.returns-clause-no_faulted
returns-clause-no_faulted c = no_first_faulted
