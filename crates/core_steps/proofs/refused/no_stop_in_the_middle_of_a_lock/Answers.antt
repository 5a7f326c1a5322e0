use Rattle.core_steps.proofs.safepoint.RefutedStops.{stop_between_fails, stop_counting_fails}
use Rattle.core_steps.proofs.SmallWorlds.{comes_seized, no_stop_seized}
use Rattle.core_steps.proofs.refused.no_stop_in_the_middle_of_a_lock.Goals as goal

pub returns-clause-refused : goal.returns-clause-refused
returns-clause-refused c heap k fresh v e at_first runs between does = stop_between_fails heap k fresh v at_first e runs does between

pub returns-clause-counting : goal.returns-clause-counting
returns-clause-counting c heap k fresh v e o m at_first runs names takes_over at does =
    stop_counting_fails heap k fresh v at_first e runs does o m names takes_over at

pub returns-clause-there : goal.returns-clause-there
returns-clause-there c e = (comes_seized, no_stop_seized e)
