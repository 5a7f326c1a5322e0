use Rattle.core_steps.proofs.Refuted.{early_cleaning_fails}
use Rattle.core_steps.proofs.SmallWorlds.{comes_reached, no_early_cleaning}
use Rattle.core_steps.proofs.refused.no_header_cleared_before_the_mark.Goals as goal

pub returns-clause-refused : goal.returns-clause-refused
returns-clause-refused c heap k fresh v e stage o m header at_first = early_cleaning_fails heap k fresh v at_first e stage o m header

pub returns-clause-there : goal.returns-clause-there
returns-clause-there c e header = (comes_reached, no_early_cleaning e header)
