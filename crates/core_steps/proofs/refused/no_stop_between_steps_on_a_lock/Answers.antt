use Rattle.core_steps.proofs.Refuted.{stop_at_stage_fails}
use Rattle.core_steps.proofs.SmallWorlds.{comes_seized, no_stop_between}
use Rattle.core_steps.proofs.refused.no_stop_between_steps_on_a_lock.Goals as goal

pub returns-clause-refused : goal.returns-clause-refused
returns-clause-refused c heap k fresh v e stage at_first = stop_at_stage_fails heap k fresh v at_first e stage

pub returns-clause-there : goal.returns-clause-there
returns-clause-there c e = (comes_seized, no_stop_between e)
