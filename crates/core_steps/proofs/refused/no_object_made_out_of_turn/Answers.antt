use Rattle.core_steps.proofs.Refuted.{any_object_fails}
use Rattle.core_steps.proofs.SmallWorlds.{comes_running, no_other_object}
use Rattle.core_steps.proofs.refused.no_object_made_out_of_turn.Goals as goal

pub returns-clause-refused : goal.returns-clause-refused
returns-clause-refused c heap k fresh v o cl m at_first = any_object_fails heap k fresh v at_first o cl m

pub returns-clause-there : goal.returns-clause-there
returns-clause-there c cl m = (comes_running, no_other_object cl m)
