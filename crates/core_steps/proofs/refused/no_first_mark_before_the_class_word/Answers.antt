use Rattle.core_steps.proofs.Refuted.{early_mark_fails}
use Rattle.core_steps.proofs.SmallWorlds.{comes_running, no_early_mark}
use Rattle.core_steps.proofs.refused.no_first_mark_before_the_class_word.Goals as goal

pub returns-clause-refused : goal.returns-clause-refused
returns-clause-refused c heap k fresh v e o cl m at_first = early_mark_fails heap k fresh v at_first e o cl m

pub returns-clause-there : goal.returns-clause-there
returns-clause-there c e o cl m = (comes_running, no_early_mark e o cl m)
