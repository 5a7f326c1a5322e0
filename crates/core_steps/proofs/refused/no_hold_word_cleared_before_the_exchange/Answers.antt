use Rattle.core_steps.proofs.Refuted.{early_clearing_fails}
use Rattle.core_steps.proofs.SmallWorlds.{comes_entered, no_early_clearing}
use Rattle.core_steps.proofs.refused.no_hold_word_cleared_before_the_exchange.Goals as goal

pub returns-clause-refused : goal.returns-clause-refused
returns-clause-refused c heap k fresh v e o header mark at_first = early_clearing_fails heap k fresh v at_first e o header mark

pub returns-clause-there : goal.returns-clause-there
returns-clause-there c e header mark = (comes_entered, no_early_clearing e header mark)
