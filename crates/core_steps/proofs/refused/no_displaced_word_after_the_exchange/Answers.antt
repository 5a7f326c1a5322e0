use Rattle.core_steps.proofs.Refuted.{late_displaced_fails}
use Rattle.core_steps.proofs.SmallWorlds.{comes_running, no_late_displaced}
use Rattle.core_steps.proofs.refused.no_displaced_word_after_the_exchange.Goals as goal

pub returns-clause-refused : goal.returns-clause-refused
returns-clause-refused c heap k fresh v e o mark at_first = late_displaced_fails heap k fresh v at_first e o mark

pub returns-clause-there : goal.returns-clause-there
returns-clause-there c e = (comes_running, no_late_displaced e)
