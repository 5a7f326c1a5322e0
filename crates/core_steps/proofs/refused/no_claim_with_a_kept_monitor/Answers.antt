use Rattle.core_steps.proofs.Refuted.{always_claiming_fails}
use Rattle.core_steps.proofs.SmallWorlds.{comes_keeping, no_always_claiming}
use Rattle.core_steps.proofs.refused.no_claim_with_a_kept_monitor.Goals as goal

pub returns-clause-refused : goal.returns-clause-refused
returns-clause-refused c heap k fresh v e o mark m at_first = always_claiming_fails heap k fresh v at_first e o mark m

pub returns-clause-there : goal.returns-clause-there
returns-clause-there c e = (comes_keeping, no_always_claiming e)
