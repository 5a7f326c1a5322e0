use Rattle.core_locks.proofs.wait.RefutedWaits.{no_halt_while_one_can_go_on}
use Rattle.core_locks.proofs.refused.wait.no_halt_while_one_can_go_on.Goals as goal

pub returns : goal.returns
returns c = no_halt_while_one_can_go_on
