use Rattle.core_locks.proofs.enter_exit.EnterLogs.{logging_an_enter}
use Rattle.core_locks.proofs.enter_exit.entering.logging_an_enter_keeps_the_world_valid.Goals as goal

pub returns : goal.returns
returns c = logging_an_enter
