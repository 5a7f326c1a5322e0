use Rattle.core_world.proofs.enter_exit.OwnersShown.{running_fits}
use Rattle.core_world.proofs.shown.all_clauses_hold_while_a_thread_runs.Goals as goal

pub returns : goal.returns
returns c = running_fits
