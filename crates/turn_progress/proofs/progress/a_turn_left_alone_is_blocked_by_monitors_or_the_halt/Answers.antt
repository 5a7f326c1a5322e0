use Rattle.turn_progress.proofs.Barred.{blocked_barred}
use Rattle.turn_progress.proofs.progress.a_turn_left_alone_is_blocked_by_monitors_or_the_halt.Goals as goal

pub returns : goal.returns
returns c = blocked_barred
