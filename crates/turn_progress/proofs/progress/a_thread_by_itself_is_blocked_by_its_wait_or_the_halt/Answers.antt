use Rattle.turn_progress.proofs.Lone.{own_bars}
use Rattle.turn_progress.proofs.progress.a_thread_by_itself_is_blocked_by_its_wait_or_the_halt.Goals as goal

pub returns : goal.returns
returns c = own_bars
