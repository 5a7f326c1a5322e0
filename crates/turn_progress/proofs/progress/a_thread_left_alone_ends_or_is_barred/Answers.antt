use Rattle.turn_progress.proofs.Turned.{ends_or_barred}
use Rattle.turn_progress.proofs.progress.a_thread_left_alone_ends_or_is_barred.Goals as goal

pub returns : goal.returns
returns c = ends_or_barred
