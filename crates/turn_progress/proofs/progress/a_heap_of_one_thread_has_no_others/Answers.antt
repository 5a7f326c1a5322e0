use Rattle.turn_progress.proofs.Lone.{lone_others}
use Rattle.turn_progress.proofs.progress.a_heap_of_one_thread_has_no_others.Goals as goal

pub returns : goal.returns
returns c = lone_others
