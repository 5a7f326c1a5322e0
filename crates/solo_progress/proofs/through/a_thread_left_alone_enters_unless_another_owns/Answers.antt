use Rattle.solo_progress.proofs.Exact.{enters_exactly}
use Rattle.solo_progress.proofs.through.a_thread_left_alone_enters_unless_another_owns.Goals as goal

pub returns : goal.returns
returns c = enters_exactly
