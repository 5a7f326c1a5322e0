use Rattle.solo_progress.proofs.QuietWords.{moves_alone}
use Rattle.solo_progress.proofs.witnesses.a_thread_can_move_alone.Goals as goal

pub returns : goal.returns
returns c = moves_alone
