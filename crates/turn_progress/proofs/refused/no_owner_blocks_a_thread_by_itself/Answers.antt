use Rattle.turn_progress.proofs.Unbarred.{no_owner_bars, no_halt_bars}
use Rattle.turn_progress.proofs.refused.no_owner_blocks_a_thread_by_itself.Goals as goal

pub returns-clause-owner : goal.returns-clause-owner
returns-clause-owner c = no_owner_bars

pub returns-clause-halt : goal.returns-clause-halt
returns-clause-halt c = no_halt_bars
