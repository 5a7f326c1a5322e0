use Rattle.solo_progress.proofs.OtherAnswers.{no_owned, no_free}
use Rattle.solo_progress.proofs.refused.no_enter_left_alone_beside_the_owner.Goals as goal

pub returns-clause-owned : goal.returns-clause-owned
returns-clause-owned c = no_owned

pub returns-clause-free : goal.returns-clause-free
returns-clause-free c = no_free
