use Rattle.solo_progress.proofs.PairReached.{comes_alone, ready, others_bias}
use Rattle.solo_progress.proofs.witnesses.a_thread_can_be_left_alone_before_a_revocation.Goals as goal

pub returns-clause-comes : goal.returns-clause-comes
returns-clause-comes c = comes_alone

pub returns-clause-ready : goal.returns-clause-ready
returns-clause-ready c = ready

pub returns-clause-biased : goal.returns-clause-biased
returns-clause-biased c = others_bias
