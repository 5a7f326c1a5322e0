use Rattle.machine_laws.proofs.ReachedOver.{offering_nothing_is_over, stuck_offers_nothing, ended_offers_nothing, ended_is_not_stuck}
use Rattle.machine_laws.proofs.laws.a_machine_that_offers_nothing_is_over.Goals as goal

pub returns-clause-over : goal.returns-clause-over
returns-clause-over c = offering_nothing_is_over

pub returns-clause-stuck : goal.returns-clause-stuck
returns-clause-stuck c = stuck_offers_nothing

pub returns-clause-ended : goal.returns-clause-ended
returns-clause-ended c = ended_offers_nothing

pub returns-clause-apart : goal.returns-clause-apart
returns-clause-apart c = ended_is_not_stuck
