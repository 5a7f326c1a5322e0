use Rattle.core_locks.proofs.deflation.RefutedClaims.{no_claim_of_a_keeper, no_second_claim}
use Rattle.core_locks.proofs.refused.deflation.no_claim_of_a_second_monitor.Goals as goal

pub returns-clause-kept : goal.returns-clause-kept
returns-clause-kept c = no_claim_of_a_keeper

pub returns-clause-claimed : goal.returns-clause-claimed
returns-clause-claimed c = no_second_claim
