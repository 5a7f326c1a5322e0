use Rattle.journal_laws.proofs.RefusedJournals.{not_ended, not_stuck}
use Rattle.journal_laws.proofs.refused.no_other_state_of_a_machine_that_is_over.Goals as goal

pub returns-clause-ended : goal.returns-clause-ended
returns-clause-ended c = not_ended

pub returns-clause-stuck : goal.returns-clause-stuck
returns-clause-stuck c = not_stuck
