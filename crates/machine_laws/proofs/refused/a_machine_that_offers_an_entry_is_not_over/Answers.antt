use Rattle.machine_laws.proofs.WrongMachines.{over_not, offers_not, stuck_not}
use Rattle.machine_laws.proofs.refused.a_machine_that_offers_an_entry_is_not_over.Goals as goal

pub returns-clause-over : goal.returns-clause-over
returns-clause-over c = over_not

pub returns-clause-offers : goal.returns-clause-offers
returns-clause-offers c = offers_not

pub returns-clause-stuck : goal.returns-clause-stuck
returns-clause-stuck c = stuck_not
