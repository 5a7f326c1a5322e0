use Rattle.machine_laws.proofs.WrongMachines.{owner_not, count_not, waits_not, called_not, holds_not, local_not, slot_not, taken_not, offer_not, dumped_not, dump_not, text_not}
use Rattle.machine_laws.proofs.refused.no_machine_out_of_range_is_reached.Goals as goal

pub returns-clause-owner : goal.returns-clause-owner
returns-clause-owner c = owner_not

pub returns-clause-count : goal.returns-clause-count
returns-clause-count c = count_not

pub returns-clause-waits : goal.returns-clause-waits
returns-clause-waits c = waits_not

pub returns-clause-called : goal.returns-clause-called
returns-clause-called c = called_not

pub returns-clause-holds : goal.returns-clause-holds
returns-clause-holds c = holds_not

pub returns-clause-local_value : goal.returns-clause-local_value
returns-clause-local_value c = local_not

pub returns-clause-slot_value : goal.returns-clause-slot_value
returns-clause-slot_value c = slot_not

pub returns-clause-taken : goal.returns-clause-taken
returns-clause-taken c = taken_not

pub returns-clause-offer : goal.returns-clause-offer
returns-clause-offer c = offer_not

pub returns-clause-dumped : goal.returns-clause-dumped
returns-clause-dumped c = dumped_not

pub returns-clause-dump : goal.returns-clause-dump
returns-clause-dump c = dump_not

pub returns-clause-text : goal.returns-clause-text
returns-clause-text c = text_not
