use Rattle.machine_laws.proofs.ReachedRange.{owner_in_range, count_in_range, holds_in_range, waits_in_range, called_in_range, local_in_range}
use Rattle.machine_laws.proofs.ReachedRange.{slot_in_range, taken_in_range, offer_in_range, dump_in_range, dumped_in_range}
use Rattle.machine_laws.proofs.laws.reached_machines_are_in_range.Goals as goal

pub returns-clause-owner : goal.returns-clause-owner
returns-clause-owner c = owner_in_range

pub returns-clause-waits : goal.returns-clause-waits
returns-clause-waits c = waits_in_range

pub returns-clause-called : goal.returns-clause-called
returns-clause-called c = called_in_range

pub returns-clause-local_value : goal.returns-clause-local_value
returns-clause-local_value c = local_in_range

pub returns-clause-slot_value : goal.returns-clause-slot_value
returns-clause-slot_value c = slot_in_range

pub returns-clause-taken : goal.returns-clause-taken
returns-clause-taken c = taken_in_range

pub returns-clause-offer : goal.returns-clause-offer
returns-clause-offer c = offer_in_range

pub returns-clause-dump : goal.returns-clause-dump
returns-clause-dump c = dump_in_range

pub returns-clause-count : goal.returns-clause-count
returns-clause-count c = count_in_range

pub returns-clause-holds : goal.returns-clause-holds
returns-clause-holds c = holds_in_range

pub returns-clause-dumped : goal.returns-clause-dumped
returns-clause-dumped c = dumped_in_range
