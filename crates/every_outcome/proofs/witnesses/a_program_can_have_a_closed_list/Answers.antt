use Rattle.every_outcome.proofs.Printers.{own, full, led, found}
use Rattle.every_outcome.proofs.witnesses.a_program_can_have_a_closed_list.Goals as goal

pub returns-clause-own : goal.returns-clause-own
returns-clause-own c = own

pub returns-clause-full : goal.returns-clause-full
returns-clause-full c = full

pub returns-clause-led : goal.returns-clause-led
returns-clause-led c = led

pub returns-clause-found : goal.returns-clause-found
returns-clause-found c = found
