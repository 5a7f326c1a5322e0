use Rattle.every_outcome.proofs.WrongMachines.{hash_not, before_not}
use Rattle.every_outcome.proofs.refused.a_machine_that_takes_a_hash_asks_for_one.Goals as goal

pub returns-clause-taken : goal.returns-clause-taken
returns-clause-taken c = hash_not

pub returns-clause-before : goal.returns-clause-before
returns-clause-before c = before_not
