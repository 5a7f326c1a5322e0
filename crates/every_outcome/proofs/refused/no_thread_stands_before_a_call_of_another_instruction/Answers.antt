use Rattle.every_outcome.proofs.WrongMachines.{end_not, two_not}
use Rattle.every_outcome.proofs.refused.no_thread_stands_before_a_call_of_another_instruction.Goals as goal

pub returns-clause-end : goal.returns-clause-end
returns-clause-end c = end_not

pub returns-clause-two : goal.returns-clause-two
returns-clause-two c = two_not
