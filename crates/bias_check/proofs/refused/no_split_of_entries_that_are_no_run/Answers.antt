use Rattle.bias_check.proofs.Refuted.{another_machine, not_asked, out_of_order}
use Rattle.bias_check.proofs.refused.no_split_of_entries_that_are_no_run.Goals as goal

pub returns-clause-order : goal.returns-clause-order
returns-clause-order c p fuel t x y m = out_of_order p fuel m t x y

pub returns-clause-asked : goal.returns-clause-asked
returns-clause-asked c = not_asked

pub returns-clause-machine : goal.returns-clause-machine
returns-clause-machine c p fuel m = another_machine p fuel m
