use Rattle.bias_law.proofs.QuietKinds.{displaces, seizes, clears}
use Rattle.bias_law.proofs.kinds.steps_of_lock_records_keep_the_law_of_biases.Goals as goal

pub returns-clause-displaced : goal.returns-clause-displaced
returns-clause-displaced c = displaces

pub returns-clause-seized : goal.returns-clause-seized
returns-clause-seized c = seizes

pub returns-clause-cleared : goal.returns-clause-cleared
returns-clause-cleared c = clears
