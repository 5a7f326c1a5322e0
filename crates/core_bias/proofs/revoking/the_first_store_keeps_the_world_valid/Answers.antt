use Rattle.core_bias.proofs.Wholes.{begin_valid, begin_revokes}
use Rattle.core_bias.proofs.revoking.the_first_store_keeps_the_world_valid.Goals as goal

pub returns-clause-keeps : goal.returns-clause-keeps
returns-clause-keeps c = begin_valid

pub returns-clause-begins : goal.returns-clause-begins
returns-clause-begins c = begin_revokes
