use Rattle.core_bias.proofs.Wholes.{goes_on_valid, goes_on_revokes}
use Rattle.core_bias.proofs.revoking.the_next_store_keeps_the_world_valid.Goals as goal

pub returns-clause-keeps : goal.returns-clause-keeps
returns-clause-keeps c = goes_on_valid

pub returns-clause-goes_on : goal.returns-clause-goes_on
returns-clause-goes_on c = goes_on_revokes
