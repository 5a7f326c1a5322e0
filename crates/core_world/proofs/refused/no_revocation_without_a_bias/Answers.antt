use Rattle.core_world.proofs.RefusedWorlds.{no_revocation_without_a_bias, no_revocation_without_biases}
use Rattle.core_world.proofs.refused.no_revocation_without_a_bias.Goals as goal

pub returns-clause-mark : goal.returns-clause-mark
returns-clause-mark c = no_revocation_without_a_bias

pub returns-clause-heap : goal.returns-clause-heap
returns-clause-heap c = no_revocation_without_biases
