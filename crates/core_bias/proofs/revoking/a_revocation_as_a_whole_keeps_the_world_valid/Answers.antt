use Rattle.core_bias.proofs.Wholes.{whole_valid}
use Rattle.core_bias.proofs.revoking.a_revocation_as_a_whole_keeps_the_world_valid.Goals as goal

pub returns : goal.returns
returns c = whole_valid
