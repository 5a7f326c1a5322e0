use Rattle.core_bias.proofs.RefusedReleases.{no_revoked}
use Rattle.core_bias.proofs.refused.no_release_with_a_held_object_of_a_revoked_class.Goals as goal

pub returns : goal.returns
returns c = no_revoked
