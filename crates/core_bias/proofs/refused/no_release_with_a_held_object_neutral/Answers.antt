use Rattle.core_bias.proofs.RefusedReleases.{no_neutral}
use Rattle.core_bias.proofs.refused.no_release_with_a_held_object_neutral.Goals as goal

pub returns : goal.returns
returns c = no_neutral
