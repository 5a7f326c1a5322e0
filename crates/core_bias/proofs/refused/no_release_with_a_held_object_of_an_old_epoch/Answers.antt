use Rattle.core_bias.proofs.RefusedReleases.{no_old_epoch}
use Rattle.core_bias.proofs.refused.no_release_with_a_held_object_of_an_old_epoch.Goals as goal

pub returns : goal.returns
returns c = no_old_epoch
