use Rattle.core_bias.proofs.RefusedReleases.{no_header}
use Rattle.core_bias.proofs.refused.no_release_with_a_header_above_depth_one.Goals as goal

pub returns : goal.returns
returns c = no_header
