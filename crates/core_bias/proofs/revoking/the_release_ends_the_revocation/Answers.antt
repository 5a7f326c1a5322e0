use Rattle.core_bias.proofs.Wholes.{release_fits}
use Rattle.core_bias.proofs.revoking.the_release_ends_the_revocation.Goals as goal

pub returns : goal.returns
returns c = release_fits
