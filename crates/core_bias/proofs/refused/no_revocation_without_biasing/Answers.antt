use Rattle.core_bias.proofs.WithoutBiasing.{unbiased_breaks}
use Rattle.core_bias.proofs.refused.no_revocation_without_biasing.Goals as goal

pub returns : goal.returns
returns c = unbiased_breaks
