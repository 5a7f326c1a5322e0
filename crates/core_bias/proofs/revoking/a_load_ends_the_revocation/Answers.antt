use Rattle.core_bias.proofs.LoadEnds.{load_fits}
use Rattle.core_bias.proofs.TakesThere.{load_takes}
use Rattle.core_bias.proofs.revoking.a_load_ends_the_revocation.Goals as goal

pub returns : goal.returns
returns c = record { calm = load_fits; taking = λ w objects t e b at o within may valid. load_takes w objects t e b at o within may valid }
