use Rattle.bias_law.proofs.bias.Walks.{revokes_gently}
use Rattle.bias_law.proofs.laws.a_revocation_is_gentle.Goals as goal

pub returns : goal.returns
returns c = revokes_gently
