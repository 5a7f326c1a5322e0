use Rattle.core_made.proofs.Revoked.{revoking_keeps}
use Rattle.core_made.proofs.laws.a_revocation_keeps_what_is_there.Goals as goal

pub returns : goal.returns
returns c w objects s law = revoking_keeps w objects s law
