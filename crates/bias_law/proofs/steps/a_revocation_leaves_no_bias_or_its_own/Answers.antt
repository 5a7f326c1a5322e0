use Rattle.bias_law.proofs.bias.ObjectLeft.{leaves_object}
use Rattle.bias_law.proofs.steps.a_revocation_leaves_no_bias_or_its_own.Goals as goal

pub returns : goal.returns
returns c = leaves_object
