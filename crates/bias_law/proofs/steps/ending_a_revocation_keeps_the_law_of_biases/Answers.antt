use Rattle.bias_law.proofs.bias.RevocationEnds.{revocation_ended}
use Rattle.bias_law.proofs.bias.RevocationLooks.{revocation_looked}
use Rattle.bias_law.proofs.steps.ending_a_revocation_keeps_the_law_of_biases.Goals as goal

pub returns : goal.returns
returns c = record { released = revocation_ended; looked = revocation_looked }
