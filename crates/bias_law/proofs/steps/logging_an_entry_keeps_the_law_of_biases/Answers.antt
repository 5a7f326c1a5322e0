use Rattle.bias_law.proofs.Logged.{entry_logged}
use Rattle.bias_law.proofs.steps.logging_an_entry_keeps_the_law_of_biases.Goals as goal

pub returns : goal.returns
returns c = entry_logged
