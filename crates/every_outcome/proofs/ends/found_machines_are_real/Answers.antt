use Rattle.every_outcome.proofs.EnoughFuel.{found_is_real}
use Rattle.every_outcome.proofs.ends.found_machines_are_real.Goals as goal

pub returns : goal.returns
returns c = λ p top xs r some alive leads. let k = found_is_real p top xs r some alive leads in (k.machine, k.leads, k.same)
