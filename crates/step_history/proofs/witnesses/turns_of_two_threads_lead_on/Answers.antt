use Rattle.step_history.proofs.Exemplified.{taken}
use Rattle.step_history.proofs.witnesses.turns_of_two_threads_lead_on.Goals as goal

pub returns : goal.returns
returns c = taken
