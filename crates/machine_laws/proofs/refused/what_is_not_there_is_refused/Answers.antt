use Rattle.machine_laws.proofs.RefusedEntries.{not_there}
use Rattle.machine_laws.proofs.refused.what_is_not_there_is_refused.Goals as goal

pub returns : goal.returns
returns c = not_there
