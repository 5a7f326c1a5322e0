use Rattle.machine_laws.proofs.RefusedEntries.{other_number}
use Rattle.machine_laws.proofs.refused.a_new_by_another_number_is_refused.Goals as goal

pub returns : goal.returns
returns c = other_number
