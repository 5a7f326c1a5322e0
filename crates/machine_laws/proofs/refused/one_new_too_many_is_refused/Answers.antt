use Rattle.machine_laws.proofs.RefusedEntries.{too_many}
use Rattle.machine_laws.proofs.refused.one_new_too_many_is_refused.Goals as goal

pub returns : goal.returns
returns c = too_many
