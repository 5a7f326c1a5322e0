use Rattle.machine_laws.proofs.ReachedEntries.{progress}
use Rattle.machine_laws.proofs.laws.each_entry_uses_up_work.Goals as goal

pub returns : goal.returns
returns c = λ m n t e h takes. (progress m n t e h takes).work
