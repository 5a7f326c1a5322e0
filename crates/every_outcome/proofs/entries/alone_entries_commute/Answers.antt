use Rattle.every_outcome.proofs.Commute.{commutes}
use Rattle.every_outcome.proofs.entries.alone_entries_commute.Goals as goal

pub returns : goal.returns
returns c = λ m a b t u e f d own takes takes2. let k = commutes m a b t u e f d own takes takes2 in (k.machine, k.after_a, k.after_b, k.alone)
