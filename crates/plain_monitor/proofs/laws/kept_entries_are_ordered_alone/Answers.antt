use Rattle.plain_monitor.proofs.Keeping.{kept_order}
use Rattle.plain_monitor.proofs.laws.kept_entries_are_ordered_alone.Goals as goal

pub returns : goal.returns
returns c = kept_order
