use Rattle.closed_heap_laws.proofs.Monitors.{monitors_are_apart}
use Rattle.closed_heap_laws.proofs.laws.monitors_at_the_end_are_apart.Goals as goal

pub returns : goal.returns
returns c = monitors_are_apart
