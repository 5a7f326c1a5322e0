use Rattle.heap_table.proofs.Held.{named_as}
use Rattle.heap_table.proofs.holds.names.Goals as goal

pub returns : goal.returns
returns c = named_as c.args.object c.args.word
