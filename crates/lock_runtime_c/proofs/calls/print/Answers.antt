use Rattle.std.proofs.Common.{refl}
use Rattle.lock_runtime_c.proofs.calls.print.Goals as goal

pub returns-clause-made : goal.returns-clause-made
returns-clause-made c = (c.print.result, refl, c.print.ensures.run.ran, c.print.ensures.says, c.print.ensures.stands)
