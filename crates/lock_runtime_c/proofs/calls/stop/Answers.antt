use Rattle.std.proofs.Common.{refl}
use Rattle.lock_runtime_c.proofs.calls.stop.Goals as goal

pub returns-clause-made : goal.returns-clause-made
returns-clause-made c = (c.stop.result, refl, c.stop.ensures.run.ran, c.stop.ensures.says, c.stop.ensures.stands)
