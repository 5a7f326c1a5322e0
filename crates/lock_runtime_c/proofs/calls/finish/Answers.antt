use Rattle.std.proofs.Common.{refl}
use Rattle.lock_runtime_c.proofs.calls.finish.Goals as goal

pub returns-clause-made : goal.returns-clause-made
returns-clause-made c = (c.finish.result, refl, c.finish.ensures.run.ran, c.finish.ensures.says, c.finish.ensures.stands)
