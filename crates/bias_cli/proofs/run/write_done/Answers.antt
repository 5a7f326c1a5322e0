use Rattle.std.proofs.Common.{refl, inr}
use Rattle.bias_cli.proofs.run.write_done.Goals as goal

pub returns-in-Err : goal.returns-in-Err
returns-in-Err g c = inr (refl, c.in-Err.ensures.failed, c.in-Err.ensures.front)
