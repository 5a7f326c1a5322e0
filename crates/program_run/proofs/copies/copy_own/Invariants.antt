use Rattle.std.proofs.Common.{◌≡◌, take}
use Rattle.program_run.specs.Left.{shots_left}
use Rattle.program_run.proofs.copies.copy_own.Given as goal

abbrev pub invariant-loop-shot : goal.invariant-loop-shot
invariant-loop-shot l = l.copied.items ≡ shots_left (take l.shot-index l.shots)
