use Rattle.std.proofs.Common.{◌≡◌, map, take}
use Rattle.program_run.specs.Left.{shots_left}
use Rattle.program_run.proofs.copies.copy_shots.Given as goal

abbrev pub invariant-loop-own : goal.invariant-loop-own
invariant-loop-own l = l.copied.items ≡ map shots_left (take l.own-index l.shots)
