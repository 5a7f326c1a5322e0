use Rattle.std.proofs.Common.{◌≡◌, max, drop}
use Rattle.object_program.specs.Program.{most_in_code}
use Rattle.object_program.proofs.shape.most_in_code.Given as goal

abbrev pub invariant-loop-instruction : goal.invariant-loop-instruction
invariant-loop-instruction l = max l.most (most_in_code l.classes (drop l.instruction-index l.code)) ≡ most_in_code l.classes l.code
