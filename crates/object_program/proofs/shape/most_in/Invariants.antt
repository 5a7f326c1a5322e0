use Rattle.std.proofs.Common.{◌≡◌, max, drop}
use Rattle.object_program.specs.Program.{most_in}
use Rattle.object_program.proofs.shape.most_in.Given as goal

abbrev pub invariant-loop-thread : goal.invariant-loop-thread
invariant-loop-thread l = max l.most (most_in l.classes (drop l.thread-index l.threads)) ≡ most_in l.classes l.threads
