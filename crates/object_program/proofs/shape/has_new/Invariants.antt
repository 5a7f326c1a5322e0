use Rattle.std.proofs.Common.{◌≡◌, drop}
use Rattle.object_program.specs.Program.{has_new}
use Rattle.object_program.proofs.shape.has_new.Given as goal

abbrev pub invariant-loop-thread : goal.invariant-loop-thread
invariant-loop-thread l = has_new (drop l.thread-index l.threads) ≡ has_new l.threads
