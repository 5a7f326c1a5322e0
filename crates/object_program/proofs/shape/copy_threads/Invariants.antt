use Rattle.std.proofs.Common.{◌≡◌, take}
use Rattle.object_program.proofs.shape.copy_threads.Given as goal

abbrev pub invariant-loop-thread : goal.invariant-loop-thread
invariant-loop-thread l = l.copied.items ≡ take l.thread-index l.threads
