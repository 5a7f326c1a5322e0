use Rattle.std.proofs.Common.{◌≡◌, length}
use Rattle.plain_monitor.specs.Limits.{most_threads}
use Rattle.object_monitor.proofs.Looking.{Looked}
use Rattle.object_monitor.proofs.notifies.look.Given as goal

-- so many waiting words were looked at
abbrev pub invariant-loop-thread : goal.invariant-loop-thread
invariant-loop-thread l = Looked l.heap l.call l.fn.pass l.pass l.heap.heap.shape.threads l.thread l.words × (length l.words ≡ most_threads)
