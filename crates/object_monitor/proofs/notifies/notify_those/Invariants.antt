use Rattle.std.proofs.Common.{◌≡◌, length}
use Rattle.plain_monitor.specs.Limits.{most_threads}
use Rattle.object_monitor.specs.inner.NotifyParts.{notify_those}
use Rattle.object_monitor.proofs.Waking.{Waking, waiting}
use Rattle.object_monitor.proofs.notifies.notify_those.Given as goal

-- This thread is on its way, as so many others were notified, and who still waits by the words is left.
abbrev pub invariant-loop-next : goal.invariant-loop-next
invariant-loop-next l =
    let n = l.heap.heap.shape.threads in
    let all = waiting l.object n l.fn.words in
    Waking l.heap l.call (notify_those all l.call l.object) l.fn.pass l.pass l.object n (length all) l.words l.thread l.woken × (length l.words ≡ most_threads)

abbrev pub decreases-loop-next : goal.decreases-loop-next
decreases-loop-next l = length (waiting l.object l.heap.heap.shape.threads l.words)
