use Rattle.plain_monitor.specs.Limits.{most_holds}
use Rattle.safepoint_work.specs.inner.RevokeParts.{place_steps, thread_steps}
use Rattle.safepoint_work.proofs.Rounds.{RoundsLeft}
use Rattle.safepoint_work.proofs.walks.walk_thread.Given as goal

abbrev pub invariant-loop-place : goal.invariant-loop-place
invariant-loop-place l = RoundsLeft l.heap l.call.task l.fn.pass
    (thread_steps l.heap.heap.shape l.class l.call l.revocation l.how l.thread) most_holds
    (λ p. place_steps l.heap.heap.shape l.class l.call l.revocation l.how l.thread p) l.place l.pass
