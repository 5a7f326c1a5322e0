use Rattle.core_world.specs.Trees.RevocationSteps.{walk_steps}
use Rattle.safepoint_work.specs.inner.RevokeParts.{visit_by, thread_steps}
use Rattle.safepoint_work.proofs.Rounds.{RoundsLeft}
use Rattle.safepoint_work.proofs.walks.walk.Given as goal

abbrev pub invariant-loop-thread : goal.invariant-loop-thread
invariant-loop-thread l = RoundsLeft l.heap l.call.task l.fn.pass
    (walk_steps l.heap.heap.shape l.class l.call l.revocation (visit_by l.how l.call l.revocation)) l.heap.heap.shape.threads
    (λ t. thread_steps l.heap.heap.shape l.class l.call l.revocation l.how t) l.thread l.pass
