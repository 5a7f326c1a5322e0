use Rattle.core_world.specs.Trees.LookSteps.{stands_still_steps}
use Rattle.heap_census.specs.inner.StandParts.{look_at_thread, stands_with}
use Rattle.heap_census.proofs.Rounds.{AnswersLeft}
use Rattle.heap_census.proofs.stands.stands_still.Given as goal

abbrev pub invariant-loop-thread : goal.invariant-loop-thread
invariant-loop-thread l = AnswersLeft l.heap l.call.task l.fn.pass (stands_still_steps l.call l.heap.heap.shape) l.heap.heap.shape.threads
    (look_at_thread l.call) (stands_with l.live l.still) l.thread l.pass
