use Rattle.core_world.specs.Trees.DeflateSteps.{deflate_monitor, deflate_steps}
use Rattle.core_world.specs.Words.Shape.{monitor_count}
use Rattle.safepoint_work.proofs.Rounds.{RoundsLeft}
use Rattle.safepoint_work.proofs.deflates.deflate_idle.Given as goal

abbrev pub invariant-loop-monitor : goal.invariant-loop-monitor
invariant-loop-monitor l = RoundsLeft l.heap l.call.task l.fn.pass (deflate_steps l.heap.heap.shape l.call l.stage) (monitor_count l.heap.heap.shape)
    (λ m. deflate_monitor l.heap.heap.shape l.call l.stage m) l.monitor l.pass
