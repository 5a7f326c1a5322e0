use Rattle.core_world.specs.declared.word_id.WordId.TheVariants.{Waiting}
use Rattle.core_world.specs.Trees.DeflateSteps.{look_at}
use Rattle.safepoint_work.specs.inner.DeflateParts.{untouched_steps, untouched_with}
use Rattle.safepoint_work.proofs.Rounds.{AnswersLeft}
use Rattle.safepoint_work.proofs.deflates.all_untouched.Given as goal

abbrev pub invariant-loop-thread : goal.invariant-loop-thread
invariant-loop-thread l = AnswersLeft l.heap l.call.task l.fn.pass (untouched_steps l.heap.heap.shape l.call l.stage l.object)
    l.heap.heap.shape.threads (λ t. look_at l.call l.stage (Waiting t)) (untouched_with l.object l.untouched) l.thread l.pass
