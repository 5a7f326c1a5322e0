use Rattle.std.proofs.Common.{◌≡◌, ◌++◌, length, take}
use Rattle.plain_monitor.specs.Limits.{most_holds}
use Rattle.core_world.specs.declared.word_id.WordId.TheVariants.{Hold}
use Rattle.core_world.specs.Trees.RevocationSteps.{look}
use Rattle.core_world.specs.Trees.StepTree.{done}
use Rattle.safepoint_work.specs.inner.RevokeParts.{holds_steps}
use Rattle.safepoint_work.proofs.Rounds.{AnswersLeft}
use Rattle.safepoint_work.proofs.revokes.load_holds.Given as goal

abbrev pub invariant-loop-i : goal.invariant-loop-i
invariant-loop-i l =
    (length l.holds ≡ most_holds) × AnswersLeft l.heap l.call.task l.fn.pass (holds_steps l.call l.revocation l.thread) most_holds
    (λ p. look l.call l.revocation (Hold l.thread p)) (λ others. done (take l.i l.holds ++ others)) l.i l.pass
