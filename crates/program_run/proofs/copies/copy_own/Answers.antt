use Rattle.std.proofs.Common.{◌∙◌, ap}
use Rattle.program_run.specs.Left.{shot_left}
use Rattle.program_run.proofs.Pushed.{all_pushed, pushed_on}
use Rattle.program_run.proofs.copies.copy_own.Goals as goal

pub loop-shot-init : goal.loop-shot-init
loop-shot-init c = c.in_ok-copied.ensures.items

pub loop-shot-preserved : goal.loop-shot-preserved
loop-shot-preserved c =
    pushed_on shot_left c.args.shots.now c.loop-shot.shot-index c.shot-item.result _ _ _ c.loop-shot-test.true c.loop-shot.invariant
    c.in_ok-push.ensures.items (c.in_ok-copy_shot.ensures ∙ ap shot_left c.shot-item.is)

pub returns : goal.returns
returns c = c.of.ensures ∙ all_pushed shot_left c.args.shots.now c.loop-shot.shot-index _ c.loop-shot-test.false c.loop-shot.invariant
