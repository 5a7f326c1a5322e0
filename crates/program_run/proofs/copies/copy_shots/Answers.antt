use Rattle.std.proofs.Common.{◌∙◌, ap}
use Rattle.program_run.specs.Left.{shots_left}
use Rattle.program_run.proofs.Pushed.{all_pushed, pushed_on}
use Rattle.program_run.proofs.copies.copy_shots.Goals as goal

pub loop-own-init : goal.loop-own-init
loop-own-init c = c.in_ok-copied.ensures.items

pub loop-own-preserved : goal.loop-own-preserved
loop-own-preserved c =
    pushed_on shots_left c.args.shots.now c.loop-own.own-index c.own-item.result _ _ _ c.loop-own-test.true c.loop-own.invariant
    c.in_ok-push.ensures.items (c.in_ok-copy_own.ensures ∙ ap shots_left (c.items.ensures ∙ c.own-item.is))

pub returns : goal.returns
returns c = c.of.ensures ∙ all_pushed shots_left c.args.shots.now c.loop-own.own-index _ c.loop-own-test.false c.loop-own.invariant
