use Rattle.std.proofs.Common.{◌≡◌, refl, sym, ap, ◌∙◌, Option, Some}
use Rattle.mark_word.specs.declared.mark.MarkForm.{MarkForm}
use Rattle.mark_word.specs.Mark.{read_mark}
use Rattle.core_world.specs.Trees.MonitorSteps.{inflate_with}
use Rattle.heap_table.proofs.StepsLeft.{AreLeft, all_left, left_as, never}
use Rattle.object_monitor.proofs.Inflating.{never_with}
use Rattle.object_monitor.proofs.inflates.inflate_with.Goals as goal
use Rattle.object_monitor.proofs.inflates.inflate_with.Goals.{After-mark_of_word}

by_form : (c : After-mark_of_word) (f : Option MarkForm) → c.mark_of_word.result ≡ f → AreLeft c.args.heap.now c.args.call.now.task c.args.pass.now
    (inflate_with (read_mark c.args.mark) c.args.call.now c.args.object c.args.mark c.args.monitor) c.args.pass.now
    (inflate_with f c.args.call.now c.args.object c.args.mark c.args.monitor)
by_form c f form = left_as (all_left c.requires.heap c.requires.due)
    (ap (λ (f : Option MarkForm). inflate_with f c.args.call.now c.args.object c.args.mark c.args.monitor) (sym c.mark_of_word.ensures ∙ form))

pub inflate_locked-requires-clause-due : goal.inflate_locked-requires-clause-due
inflate_locked-requires-clause-due c =
    (by_form (goal.at.inflate_locked-requires-clause-due c).After-mark_of_word _ (c.in-Some.is ∙ ap Some c.in-Locked.is)).due

pub inflate_neutral-requires-clause-due : goal.inflate_neutral-requires-clause-due
inflate_neutral-requires-clause-due c =
    (by_form (goal.at.inflate_neutral-requires-clause-due c).After-mark_of_word _ (c.in-Some.is ∙ ap Some c.in-Neutral.is)).due

pub unreachable-requires : goal.unreachable-requires
unreachable-requires c = never (by_form (goal.at.unreachable-requires c).After-mark_of_word _ c.in-Some.is)
    (never_with c.in-Some.form _ _ _ _ c.in_default.not-Locked c.in_default.not-Neutral)

pub unreachable-requires-in-None : goal.unreachable-requires-in-None
unreachable-requires-in-None c = never (by_form (goal.at.unreachable-requires-in-None c).After-mark_of_word _ c.in-None.is) refl

pub returns-in-Locked : goal.returns-in-Locked
returns-in-Locked c =
    (by_form (goal.at.returns-in-Locked c).After-mark_of_word _ (c.in-Some.is ∙ ap Some c.in-Locked.is)).whole _ _ c.inflate_locked.ensures

pub returns-in-Neutral : goal.returns-in-Neutral
returns-in-Neutral c =
    (by_form (goal.at.returns-in-Neutral c).After-mark_of_word _ (c.in-Some.is ∙ ap Some c.in-Neutral.is)).whole _ _ c.inflate_neutral.ensures
