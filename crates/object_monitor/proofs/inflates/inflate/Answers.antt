use Rattle.std.proofs.Common.{◌≡◌, refl, sym, ap, ◌∙◌, Option, Some}
use Rattle.mark_word.specs.declared.mark.MarkForm.{MarkForm}
use Rattle.mark_word.specs.Mark.{read_mark}
use Rattle.core_world.specs.Threads.ThreadView.{ThreadView}
use Rattle.core_world.specs.Trees.MonitorSteps.{inflate_at, inflate_steps}
use Rattle.heap_table.proofs.StepsLeft.{AreLeft, all_left, can_make, step_made, left_as, all_made}
use Rattle.object_monitor.proofs.Inflated.{local_stays}
use Rattle.object_monitor.proofs.Inflating.{is_made}
use Rattle.object_monitor.proofs.inflates.inflate.Goals as goal
use Rattle.object_monitor.proofs.inflates.inflate.Goals.{After-load-mark}

pub load-mark-requires : goal.load-mark-requires
load-mark-requires c = can_make (all_left c.requires.heap c.requires.due) refl refl refl tt

-- what is left once the mark is loaded, by its form
by_form : (c : After-load-mark) (f : Option MarkForm) → read_mark c.load-mark.result ≡ f → AreLeft c.args.heap.now c.args.call.now.task c.args.pass.now
    (inflate_steps c.args.heap.now.heap.shape c.args.call.now c.args.pass.now.known.kept c.args.object) c.load-mark.new.pass
    (inflate_at f c.args.heap.now.heap.shape c.args.call.now c.load-mark.new.pass.known.kept c.args.object c.load-mark.result)
by_form c f form =
    let kept = ap (λ (x : ThreadView). x.kept) c.load-mark.ensures.known in
    left_as (step_made (all_left c.requires.heap c.requires.due) refl refl refl c.load-mark.ensures)
    (λ i. inflate_at (form i) c.args.heap.now.heap.shape c.args.call.now (sym kept i) c.args.object c.load-mark.result)

pub inflate_by-requires-clause-due : goal.inflate_by-requires-clause-due
inflate_by-requires-clause-due c =
    (left_as (by_form (goal.at.inflate_by-requires-clause-due c).After-load-mark _ (sym c.mark_of_word.ensures ∙ c.in-Some.is))
    (is_made c.in-Some.form _ _ _ _ _ c.in_default.not-Inflating c.in_default.not-Inflated)).due

pub inflate_by-requires-in-None-clause-due : goal.inflate_by-requires-in-None-clause-due
inflate_by-requires-in-None-clause-due c =
    (by_form (goal.at.inflate_by-requires-in-None-clause-due c).After-load-mark _ (sym c.mark_of_word.ensures ∙ c.in-None.is)).due

pub returns-in-Inflating-clause-run : goal.returns-in-Inflating-clause-run
returns-in-Inflating-clause-run c = all_made
    (by_form (goal.at.returns-in-Inflating-clause-run c).After-load-mark _ (sym c.mark_of_word.ensures ∙ c.in-Some.is ∙ ap Some c.in-Inflating.is))

pub returns-in-Inflated-clause-run : goal.returns-in-Inflated-clause-run
returns-in-Inflated-clause-run c = all_made
    (by_form (goal.at.returns-in-Inflated-clause-run c).After-load-mark _ (sym c.mark_of_word.ensures ∙ c.in-Some.is ∙ ap Some c.in-Inflated.is))

pub returns-in_default-clause-run : goal.returns-in_default-clause-run
returns-in_default-clause-run c =
    (left_as (by_form (goal.at.returns-in_default-clause-run c).After-load-mark _ (sym c.mark_of_word.ensures ∙ c.in-Some.is))
    (is_made c.in-Some.form _ _ _ _ _ c.in_default.not-Inflating c.in_default.not-Inflated)).whole _ _ c.inflate_by.ensures

pub returns-in-None-clause-run : goal.returns-in-None-clause-run
returns-in-None-clause-run c =
    (by_form (goal.at.returns-in-None-clause-run c).After-load-mark _ (sym c.mark_of_word.ensures ∙ c.in-None.is)).whole _ _ c.inflate_by-in-None.ensures

pub returns-in-Inflating-clause-local : goal.returns-in-Inflating-clause-local
returns-in-Inflating-clause-local c =
    local_stays c.args.heap.now _ _ c.args.call.now c.args.pass.now.known.kept c.args.object _ (returns-in-Inflating-clause-run c)

pub returns-in-Inflated-clause-local : goal.returns-in-Inflated-clause-local
returns-in-Inflated-clause-local c =
    local_stays c.args.heap.now _ _ c.args.call.now c.args.pass.now.known.kept c.args.object _ (returns-in-Inflated-clause-run c)

pub returns-in_default-clause-local : goal.returns-in_default-clause-local
returns-in_default-clause-local c =
    local_stays c.args.heap.now _ _ c.args.call.now c.args.pass.now.known.kept c.args.object _ (returns-in_default-clause-run c)

pub returns-in-None-clause-local : goal.returns-in-None-clause-local
returns-in-None-clause-local c =
    local_stays c.args.heap.now _ _ c.args.call.now c.args.pass.now.known.kept c.args.object _ (returns-in-None-clause-run c)
