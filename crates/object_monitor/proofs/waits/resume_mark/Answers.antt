use Rattle.std.proofs.Common.{◌≡◌, refl, sym, ap, ◌∙◌, Option, Some}
use Rattle.mark_word.specs.declared.mark.MarkForm.{MarkForm}
use Rattle.mark_word.specs.Mark.{read_mark}
use Rattle.core_world.specs.Trees.WaitSteps.{resume_mark_at}
use Rattle.object_monitor.specs.inner.WaitParts.{marked_resume}
use Rattle.heap_table.proofs.StepsLeft.{AreLeft, all_left, can_make, step_made, left_as, never, thread_stays}
use Rattle.object_monitor.proofs.Resuming.{never_marked}
use Rattle.object_monitor.proofs.waits.resume_mark.Goals as goal
use Rattle.object_monitor.proofs.waits.resume_mark.Goals.{After-load-mark}

pub load-mark-requires : goal.load-mark-requires
load-mark-requires c = can_make (all_left c.requires.heap c.requires.due) refl refl refl tt

-- what is left once the mark is loaded, by its form
by_form : (c : After-load-mark) (f : Option MarkForm) → read_mark c.load-mark.result ≡ f → AreLeft c.args.heap.now c.args.call.now.task c.args.pass.now
    (marked_resume c.args.call.now c.args.pass.now.known.thread c.args.saved c.args.object) c.load-mark.new.pass
    (resume_mark_at f c.args.call.now c.load-mark.new.pass.known.thread c.args.saved c.args.object)
by_form c f form =
    let thread = thread_stays c.load-mark.ensures in
    left_as (step_made (all_left c.requires.heap c.requires.due) refl refl refl c.load-mark.ensures)
    (λ i. resume_mark_at (form i) c.args.call.now (sym thread i) c.args.saved c.args.object)

pub resume_owner-requires-clause-due : goal.resume_owner-requires-clause-due
resume_owner-requires-clause-due c =
    (by_form (goal.at.resume_owner-requires-clause-due c).After-load-mark _ (sym c.mark_of_word.ensures ∙ c.in-Some.is ∙ ap Some c.in-Inflated.is)).due

pub unreachable-requires : goal.unreachable-requires
unreachable-requires c = never (by_form (goal.at.unreachable-requires c).After-load-mark _ (sym c.mark_of_word.ensures ∙ c.in-Some.is))
    (never_marked c.in-Some.form _ _ _ _ c.in_default.not-Inflated)

pub unreachable-requires-in-None : goal.unreachable-requires-in-None
unreachable-requires-in-None c =
    never (by_form (goal.at.unreachable-requires-in-None c).After-load-mark _ (sym c.mark_of_word.ensures ∙ c.in-None.is)) refl

pub returns : goal.returns
returns c =
    (by_form (goal.at.returns c).After-load-mark _ (sym c.mark_of_word.ensures ∙ c.in-Some.is ∙ ap Some c.in-Inflated.is)).whole _ _ c.resume_owner.ensures
