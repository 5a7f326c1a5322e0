use Rattle.std.proofs.Common.{◌≡◌, refl, sym, ap, ◌∙◌, Option, Some}
use Rattle.mark_word.specs.declared.mark.MarkForm.{MarkForm}
use Rattle.mark_word.specs.Mark.{read_mark}
use Rattle.core_world.specs.Threads.ThreadView.{local_of}
use Rattle.core_world.specs.Trees.LockSteps.{stack_exit_at}
use Rattle.stack_lock.specs.inner.Parts.{marked_exit}
use Rattle.stack_lock.proofs.Never.{never_left}
use Rattle.heap_table.proofs.StepsLeft.{AreLeft, all_left, can_make, step_made, left_as, all_made, never}
use Rattle.stack_lock.proofs.exits.leave_lock.Goals as goal
use Rattle.stack_lock.proofs.exits.leave_lock.Goals.{After-load-mark}

pub load-mark-requires : goal.load-mark-requires
load-mark-requires c = can_make (all_left c.requires.heap c.requires.due) refl refl refl tt

-- what is left once the mark is loaded, by its form
by_form : (c : After-load-mark) (f : Option MarkForm) → read_mark c.load-mark.result ≡ f → AreLeft c.args.heap.now c.args.call.now.task c.args.pass.now
    (marked_exit c.args.call.now (local_of c.args.pass.now.known) c.args.object c.args.header) c.load-mark.new.pass
    (stack_exit_at f c.args.call.now (local_of c.load-mark.new.pass.known) c.args.object c.args.header c.load-mark.result)
by_form c f form = left_as (step_made (all_left c.requires.heap c.requires.due) refl refl refl c.load-mark.ensures)
    (λ i. stack_exit_at (form i) c.args.call.now (sym (ap local_of c.load-mark.ensures.known) i) c.args.object c.args.header c.load-mark.result)

pub let_go-requires-clause-due : goal.let_go-requires-clause-due
let_go-requires-clause-due c =
    (by_form (goal.at.let_go-requires-clause-due c).After-load-mark _ (sym c.mark_of_word.ensures ∙ c.in-Some.is ∙ ap Some c.in-Locked.is)).due

pub unreachable-requires : goal.unreachable-requires
unreachable-requires c =
    never (by_form (goal.at.unreachable-requires c).After-load-mark _ (sym c.mark_of_word.ensures ∙ c.in-Some.is))
    (never_left c.in-Some.form _ _ _ _ _ c.in_default.not-Inflating c.in_default.not-Locked c.in_default.not-Inflated)

pub unreachable-requires-in-None : goal.unreachable-requires-in-None
unreachable-requires-in-None c = never (by_form (goal.at.unreachable-requires-in-None c).After-load-mark _ (sym c.mark_of_word.ensures ∙ c.in-None.is)) refl

pub returns-in-Locked : goal.returns-in-Locked
returns-in-Locked c =
    (by_form (goal.at.returns-in-Locked c).After-load-mark _ (sym c.mark_of_word.ensures ∙ c.in-Some.is ∙ ap Some c.in-Locked.is)).whole _ _ c.let_go.ensures

pub returns-in-Inflating : goal.returns-in-Inflating
returns-in-Inflating c =
    all_made (by_form (goal.at.returns-in-Inflating c).After-load-mark _ (sym c.mark_of_word.ensures ∙ c.in-Some.is ∙ ap Some c.in-Inflating.is))

pub returns-in-Inflated : goal.returns-in-Inflated
returns-in-Inflated c =
    all_made (by_form (goal.at.returns-in-Inflated c).After-load-mark _ (sym c.mark_of_word.ensures ∙ c.in-Some.is ∙ ap Some c.in-Inflated.is))
