use Rattle.std.proofs.Common.{Option, Some, refl, sym, ap, ◌∙◌, subst}
use Rattle.mark_word.specs.declared.mark.MarkForm.{MarkForm}
use Rattle.core_world.specs.Clauses.WordForms.{IsMark}
use Rattle.core_world.specs.Trees.LookSteps.{look_at_object, look_at_monitor}
use Rattle.heap_table.proofs.Forms.{found_formed}
use Rattle.heap_table.proofs.StepsLeft.{AreLeft, all_left, can_make, step_made, left_as}
use Rattle.heap_census.proofs.stands.look_at_object.Goals as goal
use Rattle.heap_census.proofs.stands.look_at_object.Goals.{In-Some}

pub load-mark-requires : goal.load-mark-requires
load-mark-requires c = can_make (all_left c.requires.heap c.requires.due) refl refl refl tt

-- the word is loaded, and has a form
loaded : (c : In-Some) → AreLeft c.args.heap.now c.args.call.now.task c.args.pass.now (look_at_object c.args.call.now c.args.thread c.args.object)
    c.load-mark.new.pass (look_at_monitor (Some c.in-Some.form) c.args.call.now c.args.thread)
loaded c = left_as (step_made (all_left c.requires.heap c.requires.due) refl refl refl c.load-mark.ensures)
    (ap (λ (f : Option MarkForm). look_at_monitor f c.args.call.now c.args.thread) (sym c.mark_of_word.ensures ∙ c.in-Some.is))

pub look_at_monitor-requires-clause-due : goal.look_at_monitor-requires-clause-due
look_at_monitor-requires-clause-due c = (loaded (goal.at.look_at_monitor-requires-clause-due c).In-Some).due

pub unreachable-requires : goal.unreachable-requires
unreachable-requires c =
    subst (IsMark c.args.heap.now.heap.shape) (sym c.mark_of_word.ensures ∙ c.in-None.is) (found_formed _ _ _ _ _ c.load-mark.ensures)

pub returns : goal.returns
returns c = (loaded (goal.at.returns c).In-Some).whole _ _ c.look_at_monitor.ensures
