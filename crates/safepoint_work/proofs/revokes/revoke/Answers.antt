use Rattle.std.proofs.Common.{Option, Some, refl, sym, ap, ◌∙◌, subst}
use Rattle.mark_word.specs.declared.mark.MarkForm.{MarkForm}
use Rattle.core_world.specs.Clauses.WordForms.{IsMark}
use Rattle.core_world.specs.Trees.RevocationSteps.{revoke_at, revoke_steps}
use Rattle.heap_table.proofs.Forms.{found_formed}
use Rattle.heap_table.proofs.StepsLeft.{AreLeft, all_left, can_make, step_made, left_as}
use Rattle.safepoint_work.proofs.revokes.revoke.Goals as goal
use Rattle.safepoint_work.proofs.revokes.revoke.Goals.{In-Some}

pub look-mark-requires : goal.look-mark-requires
look-mark-requires c = can_make (all_left c.requires.heap c.requires.due) refl refl refl tt

-- the mark is loaded, and has a form
loaded : (c : In-Some) → AreLeft c.args.heap.now c.args.call.now.task c.args.pass.now
    (revoke_steps c.args.call.now c.args.revocation.now c.args.object c.args.allowed) c.look-mark.new.pass
    (revoke_at (Some c.in-Some.form) c.args.call.now c.args.revocation.now c.args.object c.args.allowed)
loaded c =
    left_as (step_made (all_left c.requires.heap c.requires.due) refl refl refl c.look-mark.ensures)
    (ap (λ (f : Option MarkForm). revoke_at f c.args.call.now c.args.revocation.now c.args.object c.args.allowed)
    (sym c.mark_of_word.ensures ∙ c.in-Some.is))

pub revoke_form-requires-clause-form : goal.revoke_form-requires-clause-form
revoke_form-requires-clause-form c =
    subst (IsMark c.args.heap.now.heap.shape) (sym c.mark_of_word.ensures ∙ c.in-Some.is) (found_formed _ _ _ _ _ c.look-mark.ensures)

pub revoke_form-requires-clause-due : goal.revoke_form-requires-clause-due
revoke_form-requires-clause-due c = (loaded (goal.at.revoke_form-requires-clause-due c).In-Some).due

pub returns-in-Some : goal.returns-in-Some
returns-in-Some c = (loaded (goal.at.returns-in-Some c).In-Some).whole _ _ c.revoke_form.ensures
