use Rattle.std.proofs.Common.{◌≡◌, Option, refl, sym, ap, ◌∙◌, subst}
use Rattle.mark_word.specs.declared.mark.MarkForm.{MarkForm}
use Rattle.mark_word.specs.Mark.{read_mark}
use Rattle.mark_word.proofs.ReadingMarks.{read_mark-spells}
use Rattle.core_world.specs.Clauses.WordForms.{IsMark}
use Rattle.heap_table.proofs.Forms.{found_formed}
use Rattle.heap_table.proofs.StepsLeft.{AreLeft, all_left, can_make, step_made, left_as, all_made}
use Rattle.safepoint_work.specs.inner.RevokeParts.{visit_form, object_steps}
use Rattle.safepoint_work.proofs.RevokeSteps.{biased_or_not, none_visited}
use Rattle.safepoint_work.proofs.walks.visit_object.Goals as goal
use Rattle.safepoint_work.proofs.walks.visit_object.Goals.{After-look-mark}

pub look-mark-requires : goal.look-mark-requires
look-mark-requires c = can_make (all_left c.requires.heap c.requires.due) refl refl refl tt

-- the mark is loaded, and its form says what is left
loaded : (c : After-look-mark) (f : Option MarkForm) → read_mark c.look-mark.result ≡ f
    → AreLeft c.args.heap.now c.args.call.now.task c.args.pass.now
    (object_steps c.args.call.now c.args.revocation.now c.args.how c.args.object) c.look-mark.new.pass
    (visit_form c.args.how f c.args.call.now c.args.revocation.now c.args.object)
loaded c f form =
    left_as (step_made (all_left c.requires.heap c.requires.due) refl refl refl c.look-mark.ensures)
    (biased_or_not c.args.how (read_mark c.look-mark.result) c.args.call.now c.args.revocation.now c.args.object
    ∙ ap (λ (g : Option MarkForm). visit_form c.args.how g c.args.call.now c.args.revocation.now c.args.object) form)

pub visit_biased-requires-clause-form : goal.visit_biased-requires-clause-form
visit_biased-requires-clause-form c =
    subst (IsMark c.args.heap.now.heap.shape) (sym c.mark_of_word.ensures ∙ c.in-Some.is) (found_formed _ _ _ _ _ c.look-mark.ensures)

pub visit_biased-requires-clause-range : goal.visit_biased-requires-clause-range
visit_biased-requires-clause-range c = (read_mark-spells c.look-mark.result c.in-Some.form (sym c.mark_of_word.ensures ∙ c.in-Some.is)).0

pub visit_biased-requires-clause-due : goal.visit_biased-requires-clause-due
visit_biased-requires-clause-due c =
    (loaded (goal.at.visit_biased-requires-clause-due c).After-look-mark _ (sym c.mark_of_word.ensures ∙ c.in-Some.is)).due

pub returns-in-Some : goal.returns-in-Some
returns-in-Some c =
    (loaded (goal.at.returns-in-Some c).After-look-mark _ (sym c.mark_of_word.ensures ∙ c.in-Some.is)).whole _ _ c.visit_biased.ensures

pub returns-in-None : goal.returns-in-None
returns-in-None c =
    all_made (left_as (loaded (goal.at.returns-in-None c).After-look-mark _ (sym c.mark_of_word.ensures ∙ c.in-None.is))
    (none_visited c.args.how c.args.call.now c.args.revocation.now c.args.object))
