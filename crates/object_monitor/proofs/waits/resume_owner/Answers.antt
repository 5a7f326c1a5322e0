use Rattle.std.proofs.Common.{◌≡◌, Option, refl, sym, ap, ◌∙◌}
use Rattle.mark_word.specs.declared.owner.OwnerForm.{OwnerForm}
use Rattle.mark_word.specs.declared.owner.OwnerForm.TheVariants.{ByThread}
use Rattle.mark_word.specs.Owner.{owner_of, read_owner}
use Rattle.core_world.specs.declared.word_id.WordId.TheVariants.{Owner}
use Rattle.core_world.specs.declared.stage.Stage.TheVariants.{Resumes}
use Rattle.core_world.specs.Trees.WaitSteps.{resume_owner_steps, resume_owner_at}
use Rattle.heap_table.specs.StepPlans.{swap_plan}
use Rattle.heap_table.proofs.StepsLeft.{AreLeft, all_left, can_make, step_made, left_as, never, thread_stays}
use Rattle.object_monitor.proofs.waits.resume_owner.Goals as goal
use Rattle.object_monitor.proofs.waits.resume_owner.Goals.{After-exchange-found}

pub exchange-found-requires : goal.exchange-found-requires
exchange-found-requires c =
    let word = c.encode_owner-word.ensures ∙ ap (λ t. owner_of (ByThread t)) c.thread-thread.ensures.same in
    can_make (all_left c.requires.heap c.requires.due)
    (λ i. swap_plan c.args.call.now (Resumes c.args.object) (Owner c.args.monitor) (c.encode_owner-free.ensures i) (word i)) refl refl tt

-- what is left after the exchange, by whose the monitor is
by_form : (c : After-exchange-found) (f : Option OwnerForm) → read_owner c.exchange-found.result ≡ f
    → AreLeft c.args.heap.now c.args.call.now.task c.args.pass.now
    (resume_owner_steps c.args.call.now c.args.pass.now.known.thread c.args.saved c.args.object c.args.monitor) c.exchange-found.new.pass
    (resume_owner_at f c.args.call.now c.exchange-found.new.pass.known.thread c.args.saved c.args.object c.args.monitor c.exchange-found.result)
by_form c f form =
    let word = c.encode_owner-word.ensures ∙ ap (λ t. owner_of (ByThread t)) c.thread-thread.ensures.same in
    let thread = thread_stays c.exchange-found.ensures in
    left_as (step_made (all_left c.requires.heap c.requires.due)
    (λ i. swap_plan c.args.call.now (Resumes c.args.object) (Owner c.args.monitor) (c.encode_owner-free.ensures i) (word i)) refl refl
    c.exchange-found.ensures)
    (λ i. resume_owner_at (form i) c.args.call.now (sym thread i) c.args.saved c.args.object c.args.monitor c.exchange-found.result)

pub resume_by-requires-clause-due : goal.resume_by-requires-clause-due
resume_by-requires-clause-due c =
    (by_form (goal.at.resume_by-requires-clause-due c).After-exchange-found _ (sym c.owner_of_word.ensures ∙ c.in-Some.is)).due

pub unreachable-requires : goal.unreachable-requires
unreachable-requires c = never (by_form (goal.at.unreachable-requires c).After-exchange-found _ (sym c.owner_of_word.ensures ∙ c.in-None.is)) refl

pub returns : goal.returns
returns c = (by_form (goal.at.returns c).After-exchange-found _ (sym c.owner_of_word.ensures ∙ c.in-Some.is)).whole _ _ c.resume_by.ensures
