use Rattle.std.proofs.Common.{◌≡◌, Option, refl, sym, ap, ◌∙◌}
use Rattle.core_world.specs.declared.answer.PendingCause.{PendingCause}
use Rattle.core_world.specs.Threads.ThreadView.{local_of}
use Rattle.core_world.specs.Trees.SafepointSteps.{bar, unless, resume_steps, resume_swap_steps}
use Rattle.heap_table.proofs.StepsLeft.{AreLeft, all_left, can_make, step_made, left_as, all_made}
use Rattle.safepoint.proofs.running.resume.Goals as goal
use Rattle.safepoint.proofs.running.resume.Goals.{After-look-word}

pub look-word-requires : goal.look-word-requires
look-word-requires c = can_make (all_left c.requires.heap c.requires.due) refl refl refl tt

-- the word is loaded
looked : (c : After-look-word) (x : Option PendingCause) → bar c.look-word.result.0 ≡ x → AreLeft c.args.heap.now c.args.call.now.task c.args.pass.now
    (resume_steps c.args.call.now (local_of c.args.pass.now.known)) c.look-word.new.pass
    (unless x (resume_swap_steps c.args.call.now (local_of c.look-word.new.pass.known) c.look-word.result.0))
looked c x is =
    let local = ap local_of c.look-word.ensures.stepped.known in
    left_as (step_made (all_left c.requires.heap c.requires.due) refl refl refl c.look-word.ensures.stepped)
    (λ i. unless (is i) (resume_swap_steps c.args.call.now (sym local i) c.look-word.result.0))

pub resume_from-requires-clause-due : goal.resume_from-requires-clause-due
resume_from-requires-clause-due c =
    (looked (goal.at.resume_from-requires-clause-due c).After-look-word _ (sym c.bar.ensures ∙ c.in-None.is)).due

pub returns-in-Some : goal.returns-in-Some
returns-in-Some c = all_made (looked (goal.at.returns-in-Some c).After-look-word _ (sym c.bar.ensures ∙ c.in-Some.is))

pub returns-in-None : goal.returns-in-None
returns-in-None c =
    (looked (goal.at.returns-in-None c).After-look-word _ (sym c.bar.ensures ∙ c.in-None.is)).whole _ _ c.resume_from.ensures
