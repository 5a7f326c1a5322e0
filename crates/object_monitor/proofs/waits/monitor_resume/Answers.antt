use Rattle.std.proofs.Common.{◌≡◌, refl, sym, ap, ◌∙◌, Option, Some}
use Rattle.mark_word.specs.declared.wait.WaitForm.{WaitForm}
use Rattle.mark_word.specs.Wait.{read_wait}
use Rattle.core_world.specs.declared.word_id.WordId.TheVariants.{Waiting}
use Rattle.core_world.specs.Trees.Plans.{load}
use Rattle.core_world.specs.Trees.WaitSteps.{resume_at, monitor_resume_steps}
use Rattle.heap_table.proofs.StepsLeft.{AreLeft, all_left, can_make, step_made, left_as, all_made, never, thread_stays}
use Rattle.object_monitor.proofs.Resuming.{never_resumed}
use Rattle.object_monitor.proofs.waits.monitor_resume.Goals as goal
use Rattle.object_monitor.proofs.waits.monitor_resume.Goals.{After-load-word}

pub load-word-requires : goal.load-word-requires
load-word-requires c = can_make (all_left c.requires.heap c.requires.due) (λ i. load c.args.call.now (Waiting (c.thread.ensures.same i))) refl refl tt

-- what is left once the waiting word is loaded, by its form
by_form : (c : After-load-word) (f : Option WaitForm) → read_wait c.load-word.result ≡ f → AreLeft c.args.heap.now c.args.call.now.task c.args.pass.now
    (monitor_resume_steps c.args.call.now c.args.pass.now.known.thread c.args.saved c.args.object) c.load-word.new.pass
    (resume_at f c.args.call.now c.load-word.new.pass.known.thread c.args.saved c.args.object c.load-word.result)
by_form c f form =
    let left = step_made (all_left c.requires.heap c.requires.due) (λ i. load c.args.call.now (Waiting (c.thread.ensures.same i)))
    refl refl c.load-word.ensures in
    let thread = thread_stays c.load-word.ensures in
    left_as left (λ i. resume_at (form i) c.args.call.now (sym thread i) c.args.saved c.args.object c.load-word.result)

pub resume_mark-requires-clause-due : goal.resume_mark-requires-clause-due
resume_mark-requires-clause-due c =
    (by_form (goal.at.resume_mark-requires-clause-due c).After-load-word _ (sym c.wait_of_word.ensures ∙ c.in-Some.is ∙ ap Some c.in-Notified.is)).due

pub unreachable-requires : goal.unreachable-requires
unreachable-requires c = never (by_form (goal.at.unreachable-requires c).After-load-word _ (sym c.wait_of_word.ensures ∙ c.in-Some.is))
    (never_resumed c.in-Some.form _ _ _ _ _ c.in_default.not-Waiting c.in_default.not-Notified)

pub unreachable-requires-in-None : goal.unreachable-requires-in-None
unreachable-requires-in-None c =
    never (by_form (goal.at.unreachable-requires-in-None c).After-load-word _ (sym c.wait_of_word.ensures ∙ c.in-None.is)) refl

pub returns-in-Waiting : goal.returns-in-Waiting
returns-in-Waiting c =
    all_made (by_form (goal.at.returns-in-Waiting c).After-load-word _ (sym c.wait_of_word.ensures ∙ c.in-Some.is ∙ ap Some c.in-Waiting.is))

pub returns-in-Notified : goal.returns-in-Notified
returns-in-Notified c =
    (by_form (goal.at.returns-in-Notified c).After-load-word _ (sym c.wait_of_word.ensures ∙ c.in-Some.is ∙ ap Some c.in-Notified.is)).whole _ _
    c.resume_mark.ensures
