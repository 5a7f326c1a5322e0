use Rattle.std.proofs.Common.{◌≡◌, length, refl, ap, ◌∙◌, arith}
use Rattle.core_world.specs.declared.word_id.WordId.TheVariants.{Waiting}
use Rattle.core_world.specs.declared.stage.Stage.TheVariants.{Resumes}
use Rattle.core_world.specs.Threads.ThreadView.{ThreadView}
use Rattle.core_world.specs.Trees.Plans.{done_with}
use Rattle.core_world.specs.Trees.StepTree.{step}
use Rattle.core_world.specs.Trees.WaitSteps.{log_resume_plan, resumed_steps}
use Rattle.heap_table.specs.StepPlans.{store_plan}
use Rattle.heap_table.proofs.StepsLeft.{AreLeft, all_left, can_make, step_made, all_made, thread_stays}
use Rattle.object_monitor.proofs.waits.finish_resume.Goals as goal
use Rattle.object_monitor.proofs.waits.finish_resume.Goals.{After-store-2}

pub store-requires : goal.store-requires
store-requires c = can_make (all_left c.requires.heap c.requires.due) refl refl refl tt

pub store-requires-2 : goal.store-requires-2
store-requires-2 c =
    let thread = c.thread.ensures.same ∙ thread_stays c.store.ensures in
    can_make (step_made (all_left c.requires.heap c.requires.due) refl refl refl c.store.ensures)
    (λ i. store_plan c.args.call.now (Resumes c.args.object) (Waiting (thread i)) (c.encode_wait-word.ensures i)) refl refl tt

-- the recursions are restored, and the thread waits no more
ready : (c : After-store-2) → AreLeft c.args.heap.now c.args.call.now.task c.args.pass.now
    (resumed_steps c.args.call.now c.args.pass.now.known.thread c.args.saved c.args.object c.args.monitor) c.store-2.new.pass
    (step (log_resume_plan c.args.call.now c.args.object) (λ n. done_with tt))
ready c =
    let thread = c.thread.ensures.same ∙ thread_stays c.store.ensures in
    step_made (step_made (all_left c.requires.heap c.requires.due) refl refl refl c.store.ensures)
    (λ i. store_plan c.args.call.now (Resumes c.args.object) (Waiting (thread i)) (c.encode_wait-word.ensures i)) refl refl c.store-2.ensures

pub log_load-requires : goal.log_load-requires
log_load-requires c =
    let one = c.store.ensures in
    let two = c.store-2.ensures in
    let logs : length c.store-2.new.pass.known.log ≡ length c.args.pass.now.known.log =
    ap (λ (x : ThreadView). length x.log) two.known ∙ ap (λ (x : ThreadView). length x.log) one.known in
    can_make (ready (goal.at.log_load-requires c).After-store-2) refl refl refl (omega (arith, logs, two.limit, one.limit, c.requires.room))

pub returns : goal.returns
returns c = all_made (step_made (ready (goal.at.returns c).After-store-2) refl refl refl c.log_load.ensures)
