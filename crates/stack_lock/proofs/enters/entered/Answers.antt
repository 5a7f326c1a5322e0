use Rattle.std.proofs.Common.{refl, sym, ap, ◌∙◌}
use Rattle.core_world.specs.declared.word_id.WordId.TheVariants.{Waiting}
use Rattle.core_world.specs.declared.stage.Stage.TheVariants.{Enters}
use Rattle.core_world.specs.Words.Forms.{is_entering}
use Rattle.heap_table.specs.StepPlans.{store_plan}
use Rattle.stack_lock.specs.inner.Parts.{entered_by, ready_steps}
use Rattle.heap_table.proofs.StepsLeft.{AreLeft, all_left, can_make, step_made, left_then}
use Rattle.stack_lock.proofs.enters.entered.Goals as goal
use Rattle.stack_lock.proofs.enters.entered.Goals.{After-encode_wait}

-- the thread was entering
entering : (c : After-encode_wait) → AreLeft c.args.heap.now c.args.call.now.task c.args.pass.now
    (entered_by c.args.call.now c.args.pass.now.known.thread c.args.pass.now.known.wait c.args.object c.args.place c.args.path) c.args.pass.now
    (ready_steps c.args.call.now c.args.pass.now.known.thread c.args.object c.args.place c.args.path)
entering c = left_then _ _ _ (all_left c.requires.heap c.requires.due)
    (ap is_entering (sym c.wait_word.ensures) ∙ sym c.is_entering.ensures ∙ c.if-is_entering.true)

pub store-requires : goal.store-requires
store-requires c = can_make (entering (goal.at.store-requires c).After-encode_wait)
    (λ i. store_plan c.args.call.now (Enters c.args.object c.args.place c.args.path) (Waiting (c.thread.ensures.same i)) (c.encode_wait.ensures i))
    refl refl tt

pub log_enter-requires-clause-due : goal.log_enter-requires-clause-due
log_enter-requires-clause-due c = (step_made (entering (goal.at.log_enter-requires-clause-due c).After-encode_wait)
    (λ i. store_plan c.args.call.now (Enters c.args.object c.args.place c.args.path) (Waiting (c.thread.ensures.same i)) (c.encode_wait.ensures i))
    refl refl c.store.ensures).due
