use Rattle.std.proofs.Common.{refl, sym, ap, ◌∙◌}
use Rattle.mark_word.specs.declared.owner.OwnerForm.TheVariants.{ByThread}
use Rattle.mark_word.specs.Owner.{owner_of}
use Rattle.plain_monitor.specs.declared.entry.Path.TheVariants.{MonitorAgain}
use Rattle.core_world.specs.declared.word_id.WordId.TheVariants.{Owner}
use Rattle.core_world.specs.declared.stage.Stage.TheVariants.{OwnerConverted, RecursionsRaised}
use Rattle.core_world.specs.Threads.ThreadView.{local_of}
use Rattle.core_world.specs.Trees.MonitorSteps.{monitor_own_steps, record_steps}
use Rattle.core_world.specs.Trees.StepTree.{after_answer}
use Rattle.heap_table.specs.StepPlans.{store_plan}
use Rattle.heap_table.proofs.StepsLeft.{AreLeft, all_left, can_make, step_made, left_as}
use Rattle.object_monitor.proofs.enters.monitor_own.Goals as goal
use Rattle.object_monitor.proofs.enters.monitor_own.Goals.{After-store, After-store-2}

pub store-requires : goal.store-requires
store-requires c = can_make (all_left c.requires.heap c.requires.due)
    (ap (store_plan c.args.call.now (OwnerConverted c.args.object) (Owner c.args.monitor))
    (c.encode_owner-word.ensures ∙ ap (λ t. owner_of (ByThread t)) c.thread-thread.ensures.same)) refl refl tt

-- the thread owns the monitor itself,
owned : (c : After-store) → AreLeft c.args.heap.now c.args.call.now.task c.args.pass.now
    (monitor_own_steps c.args.call.now (local_of c.args.pass.now.known) c.args.object c.args.monitor) c.store.new.pass
    (after_answer (monitor_own_steps c.args.call.now (local_of c.args.pass.now.known) c.args.object c.args.monitor) c.store.result)
owned c = step_made (all_left c.requires.heap c.requires.due)
    (ap (store_plan c.args.call.now (OwnerConverted c.args.object) (Owner c.args.monitor))
    (c.encode_owner-word.ensures ∙ ap (λ t. owner_of (ByThread t)) c.thread-thread.ensures.same)) refl refl c.store.ensures

-- and its recursions are stored
counted : (c : After-store-2) → AreLeft c.args.heap.now c.args.call.now.task c.args.pass.now
    (monitor_own_steps c.args.call.now (local_of c.args.pass.now.known) c.args.object c.args.monitor) c.store-2.new.pass
    (record_steps c.args.call.now (RecursionsRaised c.args.object) (local_of c.store-2.new.pass.known) c.args.object MonitorAgain)
counted c =
    let local = ap local_of c.store-2.ensures.known ∙ ap local_of c.store.ensures.known in
    left_as (step_made (owned c.before.before) refl refl refl c.store-2.ensures)
    (λ i. record_steps c.args.call.now (RecursionsRaised c.args.object) (sym local i) c.args.object MonitorAgain)

pub store-requires-2 : goal.store-requires-2
store-requires-2 c = can_make (owned (goal.at.store-requires-2 c).After-store) refl refl refl tt

pub push_record-requires-clause-due : goal.push_record-requires-clause-due
push_record-requires-clause-due c = (counted (goal.at.push_record-requires-clause-due c).After-store-2).due

pub returns : goal.returns
returns c = (counted (goal.at.returns c).After-store-2).whole _ _ c.push_record.ensures
