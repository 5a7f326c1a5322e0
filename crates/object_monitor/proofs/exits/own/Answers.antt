use Rattle.std.proofs.Common.{Some, refl, ap, ◌∙◌}
use Rattle.mark_word.specs.declared.owner.OwnerForm.{OwnerForm}
use Rattle.mark_word.specs.declared.owner.OwnerForm.TheVariants.{ByThread, ByRecord}
use Rattle.mark_word.specs.Owner.{owner_of}
use Rattle.core_world.specs.declared.word_id.WordId.TheVariants.{Owner}
use Rattle.core_world.specs.declared.stage.Stage.TheVariants.{OwnerConverted}
use Rattle.core_world.specs.Threads.ThreadView.{local_of}
use Rattle.core_world.specs.Trees.MonitorSteps.{own_steps}
use Rattle.heap_table.specs.StepPlans.{store_plan}
use Rattle.heap_table.proofs.StepsLeft.{AreLeft, all_left, can_make, step_made, left_as, never}
use Rattle.object_monitor.proofs.exits.own.Goals as goal
use Rattle.object_monitor.proofs.exits.own.Goals.{In-ByRecord}

-- a record is the owner
by_record : (c : In-ByRecord) → AreLeft c.args.heap.now c.args.call.now.task c.args.pass.now
    (own_steps (Some c.args.form) c.args.call.now (local_of c.args.pass.now.known) c.args.object c.args.monitor) c.args.pass.now
    (own_steps (Some (ByRecord c.in-ByRecord.thread c.in-ByRecord.place)) c.args.call.now (local_of c.args.pass.now.known) c.args.object c.args.monitor)
by_record c = left_as (all_left c.requires.heap c.requires.due)
    (ap (λ (f : OwnerForm). own_steps (Some f) c.args.call.now (local_of c.args.pass.now.known) c.args.object c.args.monitor) c.in-ByRecord.is)

pub store-requires : goal.store-requires
store-requires c = can_make (by_record (goal.at.store-requires c).In-ByRecord)
    (ap (store_plan c.args.call.now (OwnerConverted c.args.object) (Owner c.args.monitor))
    (c.encode_owner-word.ensures ∙ ap (λ t. owner_of (ByThread t)) c.thread-thread.ensures.same)) refl refl tt

pub store-requires-in-ByRecord : goal.store-requires-in-ByRecord
store-requires-in-ByRecord c =
    let owned = step_made (by_record (goal.at.store-requires-in-ByRecord c).In-ByRecord)
    (ap (store_plan c.args.call.now (OwnerConverted c.args.object) (Owner c.args.monitor))
    (c.encode_owner-word.ensures ∙ ap (λ t. owner_of (ByThread t)) c.thread-thread.ensures.same)) refl refl c.store.ensures in
    can_make owned refl refl refl tt

pub unreachable-requires : goal.unreachable-requires
unreachable-requires c = never (all_left c.requires.heap c.requires.due)
    (ap (λ (f : OwnerForm). own_steps (Some f) c.args.call.now (local_of c.args.pass.now.known) c.args.object c.args.monitor) c.in-Free.is)
