use Rattle.std.proofs.Common.{ℕ, Option, Some, None, refl, ap}
use Rattle.plain_monitor.specs.declared.entry.Entry.TheVariants as entry
use Rattle.core_world.specs.declared.word_id.WordId.TheVariants.{Waiting}
use Rattle.core_world.specs.declared.stage.Stage.TheVariants.{Settled}
use Rattle.core_world.specs.Threads.ThreadView.{local_of}
use Rattle.core_world.specs.Trees.StepTree.{done}
use Rattle.heap_table.specs.StepPlans.{log_store_plan}
use Rattle.object_monitor.specs.inner.NotifyParts.{notify_one}
use Rattle.heap_table.proofs.StepsLeft.{AreLeft, all_left, can_make, step_made, left_as, all_made, part_of, last_made}
use Rattle.object_monitor.proofs.notifies.notify_one.Goals as goal
use Rattle.object_monitor.proofs.notifies.notify_one.Goals.{In-Some, In-None}

-- there is a waiter,
one_waits : (c : In-Some) → AreLeft c.args.heap.now c.args.call.now.task c.args.pass.now
    (notify_one c.args.waiter c.args.call.now (local_of c.args.pass.now.known) c.args.object) c.args.pass.now
    (notify_one (Some (c.in-Some.thread, c.in-Some.field-0-1)) c.args.call.now (local_of c.args.pass.now.known) c.args.object)
one_waits c = left_as (all_left c.requires.heap c.requires.due)
    (ap (λ (x : Option (ℕ × ℕ)). notify_one x c.args.call.now (local_of c.args.pass.now.known) c.args.object) c.in-Some.is)

-- or none
none_waits : (c : In-None) → AreLeft c.args.heap.now c.args.call.now.task c.args.pass.now
    (notify_one c.args.waiter c.args.call.now (local_of c.args.pass.now.known) c.args.object) c.args.pass.now
    (notify_one None c.args.call.now (local_of c.args.pass.now.known) c.args.object)
none_waits c = left_as (all_left c.requires.heap c.requires.due)
    (ap (λ (x : Option (ℕ × ℕ)). notify_one x c.args.call.now (local_of c.args.pass.now.known) c.args.object) c.in-None.is)

pub log_store-requires : goal.log_store-requires
log_store-requires c = can_make (one_waits (goal.at.log_store-requires c).In-Some)
    (ap (λ w. log_store_plan c.args.call.now Settled (Waiting c.in-Some.thread) w (entry.Notify c.args.object (Some c.in-Some.thread)))
    c.encode_wait-word.ensures) refl refl c.requires.room

pub publish-requires-clause-due : goal.publish-requires-clause-due
publish-requires-clause-due c = part_of (λ _. done None) (none_waits (goal.at.publish-requires-clause-due c).In-None)

pub returns-in-Some : goal.returns-in-Some
returns-in-Some c = all_made (step_made (one_waits (goal.at.returns-in-Some c).In-Some)
    (ap (λ w. log_store_plan c.args.call.now Settled (Waiting c.in-Some.thread) w (entry.Notify c.args.object (Some c.in-Some.thread)))
    c.encode_wait-word.ensures) refl refl c.log_store.ensures)

pub returns-in-None : goal.returns-in-None
returns-in-None c = last_made (λ _. done None) c.publish.ensures refl (none_waits (goal.at.returns-in-None c).In-None)
