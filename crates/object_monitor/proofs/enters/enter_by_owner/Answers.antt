use Rattle.std.proofs.Common.{◌==◌, if◌then◌else◌, Some, ap, ◌∙◌, sym, eq-eqb, ne_eqb}
use Rattle.mark_word.specs.declared.owner.OwnerForm.{OwnerForm}
use Rattle.plain_monitor.specs.declared.entry.Path.TheVariants.{MonitorFirst}
use Rattle.core_world.specs.declared.stage.Stage.TheVariants.{MonitorAcquired}
use Rattle.core_world.specs.Threads.ThreadView.{local_of}
use Rattle.core_world.specs.Trees.MonitorSteps.{record_steps, owned_steps, monitor_again_steps, monitor_own_steps, monitor_enter_at}
use Rattle.heap_table.proofs.StepsLeft.{AreLeft, all_left, left_as, left_then, left_else}
use Rattle.object_monitor.proofs.enters.enter_by_owner.Goals as goal
use Rattle.object_monitor.proofs.enters.enter_by_owner.Goals.{In-Free, In-ByThread, In-ByRecord}

-- nobody owns the monitor,
free : (c : In-Free) → AreLeft c.args.heap.now c.args.call.now.task c.args.pass.now
    (monitor_enter_at (Some c.args.form) c.args.call.now (local_of c.args.pass.now.known) c.args.object c.args.monitor c.args.found) c.args.pass.now
    (record_steps c.args.call.now (MonitorAcquired c.args.object) (local_of c.args.pass.now.known) c.args.object MonitorFirst)
free c =
    let a = c.args in
    left_as (all_left c.requires.heap c.requires.due)
    (ap (λ (f : OwnerForm). monitor_enter_at (Some f) a.call.now (local_of a.pass.now.known) a.object a.monitor a.found) c.in-Free.is)

-- a thread does,
by_thread : (c : In-ByThread) → AreLeft c.args.heap.now c.args.call.now.task c.args.pass.now
    (monitor_enter_at (Some c.args.form) c.args.call.now (local_of c.args.pass.now.known) c.args.object c.args.monitor c.args.found) c.args.pass.now
    (if c.in-ByThread.thread == c.args.pass.now.known.thread
    then monitor_again_steps c.args.call.now (local_of c.args.pass.now.known) c.args.object c.args.monitor
    else owned_steps c.args.call.now (local_of c.args.pass.now.known) c.args.object c.args.found)
by_thread c =
    let a = c.args in
    left_as (all_left c.requires.heap c.requires.due)
    (ap (λ (f : OwnerForm). monitor_enter_at (Some f) a.call.now (local_of a.pass.now.known) a.object a.monitor a.found) c.in-ByThread.is)

-- or a record
by_record : (c : In-ByRecord) → AreLeft c.args.heap.now c.args.call.now.task c.args.pass.now
    (monitor_enter_at (Some c.args.form) c.args.call.now (local_of c.args.pass.now.known) c.args.object c.args.monitor c.args.found) c.args.pass.now
    (if c.in-ByRecord.thread == c.args.pass.now.known.thread
    then monitor_own_steps c.args.call.now (local_of c.args.pass.now.known) c.args.object c.args.monitor
    else owned_steps c.args.call.now (local_of c.args.pass.now.known) c.args.object c.args.found)
by_record c =
    let a = c.args in
    left_as (all_left c.requires.heap c.requires.due)
    (ap (λ (f : OwnerForm). monitor_enter_at (Some f) a.call.now (local_of a.pass.now.known) a.object a.monitor a.found) c.in-ByRecord.is)

pub push_record-requires-clause-due : goal.push_record-requires-clause-due
push_record-requires-clause-due c = (free (goal.at.push_record-requires-clause-due c).In-Free).due

pub monitor_again-requires-clause-due : goal.monitor_again-requires-clause-due
monitor_again-requires-clause-due c =
    let left = by_thread (goal.at.monitor_again-requires-clause-due c).In-ByThread in
    (left_then _ _ _ left (eq-eqb _ _ (c.if-thread.true ∙ c.thread.ensures.same))).due

pub pend_on_owner-requires-clause-due : goal.pend_on_owner-requires-clause-due
pend_on_owner-requires-clause-due c =
    let left = by_thread (goal.at.pend_on_owner-requires-clause-due c).In-ByThread in
    (left_else _ _ _ left (ne_eqb _ _ (λ same. c.if-thread.false (same ∙ sym c.thread.ensures.same)))).due

pub monitor_own-requires-clause-due : goal.monitor_own-requires-clause-due
monitor_own-requires-clause-due c =
    let left = by_record (goal.at.monitor_own-requires-clause-due c).In-ByRecord in
    (left_then _ _ _ left (eq-eqb _ _ (c.if-thread-2.true ∙ c.thread-in-ByRecord.ensures.same))).due

pub pend_on_owner-requires-else-thread-2-clause-due : goal.pend_on_owner-requires-else-thread-2-clause-due
pend_on_owner-requires-else-thread-2-clause-due c =
    let left = by_record (goal.at.pend_on_owner-requires-else-thread-2-clause-due c).In-ByRecord in
    (left_else _ _ _ left (ne_eqb _ _ (λ same. c.if-thread-2.false (same ∙ sym c.thread-in-ByRecord.ensures.same)))).due

pub returns-in-Free : goal.returns-in-Free
returns-in-Free c = (free (goal.at.returns-in-Free c).In-Free).whole _ _ c.push_record.ensures

pub returns-then-thread : goal.returns-then-thread
returns-then-thread c =
    let left = by_thread (goal.at.returns-then-thread c).In-ByThread in
    (left_then _ _ _ left (eq-eqb _ _ (c.if-thread.true ∙ c.thread.ensures.same))).whole _ _ c.monitor_again.ensures

pub returns-else-thread : goal.returns-else-thread
returns-else-thread c =
    let left = by_thread (goal.at.returns-else-thread c).In-ByThread in
    (left_else _ _ _ left (ne_eqb _ _ (λ same. c.if-thread.false (same ∙ sym c.thread.ensures.same)))).whole _ _ c.pend_on_owner.ensures

pub returns-then-thread-2 : goal.returns-then-thread-2
returns-then-thread-2 c =
    let left = by_record (goal.at.returns-then-thread-2 c).In-ByRecord in
    (left_then _ _ _ left (eq-eqb _ _ (c.if-thread-2.true ∙ c.thread-in-ByRecord.ensures.same))).whole _ _ c.monitor_own.ensures

pub returns-else-thread-2 : goal.returns-else-thread-2
returns-else-thread-2 c =
    let left = by_record (goal.at.returns-else-thread-2 c).In-ByRecord in
    (left_else _ _ _ left (ne_eqb _ _ (λ same. c.if-thread-2.false (same ∙ sym c.thread-in-ByRecord.ensures.same)))).whole _ _
    c.pend_on_owner-else-thread-2.ensures
