use Rattle.std.proofs.Common.{◌∷◌, [], Ok, refl, ap, ◌∙◌, arith}
use Rattle.std.specs.List.{AllByRecursion}
use Rattle.core_calls.specs.CallsSay.{has_none, ExitSays}
use Rattle.core_world.specs.declared.heap_call.Operation.TheVariants as op
use Rattle.core_world.specs.declared.heap_call.HeapCall.TheVariants as task
use Rattle.core_world.specs.Threads.ThreadView.{ThreadView, start_of}
use Rattle.embed_example.specs.Acts.{IsDone, IsLeft}
use Rattle.embed_example.specs.declared.Act.TheVariants as act
use Rattle.embed_example.proofs.After.{as_before, may_try, progress_done, progress_left}
use Rattle.heap_table.specs.Resting.{start_now}
use Rattle.plain_monitor.specs.declared.entry.Entry.TheVariants as entry
use Rattle.embed_example.proofs.exit.Goals as goal

pub exit-requires : goal.exit-requires
exit-requires c =
    let a = c.args in
    let room = c.room.ensures.room in
    let some = c.if-room-lt1.false in
    may_try a.heap.now op.Exit a.object a.pass.now (task.Exit a.object) refl refl c.requires.may c.requires.object (omega (arith, room, some))

pub returns-in-Ok-Done : goal.returns-in-Ok-Done
returns-in-Ok-Done c =
    let a = c.args in
    let h = a.heap.now in
    let p = a.pass.now in
    let q = c.exit.new.pass in
    let e = c.in-Ok-Done.ensures in
    progress_done h p q c.requires.may.live e.rests e.run.limit (λ ms z. ExitSays (start_now h p) a.object ms (Ok z)) c.in-Ok-Done.field-0
    e.says e.stands (IsDone act.Exit a.object) c.in-Ok-Done.field-0-0 (entry.Exit a.object ∷ []) c.in-Ok-Done.field-0-is (λ ms z. z.1) refl refl

pub returns-in-Ok-Pending : goal.returns-in-Ok-Pending
returns-in-Ok-Pending c =
    let a = c.args in
    let h = a.heap.now in
    let p = a.pass.now in
    let q = c.exit.new.pass in
    let e = c.in-Ok-Pending.ensures in
    let why = c.in-Ok-Pending.why in
    progress_left h p q c.requires.may.live e.rests e.run.limit (λ ms z. ExitSays (start_now h p) a.object ms (Ok z)) c.in-Ok-Pending.field-0
    e.says e.stands (AllByRecursion (IsLeft act.Exit a.object)) op.Exit a.object why [] c.in-Ok-Pending.field-0-is (λ ms z. z.1.0) tt refl

pub returns-in-Err : goal.returns-in-Err
returns-in-Err c =
    let a = c.args in
    let e = c.in-Err.ensures in (
      as_before a.heap.now op.Exit a.object a.pass.now c.exit.new.pass c.requires.may e.rests e.run.limit e.stands,
      ap (λ (k : ThreadView). k.log) e.stands,
      ap (λ (k : ThreadView). has_none (start_of a.heap.now.heap.start k) a.object) e.stands ∙ e.says.says.0,
    )
