use Rattle.std.proofs.Common.{◌∷◌, [], None, false, refl, arith}
use Rattle.std.specs.List.{AllByRecursion}
use Rattle.core_calls.specs.CallsSay.{HashSays}
use Rattle.core_world.specs.declared.answer.Progress.TheVariants.{Pending}
use Rattle.core_world.specs.declared.heap_call.Operation.TheVariants as op
use Rattle.core_world.specs.declared.heap_call.HeapCall.TheVariants as task
use Rattle.embed_example.specs.Acts.{IsDone, IsLeft}
use Rattle.embed_example.specs.declared.Act.TheVariants as act
use Rattle.embed_example.proofs.After.{added, did_by, free_after, may_try, progress_left}
use Rattle.heap_table.specs.Resting.{start_now}
use Rattle.plain_monitor.specs.declared.entry.Entry.TheVariants as entry
use Rattle.embed_example.proofs.hash.Goals as goal

pub hash-requires : goal.hash-requires
hash-requires c =
    let a = c.args in
    let room = c.room.ensures.room in
    let some = c.if-room-lt1.false in
    may_try a.heap.now op.Hash a.object a.pass.now (task.Hash a.object 1) refl refl c.requires.may c.requires.object (omega (arith, room, some))

pub returns-in-Done : goal.returns-in-Done
returns-in-Done c =
    let a = c.args in
    let h = a.heap.now in
    let p = a.pass.now in
    let q = c.hash.new.pass in
    let e = c.in-Done.ensures in
    let value = c.in-Done.field-0 in
    let drawn = e.says.says.0 in
    let es = entry.Hash a.object value drawn ∷ [] in
    let d = did_by es None false p.known q.known e.says e.says.says.2 in (
      free_after h p q c.requires.may.live e.rests e.run.limit es d refl e.stands,
      added h p q c.requires.may.live e.rests e.run.limit (IsDone act.Hash a.object) es None d (value, drawn, refl),
    )

pub returns-in-Pending : goal.returns-in-Pending
returns-in-Pending c =
    let a = c.args in
    let h = a.heap.now in
    let p = a.pass.now in
    let e = c.in-Pending.ensures in
    let why = c.in-Pending.why in
    progress_left h p c.hash.new.pass c.requires.may.live e.rests e.run.limit (λ ms z. HashSays (start_now h p) a.object ms z) (Pending why)
    e.says e.stands (AllByRecursion (IsLeft act.Hash a.object)) op.Hash a.object why [] refl (λ ms z. z.0) tt refl
