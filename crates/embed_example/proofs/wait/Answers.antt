use Rattle.std.proofs.Common.{◌≡◌, ℕ, Bool, ◌∷◌, [], cond, Ok, sym, ap, ◌∙◌, arith}
use Rattle.std.specs.List.{AllByRecursion}
use Rattle.core_calls.specs.CallsSay.{has_none, WaitSays, lets_go, begins_with}
use Rattle.core_calls.specs.Causes.{of_waits}
use Rattle.core_world.specs.declared.heap_call.Operation.TheVariants as op
use Rattle.core_world.specs.Threads.ThreadView.{ThreadView, start_of}
use Rattle.core_world.specs.Words.Forms.{waits_on}
use Rattle.embed_example.specs.Acts.{IsDone, IsLeft}
use Rattle.embed_example.specs.declared.Act.TheVariants as act
use Rattle.embed_example.proofs.After.{as_before, may_wait, progress_done, progress_left, wait_done, wait_left, wait_over, wait_unended}
use Rattle.heap_table.specs.Resting.{start_now}
use Rattle.plain_monitor.specs.declared.entry.Entry.TheVariants as entry
use Rattle.embed_example.proofs.wait.Goals as goal
use Rattle.embed_example.proofs.wait.Goals.{then-waits_on, else-waits_on}

pub wait-requires : goal.wait-requires
wait-requires c =
    let a = c.args in
    let p = a.pass.now in
    let told = c.waits_on.ensures ∙ ap (λ (word : ℕ). waits_on word a.object) c.wait_word.ensures in
    let most : c.if-waits_on.most ≡ cond (waits_on p.known.wait a.object) 1 2 = elim c.if-waits_on.branch [
      | then-waits_on w ↦ w.most-is ∙ ap (λ (b : Bool). cond b 1 2) (sym w.if-waits_on.true ∙ told)
      | else-waits_on w ↦ w.most-is ∙ ap (λ (b : Bool). cond b 1 2) (sym w.if-waits_on.false ∙ told)
    ] in
    may_wait a.heap.now a.object 1 p c.requires.may c.requires.object (omega (arith, c.room.ensures.room, c.if-room-most.false, most))

pub returns-in-Ok-Done : goal.returns-in-Ok-Done
returns-in-Ok-Done c =
    let a = c.args in
    let h = a.heap.now in
    let p = a.pass.now in
    let q = c.wait.new.pass in
    let e = c.in-Ok-Done.ensures in
    progress_done h p q c.requires.may.live e.rests e.run.limit (λ ms z. WaitSays (start_now h p) a.object ms (Ok z)) c.in-Ok-Done.field-0
    e.says e.stands (IsDone act.Wait a.object) c.in-Ok-Done.field-0-0
    (begins_with (lets_go (start_now h p) a.object) a.object (entry.Resume a.object ∷ [])) c.in-Ok-Done.field-0-is (λ ms z. z.1)
    (wait_done a.object (lets_go (start_now h p) a.object)) (wait_over a.object (lets_go (start_now h p) a.object))

pub returns-in-Ok-Pending : goal.returns-in-Ok-Pending
returns-in-Ok-Pending c =
    let a = c.args in
    let h = a.heap.now in
    let p = a.pass.now in
    let q = c.wait.new.pass in
    let e = c.in-Ok-Pending.ensures in
    let why = c.in-Ok-Pending.why in
    progress_left h p q c.requires.may.live e.rests e.run.limit (λ ms z. WaitSays (start_now h p) a.object ms (Ok z)) c.in-Ok-Pending.field-0
    e.says e.stands (AllByRecursion (IsLeft act.Wait a.object)) op.Wait a.object why
    (cond (of_waits why) (begins_with (lets_go (start_now h p) a.object) a.object []) []) c.in-Ok-Pending.field-0-is
    (λ ms z. z.1.0) (wait_left a.object (of_waits why) (lets_go (start_now h p) a.object))
    (wait_unended a.object (of_waits why) (lets_go (start_now h p) a.object))

pub returns-in-Err : goal.returns-in-Err
returns-in-Err c =
    let a = c.args in
    let e = c.in-Err.ensures in (
      as_before a.heap.now op.Wait a.object a.pass.now c.wait.new.pass c.requires.may e.rests e.run.limit e.stands,
      ap (λ (k : ThreadView). k.log) e.stands,
      ap (λ (k : ThreadView). has_none (start_of a.heap.now.heap.start k) a.object) e.stands ∙ e.says.says.0,
    )
