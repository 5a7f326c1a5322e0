use Rattle.std.proofs.Common.{subst, Some}
use Rattle.mark_word.specs.declared.mark.MarkForm.{MarkForm}
use Rattle.core_world.specs.Threads.ThreadView.{local_of}
use Rattle.core_world.specs.Trees.LockSteps.{stack_enter_at}
use Rattle.heap_table.specs.Parts.{IsDueOn}
use Rattle.stack_lock.proofs.Never.{never_entered}
use Rattle.heap_table.proofs.Ruled.{not_due}
use Rattle.stack_lock.proofs.enters.enter_by_record.Goals as goal

pub stack_first-requires-clause-due : goal.stack_first-requires-clause-due
stack_first-requires-clause-due c =
    let a = c.args in
    subst (λ (f : MarkForm). IsDueOn a.heap.now a.pass.now a.call.now.task
    (stack_enter_at (Some f) a.call.now (local_of a.pass.now.known) a.object a.mark)) c.in-Neutral.is c.requires.due

pub stack_again-requires-clause-due : goal.stack_again-requires-clause-due
stack_again-requires-clause-due c =
    let a = c.args in
    subst (λ (f : MarkForm). IsDueOn a.heap.now a.pass.now a.call.now.task
    (stack_enter_at (Some f) a.call.now (local_of a.pass.now.known) a.object a.mark)) c.in-Locked.is c.requires.due

pub unreachable-requires : goal.unreachable-requires
unreachable-requires c =
    let a = c.args in
    let k = local_of a.pass.now.known in
    not_due a.heap.now a.pass.now a.call.now.task (stack_enter_at (Some a.form) a.call.now k a.object a.mark) c.requires.heap c.requires.due
    (never_entered a.form a.call.now k a.object a.mark c.in_default.not-Neutral c.in_default.not-Locked)
