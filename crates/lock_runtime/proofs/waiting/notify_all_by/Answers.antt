use Rattle.std.proofs.Common.{ℕ, Some, refl, sym, subst}
use Rattle.mark_word.specs.declared.mark.MarkForm.{MarkForm}
use Rattle.core_world.specs.declared.answer.Progress.TheVariants.{Done}
use Rattle.core_world.specs.Threads.ThreadView.{local_of}
use Rattle.core_world.specs.Trees.Operations.{notify_all_at}
use Rattle.core_world.specs.Trees.Plans.{done_with}
use Rattle.heap_table.specs.Parts.{IsDueOn, HasMadeSteps}
use Rattle.heap_table.proofs.Ruled.{not_due}
use Rattle.lock_runtime.proofs.PartMade.{first_due, then_ends}
use Rattle.lock_runtime.proofs.Waits.{never_all_notified}
use Rattle.lock_runtime.proofs.waiting.notify_all_by.Goals as goal

pub publish-requires-clause-due : goal.publish-requires-clause-due
publish-requires-clause-due c =
    let a = c.args in
    first_due (λ _. done_with 0) (subst (λ (f : MarkForm). IsDueOn a.heap.now a.pass.now a.context.now.task
    (notify_all_at (Some f) a.heap.now.heap.shape a.context.now (local_of a.pass.now.known) a.object)) c.in-Locked.is c.requires.due)

pub monitor_notify_all-requires-clause-due : goal.monitor_notify_all-requires-clause-due
monitor_notify_all-requires-clause-due c =
    let a = c.args in
    first_due (λ (woken : ℕ). done_with woken) (subst (λ (f : MarkForm). IsDueOn a.heap.now a.pass.now a.context.now.task
    (notify_all_at (Some f) a.heap.now.heap.shape a.context.now (local_of a.pass.now.known) a.object)) c.in-Inflated.is c.requires.due)

pub unreachable-requires : goal.unreachable-requires
unreachable-requires c =
    let a = c.args in
    let h = a.heap.now in
    let k = local_of a.pass.now.known in
    let b = c.in_default in
    not_due h a.pass.now a.context.now.task (notify_all_at (Some a.form) h.heap.shape a.context.now k a.object) c.requires.heap c.requires.due
    (never_all_notified a.form h.heap.shape a.context.now k a.object b.not-Inflating b.not-Locked b.not-Inflated)

pub returns-in-Inflated : goal.returns-in-Inflated
returns-in-Inflated c =
    let a = c.args in
    let k = local_of a.pass.now.known in
    let out = c.monitor_notify_all.result in
    subst (λ (f : MarkForm). HasMadeSteps a.heap.now (notify_all_at (Some f) a.heap.now.heap.shape a.context.now k a.object) a.pass.now
    c.monitor_notify_all.new.pass (Done out)) (sym c.in-Inflated.is) (then_ends (λ (woken : ℕ). done_with woken) refl c.monitor_notify_all.ensures)
