use Rattle.std.proofs.Common.{sym, ap, ◌∙◌, subst, Option}
use Rattle.mark_word.specs.declared.mark.MarkForm.{MarkForm}
use Rattle.core_world.specs.Threads.ThreadView.{local_of}
use Rattle.core_world.specs.Trees.LockSteps.{stack_enter_at, stack_enter_steps}
use Rattle.heap_table.specs.Parts.{IsDueOn}
use Rattle.heap_table.proofs.Ruled.{not_due}
use Rattle.stack_lock.proofs.enters.stack_enter.Goals as goal

pub enter_by_record-requires-clause-due : goal.enter_by_record-requires-clause-due
enter_by_record-requires-clause-due c =
    let a = c.args in
    subst (λ (f : Option MarkForm). IsDueOn a.heap.now a.pass.now a.call.now.task
    (stack_enter_at f a.call.now (local_of a.pass.now.known) a.object a.mark)) (sym c.mark_of_word.ensures ∙ c.in-Some.is) c.requires.due

pub unreachable-requires : goal.unreachable-requires
unreachable-requires c =
    let a = c.args in
    let k = local_of a.pass.now.known in
    not_due a.heap.now a.pass.now a.call.now.task (stack_enter_steps a.call.now k a.object a.mark) c.requires.heap c.requires.due
    (ap (λ (f : Option MarkForm). stack_enter_at f a.call.now k a.object a.mark) (sym c.mark_of_word.ensures ∙ c.in-None.is))
