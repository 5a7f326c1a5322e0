use Rattle.std.proofs.Common.{Option, sym, ap, ◌∙◌}
use Rattle.plain_monitor.specs.declared.entry.Path.{Path}
use Rattle.mark_word.specs.declared.mark.MarkForm.{MarkForm}
use Rattle.mark_word.specs.Mark.{read_mark}
use Rattle.core_world.specs.declared.answer.Progress.{Progress}
use Rattle.core_world.specs.Trees.Operations.{enter_at}
use Rattle.core_world.specs.Trees.StepTree.{StepTree}
use Rattle.heap_table.specs.Resting.{start_now}
use Rattle.heap_table.proofs.Ruled.{not_due}
use Rattle.lock_runtime.proofs.entering.enter_marked.Goals as goal

pub unreachable-requires : goal.unreachable-requires
unreachable-requires c =
    let a = c.args in
    let k = start_now a.heap.now a.pass.now in
    let d : StepTree (Progress Path) = enter_at (read_mark a.mark) a.heap.now.heap.shape a.context.now k a.object a.mark in
    not_due a.heap.now a.pass.now a.context.now.task d c.requires.heap c.requires.due
    (ap (λ (f : Option MarkForm). enter_at f a.heap.now.heap.shape a.context.now k a.object a.mark) (sym c.mark_of_word.ensures ∙ c.in-None.is))
