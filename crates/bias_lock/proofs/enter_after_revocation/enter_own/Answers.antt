use Rattle.std.proofs.Common.{◌==◌, Option, Some, ap, ◌∙◌}
use Rattle.mark_word.specs.declared.mark.MarkForm.{MarkForm}
use Rattle.plain_monitor.specs.declared.entry.Path.TheVariants.{BiasTaken}
use Rattle.core_world.specs.Threads.ThreadView.{local_of}
use Rattle.core_world.specs.Trees.BiasSteps.{took_steps, bias_after_at}
use Rattle.core_world.specs.Trees.StepTree.{unreachable}
use Rattle.heap_table.proofs.Ruled.{chosen}
use Rattle.heap_table.proofs.StepsLeft.{AreLeft, all_left, left_as, left_then, never}
use Rattle.bias_lock.proofs.Never.{never_after}
use Rattle.bias_lock.proofs.enter_after_revocation.enter_own.Goals as goal
use Rattle.bias_lock.proofs.enter_after_revocation.enter_own.Goals.{In-Biased}

-- the mark is biased to a thread, which is this one
own : (c : In-Biased) → AreLeft c.args.heap.now c.args.call.now.task c.args.pass.now
    (bias_after_at c.args.form c.args.call.now (local_of c.args.pass.now.known) c.args.object) c.args.pass.now
    (took_steps c.args.call.now (local_of c.args.pass.now.known) c.args.object BiasTaken)
own c =
    let left = left_as (all_left c.requires.heap c.requires.due)
    (ap (λ (f : Option MarkForm). bias_after_at f c.args.call.now (local_of c.args.pass.now.known) c.args.object) (c.in-Some.is ∙ ap Some c.in-Biased.is)) in
    let mine = c.in-Biased.thread == c.args.pass.now.known.thread in
    let took = took_steps c.args.call.now (local_of c.args.pass.now.known) c.args.object BiasTaken in
    left_then mine took unreachable left (chosen c.args.heap.now c.args.pass.now c.args.call.now.task mine took c.requires.heap left.due)

pub log_biased_enter-requires-clause-due : goal.log_biased_enter-requires-clause-due
log_biased_enter-requires-clause-due c = (own (goal.at.log_biased_enter-requires-clause-due c).In-Biased).due

pub unreachable-requires : goal.unreachable-requires
unreachable-requires c = never (all_left c.requires.heap c.requires.due)
    (ap (λ (f : Option MarkForm). bias_after_at f c.args.call.now (local_of c.args.pass.now.known) c.args.object) c.in-Some.is
    ∙ never_after c.in-Some.bias _ _ _ c.in_default.not-Biased)

pub unreachable-requires-in-None : goal.unreachable-requires-in-None
unreachable-requires-in-None c = never (all_left c.requires.heap c.requires.due)
    (ap (λ (f : Option MarkForm). bias_after_at f c.args.call.now (local_of c.args.pass.now.known) c.args.object) c.in-None.is)

pub returns : goal.returns
returns c = (own (goal.at.returns c).In-Biased).whole _ _ c.log_biased_enter.ensures
