use Rattle.std.proofs.Common.{sym, ◌∙◌}
use Rattle.heap_table.specs.Resting.{start_now}
use Rattle.heap_table.proofs.StepsLeft.{all_left, all_made, never}
use Rattle.lock_runtime.proofs.Entered.{never_entered, by_form, by_own, by_other}
use Rattle.lock_runtime.proofs.entering.enter_by_mark.Goals as goal

pub stack_enter-requires-clause-due : goal.stack_enter-requires-clause-due
stack_enter-requires-clause-due c = let a = c.args in (by_form a.context.now a.object a.mark a.form c.requires.heap c.requires.due c.in-Neutral.is).due

-- the thread's own record
pub stack_enter-requires-then-thread-clause-due : goal.stack_enter-requires-then-thread-clause-due
stack_enter-requires-then-thread-clause-due c =
    let a = c.args in
    (by_own a.context.now a.object a.mark a.form c.requires.heap c.requires.due c.in-Locked.is (c.if-thread.true ∙ c.thread.ensures.same)).due

-- a record of another thread
pub enter_monitor-requires-clause-due : goal.enter_monitor-requires-clause-due
enter_monitor-requires-clause-due c =
    let a = c.args in
    (by_other a.context.now a.object a.mark a.form c.requires.heap c.requires.due c.in-Locked.is
    (λ own. c.if-thread.false (own ∙ sym c.thread.ensures.same))).due

pub monitor_enter-requires-clause-due : goal.monitor_enter-requires-clause-due
monitor_enter-requires-clause-due c = let a = c.args in (by_form a.context.now a.object a.mark a.form c.requires.heap c.requires.due c.in-Inflated.is).due

pub unreachable-requires : goal.unreachable-requires
unreachable-requires c =
    let a = c.args in
    let b = c.in_default in
    never (all_left c.requires.heap c.requires.due)
    (never_entered a.form a.heap.now.heap.shape a.context.now (start_now a.heap.now a.pass.now) a.object a.mark
    b.not-Inflating b.not-Neutral b.not-Locked b.not-Inflated)

pub returns-in-Inflating : goal.returns-in-Inflating
returns-in-Inflating c = let a = c.args in all_made (by_form a.context.now a.object a.mark a.form c.requires.heap c.requires.due c.in-Inflating.is)

pub returns-in-Neutral : goal.returns-in-Neutral
returns-in-Neutral c =
    let a = c.args in
    (by_form a.context.now a.object a.mark a.form c.requires.heap c.requires.due c.in-Neutral.is).whole _ _ c.stack_enter.ensures

pub returns-then-thread : goal.returns-then-thread
returns-then-thread c =
    let a = c.args in
    (by_own a.context.now a.object a.mark a.form c.requires.heap c.requires.due c.in-Locked.is (c.if-thread.true ∙ c.thread.ensures.same)).whole _ _
    c.stack_enter-then-thread.ensures

pub returns-else-thread : goal.returns-else-thread
returns-else-thread c =
    let a = c.args in
    (by_other a.context.now a.object a.mark a.form c.requires.heap c.requires.due c.in-Locked.is
    (λ own. c.if-thread.false (own ∙ sym c.thread.ensures.same))).whole _ _ c.enter_monitor.ensures

pub returns-in-Inflated : goal.returns-in-Inflated
returns-in-Inflated c =
    let a = c.args in
    (by_form a.context.now a.object a.mark a.form c.requires.heap c.requires.due c.in-Inflated.is).whole _ _ c.monitor_enter.ensures
