use Rattle.std.proofs.Common.{subst}
use Rattle.core_world.specs.declared.answer.PendingCause.TheVariants as why
use Rattle.core_world.specs.declared.answer.Progress.TheVariants as progress
use Rattle.core_world.specs.declared.heap_call.HeapCall.TheVariants.{Enter}
use Rattle.heap_table.specs.Seen.{PassSeen}
use Rattle.heap_table.specs.declared.quick.QuickEnter.{QuickEnter}
use Rattle.lock_runtime.proofs.Quickly.{enter_rests}
use Rattle.lock_runtime_c.specs.inner.QuickCalls.{EntersQuickly, IsAnswered, IsOpenEnter}
use Rattle.lock_runtime_c.proofs.QuickCalls.{enter_over}
use Rattle.lock_runtime_c.proofs.enters.enter_on.Goals as goal

-- the quick way made the whole
pub returns-in-Done-clause-rests : goal.returns-in-Done-clause-rests
returns-in-Done-clause-rests c =
    let a = c.args in
    let opened = subst (λ (w : QuickEnter). IsOpenEnter a.heap.now a.pass.now a.object a.now w) c.in-Done.is c.requires in
    enter_rests a.heap.now opened.0 a.object a.now opened.1.begun.may opened.1.begun.came

pub returns-in-Done-clause-answer : goal.returns-in-Done-clause-answer
returns-in-Done-clause-answer c = λ p came.
    let a = c.args in
    let opened = subst (λ (w : QuickEnter). EntersQuickly a.heap.now p a.pass.now a.object a.now w) c.in-Done.is came in
    (enter_over a.heap.now p a.pass.now a.object a.now (progress.Done c.in-Done.path) _ opened.may opened.begun.may opened.begun.came
    (λ i. record { kind = 0; detail = c.path_number.ensures i; word = 0 })).1

pub returns-in-Raced-clause-rests : goal.returns-in-Raced-clause-rests
returns-in-Raced-clause-rests c =
    let a = c.args in
    let opened = subst (λ (w : QuickEnter). IsOpenEnter a.heap.now a.pass.now a.object a.now w) c.in-Raced.is c.requires in
    enter_rests a.heap.now opened.0 a.object a.now opened.1.begun.may opened.1.begun.came

pub returns-in-Raced-clause-answer : goal.returns-in-Raced-clause-answer
returns-in-Raced-clause-answer c = λ p came.
    let a = c.args in
    let opened = subst (λ (w : QuickEnter). EntersQuickly a.heap.now p a.pass.now a.object a.now w) c.in-Raced.is came in
    (enter_over a.heap.now p a.pass.now a.object a.now (progress.Pending (why.Raced c.in-Raced.expected c.in-Raced.found)) _
    opened.may opened.begun.may opened.begun.came c.answered.ensures).1

-- or nothing
pub returns-in-Not-clause-answer : goal.returns-in-Not-clause-answer
returns-in-Not-clause-answer c = λ p came.
    let a = c.args in
    let same = subst (λ (w : QuickEnter). EntersQuickly a.heap.now p a.pass.now a.object a.now w) c.in-Not.is came in
    subst (λ (x : PassSeen). IsAnswered a.heap.now (Enter a.object a.now) x c.enter_from_start.new.pass c.enter_from_start.result)
    same.0 c.enter_from_start.ensures.answer
