use Rattle.std.proofs.Common.{refl, subst}
use Rattle.core_world.specs.declared.answer.PendingCause.TheVariants as why
use Rattle.core_world.specs.declared.answer.Progress.TheVariants as progress
use Rattle.core_world.specs.declared.heap_call.HeapCall.TheVariants.{Exit}
use Rattle.heap_table.specs.Seen.{PassSeen}
use Rattle.heap_table.specs.declared.quick.QuickExit.{QuickExit}
use Rattle.lock_runtime.proofs.Quickly.{exit_rests}
use Rattle.lock_runtime_c.specs.inner.QuickCalls.{ExitsQuickly, IsAnswered, IsOpenExit}
use Rattle.lock_runtime_c.proofs.QuickCalls.{exit_over}
use Rattle.lock_runtime_c.proofs.exits.exit_on.Goals as goal

-- the quick way made the whole
pub returns-in-Left-clause-rests : goal.returns-in-Left-clause-rests
returns-in-Left-clause-rests c =
    let a = c.args in
    let opened = subst (λ (w : QuickExit). IsOpenExit a.heap.now a.pass.now a.object w) c.in-Left.is c.requires in
    exit_rests a.heap.now opened.0 a.object opened.1.begun.may opened.1.begun.came

pub returns-in-Left-clause-answer : goal.returns-in-Left-clause-answer
returns-in-Left-clause-answer c = λ p came.
    let a = c.args in
    let opened = subst (λ (w : QuickExit). ExitsQuickly a.heap.now p a.pass.now a.object w) c.in-Left.is came in
    (exit_over a.heap.now p a.pass.now a.object (progress.Done (tt {0})) _ opened.may opened.begun.may opened.begun.came refl).1

pub returns-in-Raced-clause-rests : goal.returns-in-Raced-clause-rests
returns-in-Raced-clause-rests c =
    let a = c.args in
    let opened = subst (λ (w : QuickExit). IsOpenExit a.heap.now a.pass.now a.object w) c.in-Raced.is c.requires in
    exit_rests a.heap.now opened.0 a.object opened.1.begun.may opened.1.begun.came

pub returns-in-Raced-clause-answer : goal.returns-in-Raced-clause-answer
returns-in-Raced-clause-answer c = λ p came.
    let a = c.args in
    let opened = subst (λ (w : QuickExit). ExitsQuickly a.heap.now p a.pass.now a.object w) c.in-Raced.is came in
    (exit_over a.heap.now p a.pass.now a.object (progress.Pending (why.Raced c.in-Raced.expected c.in-Raced.found)) _
    opened.may opened.begun.may opened.begun.came c.answered-in-Raced.ensures).1

pub returns-in-Inflating-clause-rests : goal.returns-in-Inflating-clause-rests
returns-in-Inflating-clause-rests c =
    let a = c.args in
    let opened = subst (λ (w : QuickExit). IsOpenExit a.heap.now a.pass.now a.object w) c.in-Inflating.is c.requires in
    exit_rests a.heap.now opened.0 a.object opened.1.begun.may opened.1.begun.came

pub returns-in-Inflating-clause-answer : goal.returns-in-Inflating-clause-answer
returns-in-Inflating-clause-answer c = λ p came.
    let a = c.args in
    let opened = subst (λ (w : QuickExit). ExitsQuickly a.heap.now p a.pass.now a.object w) c.in-Inflating.is came in
    (exit_over a.heap.now p a.pass.now a.object (progress.Pending why.Inflating) _
    opened.may opened.begun.may opened.begun.came c.answered.ensures).1

-- or nothing
pub returns-in-Not-clause-answer : goal.returns-in-Not-clause-answer
returns-in-Not-clause-answer c = λ p came.
    let a = c.args in
    let same = subst (λ (w : QuickExit). ExitsQuickly a.heap.now p a.pass.now a.object w) c.in-Not.is came in
    subst (λ (x : PassSeen). IsAnswered a.heap.now (Exit a.object) x c.exit_from_start.new.pass c.exit_from_start.result)
    same.0 c.exit_from_start.ensures.answer
