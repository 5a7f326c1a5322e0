use Rattle.std.proofs.Common.{true, false, refl, sym, subst}
use Rattle.core_world.specs.declared.answer.Progress.TheVariants.{Done}
use Rattle.core_world.specs.Trees.Operations.{check_ending}
use Rattle.core_world.specs.Trees.Plans.{done_with}
use Rattle.heap_table.specs.Parts.{IsDueOn, HasMadeSteps}
use Rattle.lock_runtime.proofs.PartMade.{first_due, then_ends}
use Rattle.lock_runtime.proofs.looking.end_check.Goals as goal

pub halt-requires-clause-due : goal.halt-requires-clause-due
halt-requires-clause-due c =
    let a = c.args in
    let p = a.pass.now in
    first_due (λ _. done_with true)
    (subst (λ b. IsDueOn a.heap.now p a.context.now.task (check_ending b a.context.now p.known.thread)) c.if-still.true c.requires.due)

pub release-requires-clause-due : goal.release-requires-clause-due
release-requires-clause-due c =
    let a = c.args in
    let p = a.pass.now in
    first_due (λ _. done_with false)
    (subst (λ b. IsDueOn a.heap.now p a.context.now.task (check_ending b a.context.now p.known.thread)) c.if-still.false c.requires.due)

pub returns-then-still : goal.returns-then-still
returns-then-still c =
    let a = c.args in
    let p = a.pass.now in
    subst (λ b. HasMadeSteps a.heap.now (check_ending b a.context.now p.known.thread) p c.halt.new.pass (Done true)) (sym c.if-still.true)
    (then_ends (λ _. done_with true) refl c.halt.ensures)

pub returns : goal.returns
returns c =
    let a = c.args in
    let p = a.pass.now in
    subst (λ b. HasMadeSteps a.heap.now (check_ending b a.context.now p.known.thread) p c.release.new.pass (Done false)) (sym c.if-still.false)
    (then_ends (λ _. done_with false) refl c.release.ensures)
