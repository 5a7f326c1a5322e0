use Rattle.std.proofs.Common.{◌≡◌, refl, sym, ap, ◌∙◌}
use Rattle.core_world.specs.declared.stage.Stage.TheVariants.{Settled}
use Rattle.core_world.specs.Threads.ThreadView.{Local}
use Rattle.core_world.specs.Trees.DeflateSteps.{deflate_steps}
use Rattle.core_world.specs.Trees.LookSteps.{stands_still_steps}
use Rattle.core_world.specs.Trees.Operations.{check_ending}
use Rattle.core_world.specs.Trees.StepTree.{◌>>=◌}
use Rattle.lock_runtime.proofs.Dumped.{first_deflation}
use Rattle.lock_runtime.proofs.Looked.{run_thread, first_look}
use Rattle.lock_runtime.proofs.PartMade.{PartMade, first_due, next_due, next_made}
use Rattle.lock_runtime.proofs.looking.check_reached.Goals as goal
use Rattle.lock_runtime.proofs.looking.check_reached.Goals.{After-stands_still-still, After-deflate_idle}

pub stands_still-still-requires-clause-due : goal.stands_still-still-requires-clause-due
stands_still-still-requires-clause-due c =
    let a = c.args in
    let e = a.context.now in
    first_due (λ still. deflate_steps a.heap.now.heap.shape e Settled >>= (λ _. check_ending still e a.pass.now.known.thread)) c.requires.due

-- the thread looked at all others
looked : (c : After-stands_still-still) → let a = c.args in let s = a.heap.now.heap.shape in let e = a.context.now in
    PartMade a.heap.now a.pass.now c.stands_still-still.new.pass e.task (stands_still_steps e s)
    (λ still. deflate_steps s e Settled >>= (λ _. check_ending still e a.pass.now.known.thread)) c.stands_still-still.result
looked c = record { due = c.requires.due; first = first_look c.args.context.now c.args.heap.now.heap.shape; made = c.stands_still-still.ensures }

pub deflate_idle-requires-clause-due : goal.deflate_idle-requires-clause-due
deflate_idle-requires-clause-due c =
    let a = c.args in
    first_due (λ _. check_ending c.stands_still-still.result a.context.now a.pass.now.known.thread)
    (next_due (looked (goal.at.deflate_idle-requires-clause-due c).After-stands_still-still) refl refl)

-- and gave idle monitors back
deflated : (c : After-deflate_idle) → let a = c.args in let e = a.context.now in
    PartMade a.heap.now c.stands_still-still.new.pass c.deflate_idle.new.pass e.task (deflate_steps a.heap.now.heap.shape e Settled)
    (λ _. check_ending c.stands_still-still.result e a.pass.now.known.thread) tt
deflated c = record {
  due = next_due (looked c.before.before) refl refl;
  first = first_deflation c.args.heap.now.heap.shape c.args.context.now Settled;
  made = c.deflate_idle.ensures.run;
}

-- it is the same thread still
ending : (c : After-deflate_idle) → let e = c.args.context.now in
    check_ending c.stands_still-still.result e c.args.pass.now.known.thread
    ≡ check_ending c.stands_still-still.result e c.deflate_idle.new.pass.known.thread
ending c =
    let a = c.args in
    let thread = run_thread a.heap.now _ a.pass.now c.stands_still-still.new.pass c.stands_still-still.result c.stands_still-still.ensures in
    ap (check_ending c.stands_still-still.result a.context.now) (sym (ap (λ (l : Local). l.thread) c.deflate_idle.ensures.local ∙ thread))

pub end_check-requires-clause-due : goal.end_check-requires-clause-due
end_check-requires-clause-due c =
    let z = (goal.at.end_check-requires-clause-due c).After-deflate_idle in next_due (deflated z) refl (ending z)

pub returns : goal.returns
returns c =
    let z = (goal.at.returns c).After-deflate_idle in
    next_made (looked (goal.at.returns c).After-stands_still-still) refl refl (next_made (deflated z) refl (ending z) c.end_check.ensures)
