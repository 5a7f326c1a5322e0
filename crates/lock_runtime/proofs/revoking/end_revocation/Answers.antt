use Rattle.std.proofs.Common.{refl, sym, ap}
use Rattle.core_world.specs.Threads.ThreadView.{Local}
use Rattle.core_world.specs.Trees.DeflateSteps.{deflate_steps}
use Rattle.core_world.specs.Trees.Plans.{done_with}
use Rattle.core_world.specs.Trees.SafepointSteps.{release_to}
use Rattle.core_world.specs.Trees.StepTree.{◌>>=◌}
use Rattle.lock_runtime.proofs.Dumped.{first_deflation}
use Rattle.lock_runtime.proofs.PartMade.{PartMade, first_due, next_due, next_made, then_ends}
use Rattle.lock_runtime.proofs.revoking.end_revocation.Goals as goal
use Rattle.lock_runtime.proofs.revoking.end_revocation.Goals.{After-deflate_idle}

pub deflate_idle-requires-clause-due : goal.deflate_idle-requires-clause-due
deflate_idle-requires-clause-due c =
    let a = c.args in
    first_due (λ _. release_to a.stage a.context.now a.pass.now.known.thread >>= (λ _. done_with a.took)) c.requires.due

-- idle monitors are given back
deflated : (c : After-deflate_idle) → let a = c.args in
    PartMade a.heap.now a.pass.now c.deflate_idle.new.pass a.context.now.task (deflate_steps a.heap.now.heap.shape a.context.now a.stage)
    (λ _. release_to a.stage a.context.now a.pass.now.known.thread >>= (λ _. done_with a.took)) tt
deflated c =
    let a = c.args in
    record { due = c.requires.due; first = first_deflation a.heap.now.heap.shape a.context.now a.stage; made = c.deflate_idle.ensures.run }

pub release_to-requires-clause-due : goal.release_to-requires-clause-due
release_to-requires-clause-due c =
    let a = c.args in
    first_due (λ _. done_with a.took) (next_due (deflated (goal.at.release_to-requires-clause-due c).After-deflate_idle) refl
    (ap (λ (l : Local). release_to a.stage a.context.now l.thread >>= (λ _. done_with a.took)) (sym c.deflate_idle.ensures.local)))

pub returns : goal.returns
returns c =
    let a = c.args in
    next_made (deflated (goal.at.returns c).After-deflate_idle) refl
    (ap (λ (l : Local). release_to a.stage a.context.now l.thread >>= (λ _. done_with a.took)) (sym c.deflate_idle.ensures.local))
    (then_ends (λ _. done_with a.took) refl c.release_to.ensures)
