use Rattle.std.proofs.Common.{refl, sym, ap}
use Rattle.core_world.specs.Threads.ThreadView.{Local, local_of}
use Rattle.core_world.specs.Trees.MonitorSteps.{inflate_steps}
use Rattle.core_world.specs.Trees.Operations.{and_then}
use Rattle.lock_runtime.specs.inner.WaitParts.{letting_go}
use Rattle.lock_runtime.proofs.PartMade.{PartMade, first_due, next_due, next_made, last_made}
use Rattle.lock_runtime.proofs.waiting.wait_inflated.Goals as goal
use Rattle.lock_runtime.proofs.waiting.wait_inflated.Goals.{After-inflate}

pub inflate-requires-clause-due : goal.inflate-requires-clause-due
inflate-requires-clause-due c =
    let a = c.args in
    first_due (λ progress. and_then progress (λ m. letting_go a.context.now (local_of a.pass.now.known) a.object m)) c.requires.due

-- the object was inflated, or that is pending
inflated : (c : After-inflate) → let a = c.args in let h = a.heap.now in let k = a.pass.now.known in
    PartMade h a.pass.now c.inflate.new.pass a.context.now.task (inflate_steps h.heap.shape a.context.now k.kept a.object)
    (λ progress. and_then progress (λ m. letting_go a.context.now (local_of k) a.object m)) c.inflate.result
inflated c = record { due = c.requires.due; first = refl; made = c.inflate.ensures.run }

pub let_go-requires-clause-due : goal.let_go-requires-clause-due
let_go-requires-clause-due c =
    let a = c.args in
    next_due (inflated (goal.at.let_go-requires-clause-due c).After-inflate) c.in-Done.is
    (ap (λ (l : Local). letting_go a.context.now l a.object c.in-Done.monitor) (sym c.inflate.ensures.local))

pub returns-in-Done : goal.returns-in-Done
returns-in-Done c =
    let a = c.args in
    next_made (inflated (goal.at.returns-in-Done c).After-inflate) c.in-Done.is
    (ap (λ (l : Local). letting_go a.context.now l a.object c.in-Done.monitor) (sym c.inflate.ensures.local)) c.let_go.ensures

pub returns-in-Pending : goal.returns-in-Pending
returns-in-Pending c = last_made (inflated (goal.at.returns-in-Pending c).After-inflate) c.in-Pending.is refl
