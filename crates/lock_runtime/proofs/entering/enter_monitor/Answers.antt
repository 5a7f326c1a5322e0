use Rattle.std.proofs.Common.{refl, sym, ap}
use Rattle.core_world.specs.Threads.ThreadView.{Local, local_of}
use Rattle.core_world.specs.Trees.MonitorSteps.{inflate_steps, monitor_enter_steps}
use Rattle.core_world.specs.Trees.Operations.{and_then}
use Rattle.lock_runtime.proofs.PartMade.{PartMade, first_due, next_due, next_made, last_made, room_after}
use Rattle.lock_runtime.proofs.entering.enter_monitor.Goals as goal
use Rattle.lock_runtime.proofs.entering.enter_monitor.Goals.{After-inflate}

pub inflate-requires-clause-due : goal.inflate-requires-clause-due
inflate-requires-clause-due c =
    let a = c.args in
    first_due (λ progress. and_then progress (λ m. monitor_enter_steps a.context.now (local_of a.pass.now.known) a.object m)) c.requires.due

-- the object was inflated, or that is pending
inflated : (c : After-inflate) → let a = c.args in let h = a.heap.now in let k = a.pass.now.known in
    PartMade h a.pass.now c.inflate.new.pass a.context.now.task (inflate_steps h.heap.shape a.context.now k.kept a.object)
    (λ progress. and_then progress (λ m. monitor_enter_steps a.context.now (local_of k) a.object m)) c.inflate.result
inflated c = record { due = c.requires.due; first = refl; made = c.inflate.ensures.run }

pub monitor_enter-requires-clause-due : goal.monitor_enter-requires-clause-due
monitor_enter-requires-clause-due c =
    let a = c.args in
    next_due (inflated (goal.at.monitor_enter-requires-clause-due c).After-inflate) c.in-Done.is
    (ap (λ (l : Local). monitor_enter_steps a.context.now l a.object c.in-Done.monitor) (sym c.inflate.ensures.local))

pub monitor_enter-requires-clause-room : goal.monitor_enter-requires-clause-room
monitor_enter-requires-clause-room c =
    room_after (inflated (goal.at.monitor_enter-requires-clause-room c).After-inflate) c.inflate.ensures.local c.requires.room

pub returns-in-Done : goal.returns-in-Done
returns-in-Done c =
    let a = c.args in
    next_made (inflated (goal.at.returns-in-Done c).After-inflate) c.in-Done.is
    (ap (λ (l : Local). monitor_enter_steps a.context.now l a.object c.in-Done.monitor) (sym c.inflate.ensures.local)) c.monitor_enter.ensures

pub returns-in-Pending : goal.returns-in-Pending
returns-in-Pending c = last_made (inflated (goal.at.returns-in-Pending c).After-inflate) c.in-Pending.is refl
