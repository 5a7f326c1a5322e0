use Rattle.std.proofs.Common.{◌≡◌, refl, sym, ap, arith}
use Rattle.core_world.specs.Threads.ThreadView.{local_of}
use Rattle.core_world.specs.Trees.WaitSteps.{monitor_wait_steps, monitor_resume_steps}
use Rattle.lock_runtime.proofs.Looked.{run_thread}
use Rattle.lock_runtime.proofs.PartMade.{PartMade, first_due, next_due, next_made}
use Rattle.lock_runtime.proofs.Waits.{logs_wait}
use Rattle.lock_runtime.proofs.waiting.let_go.Goals as goal
use Rattle.lock_runtime.proofs.waiting.let_go.Goals.{After-monitor_wait-saved}

pub monitor_wait-saved-requires-clause-due : goal.monitor_wait-saved-requires-clause-due
monitor_wait-saved-requires-clause-due c =
    first_due (λ saved. monitor_resume_steps c.args.context.now c.args.pass.now.known.thread saved c.args.object) c.requires.due

-- the thread let go
gone : (c : After-monitor_wait-saved) → let a = c.args in let k = local_of a.pass.now.known in
    PartMade a.heap.now a.pass.now c.monitor_wait-saved.new.pass a.context.now.task (monitor_wait_steps a.context.now k a.object a.monitor)
    (λ saved. monitor_resume_steps a.context.now k.thread saved a.object) c.monitor_wait-saved.result
gone c = record { due = c.requires.due; first = refl; made = c.monitor_wait-saved.ensures }

-- it is the same thread that resumes
resuming : (c : After-monitor_wait-saved) → let a = c.args in
    monitor_resume_steps a.context.now a.pass.now.known.thread c.monitor_wait-saved.result a.object
    ≡ monitor_resume_steps a.context.now c.monitor_wait-saved.new.pass.known.thread c.monitor_wait-saved.result a.object
resuming c =
    let a = c.args in
    let thread = run_thread a.heap.now _ a.pass.now c.monitor_wait-saved.new.pass c.monitor_wait-saved.result c.monitor_wait-saved.ensures in
    ap (λ t. monitor_resume_steps a.context.now t c.monitor_wait-saved.result a.object) (sym thread)

pub monitor_resume-requires-clause-due : goal.monitor_resume-requires-clause-due
monitor_resume-requires-clause-due c =
    let z = (goal.at.monitor_resume-requires-clause-due c).After-monitor_wait-saved in next_due (gone z) refl (resuming z)

pub monitor_resume-requires-clause-room : goal.monitor_resume-requires-clause-room
monitor_resume-requires-clause-room c =
    let a = c.args in
    let p = a.pass.now in
    let q = c.monitor_wait-saved.new.pass in
    let one = logs_wait a.heap.now a.context.now (local_of p.known) a.object a.monitor p q c.monitor_wait-saved.result c.monitor_wait-saved.ensures in
    let limit = c.monitor_wait-saved.ensures.limit in
    let room = c.requires.room in
    omega (arith, one, limit, room)

pub returns : goal.returns
returns c = let z = (goal.at.returns c).After-monitor_wait-saved in next_made (gone z) refl (resuming z) c.monitor_resume.ensures
