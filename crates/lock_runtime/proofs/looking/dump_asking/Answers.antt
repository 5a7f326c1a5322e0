use Rattle.std.proofs.Common.{◌≡◌, refl, sym, ap}
use Rattle.core_world.specs.Threads.ThreadView.{Local, local_of}
use Rattle.core_world.specs.Trees.Operations.{and_then}
use Rattle.core_world.specs.Trees.SafepointSteps.{safepoint_steps}
use Rattle.lock_runtime.specs.inner.LookParts.{reached_dump}
use Rattle.lock_runtime.proofs.Asides.{safepoint_aside}
use Rattle.lock_runtime.proofs.Dumped.{bare, bare_run, dumped_of, run_of}
use Rattle.lock_runtime.proofs.PartMade.{PartMade, first_due, next_due, next_made, last_made, alike_after, room_after}
use Rattle.lock_runtime.proofs.Reached.{dump_is_reached}
use Rattle.lock_runtime.proofs.Revoked.{first_safepoint}
use Rattle.lock_runtime.proofs.looking.dump_asking.Goals as goal
use Rattle.lock_runtime.proofs.looking.dump_asking.Goals.{After-safepoint}

pub safepoint-requires-clause-due : goal.safepoint-requires-clause-due
safepoint-requires-clause-due c =
    let a = c.args in
    first_due (λ progress. and_then progress (λ _. reached_dump a.heap.now.heap.shape a.context.now (local_of a.pass.now.known) a.number)) c.requires.due

-- the thread asked for its safepoint
asked : (c : After-safepoint) → let a = c.args in let e = a.context.now in let l = local_of a.pass.now.known in
    PartMade a.heap.now (bare a.pass.now) (bare c.safepoint.new.pass) e.task (safepoint_steps e l.thread a.requesting)
    (λ progress. and_then progress (λ _. reached_dump a.heap.now.heap.shape e l a.number)) c.safepoint.result
asked c =
    let a = c.args in
    record {
      due = c.requires.due;
      first = first_safepoint a.context.now a.pass.now.known.thread a.requesting;
      made = bare_run c.safepoint.ensures;
    }

-- after it the thread's log and own words are as before
same : (c : After-safepoint) → local_of c.safepoint.new.pass.known ≡ local_of c.args.pass.now.known
same c = (alike_after (asked c) (safepoint_aside c.args.context.now c.args.pass.now.known.thread c.args.requesting)).local

-- so the dump goes on by the same steps
reached : (c : After-safepoint) → let a = c.args in let s = a.heap.now.heap.shape in
    reached_dump s a.context.now (local_of a.pass.now.known) a.number ≡ reached_dump s a.context.now (local_of c.safepoint.new.pass.known) a.number
reached c = let a = c.args in ap (λ (l : Local). reached_dump a.heap.now.heap.shape a.context.now l a.number) (sym (same c))

pub dump_reached-requires-clause-reached : goal.dump_reached-requires-clause-reached
dump_reached-requires-clause-reached c =
    let a = c.args in
    let thread = ap (λ (l : Local). l.thread) (same (goal.at.dump_reached-requires-clause-reached c).After-safepoint) in
    dump_is_reached a.heap.now a.pass.now c.safepoint.new.pass a.context.now (local_of a.pass.now.known) a.number a.requesting c.requires.due
    (rw c.in-Done.is at c.safepoint.ensures) thread

pub dump_reached-requires-clause-due : goal.dump_reached-requires-clause-due
dump_reached-requires-clause-due c =
    let z = (goal.at.dump_reached-requires-clause-due c).After-safepoint in next_due (asked z) c.in-Done.is (reached z)

pub dump_reached-requires-clause-room : goal.dump_reached-requires-clause-room
dump_reached-requires-clause-room c =
    let z = (goal.at.dump_reached-requires-clause-room c).After-safepoint in room_after (asked z) (same z) c.requires.room

pub returns-in-Done : goal.returns-in-Done
returns-in-Done c =
    let z = (goal.at.returns-in-Done c).After-safepoint in dumped_of (next_made (asked z) c.in-Done.is (reached z) (run_of c.dump_reached.ensures))

pub returns-in-Pending : goal.returns-in-Pending
returns-in-Pending c = dumped_of (last_made (asked (goal.at.returns-in-Pending c).After-safepoint) c.in-Pending.is refl)
