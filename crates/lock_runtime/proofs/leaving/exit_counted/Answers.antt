use Rattle.std.proofs.Common.{◌<◌, refl, sym, subst}
use Rattle.core_world.specs.declared.heap_call.HeapCall.TheVariants.{Exit}
use Rattle.core_world.specs.declared.heap_call.Operation.TheVariants as op
use Rattle.core_world.specs.Threads.ThreadView.{local_of}
use Rattle.core_world.specs.Trees.Calls.{steps_of}
use Rattle.core_world.specs.Trees.Operations.{exit_going}
use Rattle.core_world.specs.Trees.Plans.{call_context}
use Rattle.core_calls.proofs.enter_exit.EntersSay.{exit_says}
use Rattle.core_calls.proofs.Runs.{tells}
use Rattle.heap_table.specs.Resting.{start_now}
use Rattle.lock_runtime.proofs.Begins.{object_there, room_one}
use Rattle.lock_runtime.proofs.Goes.{GoesIfHeld, goes_due, goes_made, goes_rests}
use Rattle.lock_runtime.proofs.LeftNothing.{first_to_exit}
use Rattle.lock_runtime.proofs.Refused.{some_by_log, goes_by_log}
use Rattle.lock_runtime.proofs.StandsCalls.{exit_leaves}
use Rattle.lock_runtime.proofs.leaving.exit_counted.Goals as goal
use Rattle.lock_runtime.proofs.leaving.exit_counted.Goals.{After-unfinished-context}

pub leave_held-requires-clause-object : goal.leave_held-requires-clause-object
leave_held-requires-clause-object c =
    object_there c.args.heap.now.heap.shape c.args.pass.now.known c.args.object _ c.requires.may.call.may

pub leave_held-requires-clause-room : goal.leave_held-requires-clause-room
leave_held-requires-clause-room c = room_one c.args.heap.now c.args.pass.now (Exit c.args.object) c.requires.may

pub leave_held-requires-clause-some : goal.leave_held-requires-clause-some
leave_held-requires-clause-some c =
    let held = some_by_log c.args.heap.now c.args.pass.now c.requires.may.call.rests c.args.object c.requires.held in
    subst (λ n. 0 < n) (sym c.requires.depth) held

-- the thread has a hold on the object, so the call goes on
goes : (c : After-unfinished-context) → let a = c.args in
    GoesIfHeld a.heap.now a.pass.now a.object (λ e. exit_going e (local_of a.pass.now.known) a.object) (call_context (Exit a.object) op.Exit a.object)
    c.unfinished-context.result
unfolding steps_of
goes c = record {
  call = c.requires.may.call;
  steps = refl;
  goes = goes_by_log c.args.heap.now c.args.pass.now c.requires.may.call.rests c.args.object c.requires.held;
  context = c.unfinished-context.ensures;
}

pub leave_held-requires-clause-due : goal.leave_held-requires-clause-due
leave_held-requires-clause-due c = goes_due (goes (goal.at.leave_held-requires-clause-due c).After-unfinished-context)

pub returns : goal.returns
returns c =
    let a = c.args in
    let h = a.heap.now in
    let p = a.pass.now in
    let g = goes (goal.at.returns c).After-unfinished-context in
    let run = goes_made g c.leave_held.ensures in
    record {
      rests = goes_rests g tt (first_to_exit (call_context (Exit a.object) op.Exit a.object) (local_of p.known) a.object) c.leave_held.ensures;
      run = run;
      says = tells (exit_says (start_now h p) a.object) run.ran;
      stands = (exit_leaves h p c.leave_held.new.pass run.heap c.requires.may.call.rests a.object c.requires.may.call.may run.ran).0;
    }
