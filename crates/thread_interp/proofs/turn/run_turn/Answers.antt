use Rattle.std.proofs.Common.{◌∙◌}
use Rattle.thread_interp.proofs.Turns.{barred_moved, barred_runner, may_go, has_moved, is_runner}
use Rattle.thread_interp.proofs.turn.run_turn.Goals as goal

pub set_running-requires-clause-on : goal.set_running-requires-clause-on
set_running-requires-clause-on g c = c.requires.runner.on

pub run_quantum-moved-requires-clause-may : goal.run_quantum-moved-requires-clause-may
run_quantum-moved-requires-clause-may g c =
    let a = c.args in
    let run = a.run.now in
    may_go run.heap.now run.program.now run.fuel a.pass.now c.set_running.new.pass a.frame.now c.set_running.result c.requires.unchecked c.requires.live
    c.set_running.ensures.ready c.in_default.ensures.ready.stands.goes

pub set_stopped-requires : goal.set_stopped-requires
set_stopped-requires g c = record { on = c.run_quantum-moved.ensures.gone.on }

pub returns-in-Pending-clause-runner : goal.returns-in-Pending-clause-runner
returns-in-Pending-clause-runner g c =
    let a = c.args in
    let run = a.run.now in
    barred_runner run.heap.now run.program.now run.fuel run.quantum a.pass.now
    c.set_running.new.pass a.frame.now c.requires.live c.in-Pending.why c.in-Pending.ensures.ready

pub returns-in-Pending-clause-unchecked : goal.returns-in-Pending-clause-unchecked
returns-in-Pending-clause-unchecked g c = c.set_running.ensures.ready.checking ∙ c.requires.unchecked

pub returns-in-Pending-clause-thread : goal.returns-in-Pending-clause-thread
returns-in-Pending-clause-thread g c = c.set_running.ensures.ready.thread

pub returns-in-Pending-clause-moved : goal.returns-in-Pending-clause-moved
returns-in-Pending-clause-moved g c =
    let a = c.args in
    let run = a.run.now in
    barred_moved run.heap.now run.program.now run.fuel run.quantum a.pass.now
    c.set_running.new.pass a.frame.now c.requires.live c.in-Pending.why c.in-Pending.ensures.ready
    c.requires.runner.on.rests

pub returns-clause-runner : goal.returns-clause-runner
returns-clause-runner g c =
    let run = c.args.run.now in
    is_runner run.heap.now run.program.now run.fuel c.run_quantum-moved.new.pass
    c.set_stopped.new.pass c.run_quantum-moved.new.frame c.set_stopped.ensures.still

pub returns-clause-unchecked : goal.returns-clause-unchecked
returns-clause-unchecked g c = c.set_stopped.ensures.still.checking ∙ c.run_quantum-moved.ensures.gone.unchecked

pub returns-clause-thread : goal.returns-clause-thread
returns-clause-thread g c = c.set_stopped.ensures.still.thread ∙ c.run_quantum-moved.ensures.gone.thread ∙ c.set_running.ensures.ready.thread

pub returns-clause-moved : goal.returns-clause-moved
returns-clause-moved g c =
    let a = c.args in
    let run = a.run.now in
    has_moved run.heap.now run.program.now run.fuel c.run_quantum-moved.new.pass
    c.set_stopped.new.pass c.run_quantum-moved.new.frame c.set_stopped.ensures.still
    run.quantum a.pass.now c.set_running.new.pass a.frame.now c.in_default.ensures.ready.stands c.set_running.ensures.ready.asking
    c.run_quantum-moved.result c.run_quantum-moved.ensures.gone

pub returns-in-Pending-clause-timed : goal.returns-in-Pending-clause-timed
returns-in-Pending-clause-timed g c = c.set_running.ensures.timed c.args.run.now.tick

pub returns-clause-timed : goal.returns-clause-timed
returns-clause-timed g c = λ timed.
    c.set_stopped.ensures.timed c.args.run.now.tick (c.run_quantum-moved.ensures.timed (c.set_running.ensures.timed c.args.run.now.tick timed))
