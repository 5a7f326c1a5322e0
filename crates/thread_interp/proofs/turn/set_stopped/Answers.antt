use Rattle.thread_interp.proofs.CallsTimed.{stop_timed}
use Rattle.thread_interp.proofs.Turns.{may_stop, still_kept, still_stopped}
use Rattle.std.proofs.Common.{sym, ◌∙◌}
use Rattle.thread_interp.proofs.turn.set_stopped.Goals as goal

pub stop-requires : goal.stop-requires
stop-requires g c =
    let a = c.args in
    let run = a.run.now in
    may_stop run.heap.now run.program.now run.fuel a.pass.now a.frame.now c.requires.on (sym c.running.ensures ∙ c.if-not-running.false)

pub returns-clause-still : goal.returns-clause-still
returns-clause-still g c =
    let a = c.args in
    let run = a.run.now in
    let e = c.stop.ensures in
    still_stopped run.heap.now run.program.now run.fuel a.pass.now a.frame.now c.requires.on c.stop.new.pass
    (sym c.running.ensures ∙ c.if-not-running.false) e.rests e.run e.says e.stands

pub returns-then-not-running-clause-still : goal.returns-then-not-running-clause-still
returns-then-not-running-clause-still g c =
    let a = c.args in
    let run = a.run.now in
    still_kept run.heap.now run.program.now run.fuel a.pass.now a.frame.now c.requires.on (sym c.running.ensures ∙ c.if-not-running.true)

pub returns-clause-timed : goal.returns-clause-timed
returns-clause-timed g c = stop_timed c.args.run.now.heap.now c.args.pass.now c.stop.new.pass c.stop.ensures.run
