use Rattle.std.proofs.Common.{◌∙◌, inl, inr}
use Rattle.thread_interp.proofs.CallsTimed.{check_timed}
use Rattle.thread_interp.proofs.Turns.{may_check, not_checked, barred_runner, check_on, check_left, check_thread, check_log, has_checked, is_runner, set_still}
use Rattle.thread_interp.proofs.turn.check.Goals as goal

pub set_running-requires-clause-on : goal.set_running-requires-clause-on
set_running-requires-clause-on g c = c.requires.runner.on

pub returns-in-Pending-clause-runner : goal.returns-in-Pending-clause-runner
returns-in-Pending-clause-runner g c =
    let a = c.args in
    let run = a.run.now in
    barred_runner run.heap.now run.program.now run.fuel 0 a.pass.now c.set_running.new.pass
    a.frame.now c.requires.live c.in-Pending.why c.in-Pending.ensures.ready

pub returns-in-Pending-clause-thread : goal.returns-in-Pending-clause-thread
returns-in-Pending-clause-thread g c = c.set_running.ensures.ready.thread

pub returns-in-Pending-clause-stands : goal.returns-in-Pending-clause-stands
returns-in-Pending-clause-stands g c =
    let a = c.args in
    let run = a.run.now in
    not_checked run.heap.now run.program.now run.fuel a.pass.now c.set_running.new.pass a.frame.now c.requires.free c.requires.live
    c.in-Pending.why c.in-Pending.ensures.ready

pub check_stuck-stuck-requires : goal.check_stuck-stuck-requires
check_stuck-stuck-requires g c =
    let a = c.args in
    let run = a.run.now in
    may_check run.heap.now run.program.now run.fuel a.pass.now c.set_running.new.pass a.frame.now c.requires.free c.requires.live
    c.set_running.result c.set_running.ensures.ready c.in_default.ensures.ready.stands.goes

pub set_stopped-requires : goal.set_stopped-requires
set_stopped-requires g c =
    let a = c.args in
    let run = a.run.now in
    let e = c.check_stuck-stuck.ensures in
    record {
      on = check_on run.heap.now run.program.now run.fuel c.set_running.new.pass c.check_stuck-stuck.new.pass a.frame.now
          c.set_running.ensures.ready.on c.requires.live e.rests c.check_stuck-stuck.result e.run e.says e.stands;
    }

pub returns-clause-runner : goal.returns-clause-runner
returns-clause-runner g c =
    let a = c.args in
    let run = a.run.now in
    is_runner run.heap.now run.program.now run.fuel c.check_stuck-stuck.new.pass c.set_stopped.new.pass a.frame.now c.set_stopped.ensures.still

pub returns-clause-thread : goal.returns-clause-thread
returns-clause-thread g c =
    let a = c.args in
    let run = a.run.now in
    let e = c.check_stuck-stuck.ensures in
    c.set_stopped.ensures.still.thread
    ∙ check_thread run.heap.now run.program.now run.fuel c.set_running.new.pass c.check_stuck-stuck.new.pass a.frame.now
    c.set_running.ensures.ready.on c.requires.live e.rests c.check_stuck-stuck.result e.run e.says e.stands
    ∙ c.set_running.ensures.ready.thread

pub returns-in-Pending-clause-log : goal.returns-in-Pending-clause-log
returns-in-Pending-clause-log g c = c.set_running.ensures.ready.log

pub returns-in-Pending-clause-looked : goal.returns-in-Pending-clause-looked
returns-in-Pending-clause-looked g c =
    let kept = c.in-Pending.ensures.ready.stands in
    inr (kept.free, kept.pended)

pub returns-clause-log : goal.returns-clause-log
returns-clause-log g c =
    let a = c.args in
    let run = a.run.now in
    let e = c.check_stuck-stuck.ensures in
    c.set_stopped.ensures.still.log
    ∙ check_log run.heap.now run.program.now run.fuel c.set_running.new.pass c.check_stuck-stuck.new.pass a.frame.now
    c.set_running.ensures.ready.on c.requires.live e.rests c.check_stuck-stuck.result e.run e.says e.stands
    ∙ c.set_running.ensures.ready.log

pub returns-clause-looked : goal.returns-clause-looked
returns-clause-looked g c =
    let a = c.args in
    let run = a.run.now in
    let after = c.check_stuck-stuck in
    inl (record {
      ready = c.set_running.new.pass;
      after = after.new.pass;
      set_running = c.in_default.ensures.ready.stands.set;
      ran = after.ensures.run.ran;
      finds = after.ensures.finds;
      set_still = set_still run.heap.now run.program.now run.fuel after.new.pass c.set_stopped.new.pass a.frame.now c.set_stopped.ensures.still;
    })

pub returns-clause-stands : goal.returns-clause-stands
returns-clause-stands g c =
    let a = c.args in
    let run = a.run.now in
    let e = c.check_stuck-stuck.ensures in
    let left =
    check_left run.heap.now run.program.now run.fuel c.set_running.new.pass c.check_stuck-stuck.new.pass a.frame.now
    c.set_running.ensures.ready.on c.requires.live e.rests c.check_stuck-stuck.result e.run e.says e.stands in
    has_checked run.heap.now run.program.now run.fuel c.check_stuck-stuck.new.pass c.set_stopped.new.pass a.frame.now c.set_stopped.ensures.still
    c.check_stuck-stuck.result left e.stands

pub returns-in-Pending-clause-timed : goal.returns-in-Pending-clause-timed
returns-in-Pending-clause-timed g c = c.set_running.ensures.timed

pub returns-clause-timed : goal.returns-clause-timed
returns-clause-timed g c = λ tick timed.
    let e = c.check_stuck-stuck in
    c.set_stopped.ensures.timed tick
    (check_timed c.args.run.now.heap.now c.set_running.new.pass e.new.pass e.result e.ensures.run tick (c.set_running.ensures.timed tick timed))
