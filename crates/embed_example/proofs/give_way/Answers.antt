use Rattle.embed_example.proofs.After.{beside_both, beside_poll, beside_stop, may_beside}
use Rattle.embed_example.proofs.give_way.Goals as goal

-- a poll, a stop and a resume, none of which logs anything
pub returns-clause-beside : goal.returns-clause-beside
returns-clause-beside g c =
    let h = c.args.heap.now in
    let p = c.args.pass.now in
    let polled = beside_poll h p c.poll.new.pass c.poll.result c.poll.ensures.rests c.poll.ensures.run.limit c.poll.ensures.says in
    let stopped = beside_stop h c.poll.new.pass c.stop.new.pass c.stop.result c.stop.ensures.rests c.stop.ensures.run.limit c.stop.ensures.says in
    beside_both h p c.stop.new.pass c.set_running.new.pass (beside_both h p c.poll.new.pass c.stop.new.pass polled stopped) c.set_running.ensures.beside

pub returns-clause-may : goal.returns-clause-may
returns-clause-may g c = λ w o may.
    let h = c.args.heap.now in
    let p = c.args.pass.now in
    let polled = beside_poll h p c.poll.new.pass c.poll.result c.poll.ensures.rests c.poll.ensures.run.limit c.poll.ensures.says in
    let stopped = beside_stop h c.poll.new.pass c.stop.new.pass c.stop.result c.stop.ensures.rests c.stop.ensures.run.limit c.stop.ensures.says in
    let beside = beside_both h p c.stop.new.pass c.set_running.new.pass
    (beside_both h p c.poll.new.pass c.stop.new.pass polled stopped) c.set_running.ensures.beside in
    may_beside h w o p c.set_running.new.pass beside c.in_ok-set_running.ensures.running may

-- also where the run is halted meanwhile
pub returns-in_err-set_running-clause-beside : goal.returns-in_err-set_running-clause-beside
returns-in_err-set_running-clause-beside g c =
    let h = c.args.heap.now in
    let p = c.args.pass.now in
    let polled = beside_poll h p c.poll.new.pass c.poll.result c.poll.ensures.rests c.poll.ensures.run.limit c.poll.ensures.says in
    let stopped = beside_stop h c.poll.new.pass c.stop.new.pass c.stop.result c.stop.ensures.rests c.stop.ensures.run.limit c.stop.ensures.says in
    beside_both h p c.stop.new.pass c.set_running.new.pass (beside_both h p c.poll.new.pass c.stop.new.pass polled stopped) c.set_running.ensures.beside
