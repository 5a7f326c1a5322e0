use Rattle.embed_example.proofs.After.{beside_both, beside_resume, beside_self, may_resume}
use Rattle.embed_example.proofs.set_running.Goals as goal

pub loop-init : goal.loop-init
loop-init g c = record { beside = beside_self c.args.heap.now c.args.pass.now c.requires.rests; stopped = c.requires.stopped }

pub resume-requires : goal.resume-requires
resume-requires g c = may_resume c.args.heap.now c.loop.pass c.loop.invariant.beside.rests c.loop.invariant.stopped

pub returns-in-Done-clause-beside : goal.returns-in-Done-clause-beside
returns-in-Done-clause-beside g c =
    let h = c.args.heap.now in
    let e = c.resume.ensures in
    beside_both h c.args.pass.now c.loop.pass c.resume.new.pass c.loop.invariant.beside
    (beside_resume h c.loop.pass c.resume.new.pass c.resume.result e.rests e.run.limit e.says)

pub returns-in-Done-clause-running : goal.returns-in-Done-clause-running
returns-in-Done-clause-running g c = c.in-Done.ensures.stands

pub returns-in-Pending-Halted-clause-beside : goal.returns-in-Pending-Halted-clause-beside
returns-in-Pending-Halted-clause-beside g c =
    let h = c.args.heap.now in
    let e = c.resume.ensures in
    beside_both h c.args.pass.now c.loop.pass c.resume.new.pass c.loop.invariant.beside
    (beside_resume h c.loop.pass c.resume.new.pass c.resume.result e.rests e.run.limit e.says)

pub returns-in-Pending-Halted-clause-stopped : goal.returns-in-Pending-Halted-clause-stopped
returns-in-Pending-Halted-clause-stopped g c = c.in-Pending-Halted.ensures.stands

-- a resume that is pending leaves its thread stopped, and is made again
pub loop-preserved : goal.loop-preserved
loop-preserved g c =
    let h = c.args.heap.now in
    let e = c.resume.ensures in
    record {
      beside = beside_both h c.args.pass.now c.loop.pass c.resume.new.pass c.loop.invariant.beside
          (beside_resume h c.loop.pass c.resume.new.pass c.resume.result e.rests e.run.limit e.says);
      stopped = c.in-Pending.ensures.stands;
    }
