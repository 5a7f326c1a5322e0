use Rattle.thread_interp.proofs.CallsTimed.{resume_timed}
use Rattle.thread_interp.proofs.Turns.{may_resume, ready_asking, ready_resumed}
use Rattle.std.proofs.Common.{sym, ◌∙◌}
use Rattle.thread_interp.proofs.turn.set_running.Goals as goal

pub resume-requires : goal.resume-requires
resume-requires g c =
    let a = c.args in
    let run = a.run.now in
    may_resume run.heap.now run.program.now run.fuel a.pass.now a.frame.now c.requires.on c.requires.still (sym c.requesting.ensures ∙ c.if-requesting.false)

pub returns-clause-ready : goal.returns-clause-ready
returns-clause-ready g c =
    let a = c.args in
    let run = a.run.now in
    let e = c.resume.ensures in
    ready_resumed run.heap.now run.program.now run.fuel a.pass.now a.frame.now c.requires.on c.requires.still c.resume.new.pass
    (sym c.requesting.ensures ∙ c.if-requesting.false) e.rests c.resume.result e.run e.says e.stands

pub returns-then-requesting-clause-ready : goal.returns-then-requesting-clause-ready
returns-then-requesting-clause-ready g c =
    let a = c.args in
    let run = a.run.now in
    ready_asking run.heap.now run.program.now run.fuel a.pass.now a.frame.now c.requires.on c.requires.still (sym c.requesting.ensures ∙ c.if-requesting.true)

pub returns-clause-timed : goal.returns-clause-timed
returns-clause-timed g c = resume_timed c.args.run.now.heap.now c.args.pass.now c.resume.new.pass c.resume.result c.resume.ensures.run
