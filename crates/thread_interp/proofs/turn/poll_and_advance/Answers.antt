use Rattle.std.proofs.Common.{sym, ◌∙◌, subst}
use Rattle.heap_table.specs.Seen.{PassSeen}
use Rattle.thread_calls.specs.Advances.{MayAdvance, HasAdvanced, progress_of}
use Rattle.thread_calls.specs.Timed.{StaysTimed}
use Rattle.thread_interp.proofs.CallsTimed.{poll_timed}
use Rattle.thread_interp.proofs.Turns.{progress_done, may_advance, poll_pended, advanced, went_on}
use Rattle.thread_interp.proofs.turn.poll_and_advance.Goals.{then-running+in_default, else-running}
use Rattle.thread_interp.proofs.turn.poll_and_advance.Goals as goal

pub poll-requires : goal.poll-requires
poll-requires g c =
    record { rests = c.requires.may.on.rests; may = sym c.running.ensures ∙ c.if-running.true }

pub returns-in-Pending-clause-polled : goal.returns-in-Pending-clause-polled
returns-in-Pending-clause-polled g c =
    let a = c.args in
    let run = a.run.now in
    let e = c.poll.ensures in
    poll_pended run.heap.now run.program.now run.fuel a.pass.now c.poll.new.pass a.frame.now c.requires.may e.rests
    c.poll.result e.run e.says e.stands c.in-Pending.why c.in-Pending.is

pub advance-requires-clause-may : goal.advance-requires-clause-may
advance-requires-clause-may g c =
    let a = c.args in
    let run = a.run.now in
    elim c.if-running.branch [
      | then-running+in_default w ↦
          let e = w.poll.ensures in
          subst (λ (x : PassSeen). MayAdvance run.heap.now run.program.now run.fuel x a.frame.now) (sym w.pass-is)
          (may_advance run.heap.now run.program.now run.fuel a.pass.now w.poll.new.pass a.frame.now c.requires.may e.rests
          w.poll.result e.run e.says e.stands)
      | else-running w ↦ subst (λ (x : PassSeen). MayAdvance run.heap.now run.program.now run.fuel x a.frame.now) (sym w.pass-is) c.requires.may
    ]

pub returns-clause-polled : goal.returns-clause-polled
returns-clause-polled g c =
    let a = c.args in
    let run = a.run.now in
    let q = c.advance.new.pass in
    let f = c.advance.new.frame in
    let did = c.advance.ensures.advanced in
    elim c.if-running.branch [
      | then-running+in_default w ↦
          let e = w.poll.ensures in
          advanced run.heap.now run.program.now run.fuel a.pass.now w.poll.new.pass a.frame.now c.requires.may e.rests
          w.poll.result e.run e.says e.stands (progress_done w.poll.result w.in_default.not-Pending) q f (progress_of c.advance.result c.advance.new.cause)
          (subst (λ (x : PassSeen). HasAdvanced run.heap.now run.program.now run.fuel x q a.frame.now f
          (progress_of c.advance.result c.advance.new.cause)) w.pass-is did)
      | else-running w ↦
          went_on run.heap.now run.program.now run.fuel a.pass.now q a.frame.now f c.requires.may
          (sym c.running.ensures ∙ w.if-running.false) (progress_of c.advance.result c.advance.new.cause)
          (subst (λ (x : PassSeen). HasAdvanced run.heap.now run.program.now run.fuel x q a.frame.now f
          (progress_of c.advance.result c.advance.new.cause)) w.pass-is did)
    ]

pub returns-in-Pending-clause-timed : goal.returns-in-Pending-clause-timed
returns-in-Pending-clause-timed g c =
    poll_timed c.args.run.now.heap.now c.args.pass.now c.poll.new.pass c.poll.result c.poll.ensures.run c.args.run.now.tick

pub returns-clause-timed : goal.returns-clause-timed
returns-clause-timed g c =
    let a = c.args in
    let run = a.run.now in
    let q = c.advance.new.pass in
    let did = c.advance.ensures.timed in
    elim c.if-running.branch [
      | then-running+in_default w ↦ λ timed.
          subst (λ (x : PassSeen). StaysTimed run.tick x q) w.pass-is did
          (poll_timed run.heap.now a.pass.now w.poll.new.pass w.poll.result w.poll.ensures.run run.tick timed)
      | else-running w ↦ subst (λ (x : PassSeen). StaysTimed run.tick x q) w.pass-is did
    ]
